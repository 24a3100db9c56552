-- Orders that try all their refusals first, and then take units out of a box.
use Rattle.std.proofs.Common.{◌≡◌, ℕ, Bool, false, cond, ltb, Ok, Err, sym, ap, ◌∙◌, arith}
use Rattle.rules.specs.declared.row.AccountRow.{AccountRow}
use Rattle.rules.specs.declared.refusal.Refusal.{Refusal}
use Rattle.rules.specs.declared.refusal.Refusal.TheVariants.{TooFewUnits}
use Rattle.rules.specs.Refusals.{Outcome, answered}
use Rattle.rules.specs.States.{State, Terms}
use Rattle.rules.specs.Orders.{Order, fewer, tests, effect, step}
use Rattle.rules.proofs.Decided.{decided_refused}
use Rattle.custody.specs.Boxes.{Boxes}
use Rattle.book.specs.Takes.{take_out}

-- units gone from a box
abbrev pub removed : Boxes → (b units : ℕ) → Boxes
removed boxes b units = record { limit = boxes.limit; held = fewer boxes.held b units }

-- a take, at box b under any name, of units that the box holds
pub took : (boxes boxes' : Boxes) (name b units : ℕ) (r : Outcome) →
    ◌≡◌ {A = Outcome × Boxes} (r, boxes') (take_out boxes name units) → name ≡ b → ltb (boxes.held b) units ≡ false → ◌≡◌ {A = Outcome × Boxes} (r, boxes') (Ok tt, removed boxes b units)
took boxes boxes' name b units r taken named enough =
    taken ∙ ap (λ (k : ℕ). take_out boxes k units) named ∙ ap (λ (few : Bool). cond few (Err TooFewUnits, boxes) (Ok tt, removed boxes b units)) enough

-- what is accepted was not refused
pub not_both : (r : Outcome) (refusal : Refusal) → r ≡ Ok tt → r ≡ Err refusal → ⊥
not_both r refusal ok err = let z : ◌≡◌ {A = ℕ} 0 1 = cc in omega arith

-- a state with other rows and other holdings
abbrev pub with_both : State → (ℕ → AccountRow) → (ℕ → ℕ) → State
with_both s rows held = record { rows = rows; opened = s.opened; standing = s.standing; price = s.price; haircut = s.haircut; held = held }

-- an order of which a check answered a refusal, whatever the check answers where it passes
pub refused : {X : Type 0} (T : Terms) (s : State) (order : Order) (value : X) (told : Outcome) (refusal : Refusal) →
    answered (tests T s order) value ≡ Err refusal → told ≡ Err refusal → ◌≡◌ {A = Outcome × State} (told, s) (step T s order)
refused T s order value told refusal e t = ap (λ (o : Outcome). (o, s)) t ∙ sym (decided_refused value s (effect s order) (tests T s order) refusal e)
