-- A take out of a box, as the answer of an order and the boxes after it.
use Rattle.std.specs.Prelude.{ℕ, [], ◌∷◌, nat_lt}
use Rattle.rules.specs.declared.refusal.Refusal.TheVariants.{TooFewUnits}
use Rattle.rules.specs.Refusals.{Outcome, decided}
use Rattle.rules.specs.Orders.{fewer}
use Rattle.custody.specs.Boxes.{Boxes}

abbrev pub take_out : Boxes → (b units : ℕ) → Outcome × Boxes
take_out boxes b units = decided boxes ((TooFewUnits, nat_lt (boxes.held b) units) ∷ []) (record { limit = boxes.limit; held = fewer boxes.held b units })
