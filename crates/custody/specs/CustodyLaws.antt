-- Custodians over lent memory, registers and pages among them, and splits keep the laws of a custodian.
use Rattle.std.specs.Prelude.{◌≡◌, ℕ, ◌≤◌, Bool, true, false, cond, ltb, List, nat_lt}
use Rattle.std.proofs.Common.{arith}
use Rattle.std.proofs.lemmas.Bool.{le-ltb}
use Rattle.rules.specs.Sizes.{boxes as box_count, most_units}
use Rattle.custody.specs.Boxes.{Boxes, Lawful}
use Rattle.custody.specs.Served.{served, limit_of}
use Rattle.custody.specs.Layouts.{Layout, boxes_of}
use Rattle.custody.specs.Registers.{register, register_layout}
use Rattle.custody.specs.Pages.{page, page_layout}
use Rattle.custody.specs.Splits.{of_yen, split}

pub limit_bounded : (n b : ℕ) → limit_of n b ≤ most_units
limit_bounded n b = elim (nat_lt b (served n)) as (λ t. cond t most_units 0 ≤ most_units) [ true ↦ omega arith | false ↦ omega arith ]

pub no_limit_beyond : (n b : ℕ) → box_count ≤ b → limit_of n b ≡ 0
no_limit_beyond n b h = let f : ltb b (served n) ≡ false = le-ltb b (served n) (omega arith) in rw f

pub lent_lawful : {S Cell : Type 0} (layout : Layout Cell) (memory : S → List Cell) → Lawful (λ s. boxes_of layout (memory s))
lent_lawful layout memory = record {
  bounded = λ s. limit_bounded (layout.room (memory s));
  none_beyond = λ s. no_limit_beyond (layout.room (memory s));
  within = λ s b. omega arith;
}

pub register_lawful : {S : Type 0} (cells : S → List ℕ) → Lawful (λ s. register (cells s))
register_lawful = lent_lawful register_layout

pub page_lawful : {S : Type 0} (bytes : S → List ℕ) → Lawful (λ s. page (bytes s))
page_lawful = lent_lawful page_layout

-- what holds of both sides holds of the side that has the box
either : (t : Bool) (P : ℕ → Type 0) (x y : ℕ) → P x → P y → P (cond t x y)
either true P x y p q = p
either false P x y p q = q

both : (t : Bool) (x y v w : ℕ) → x ≤ v → y ≤ w → cond t x y ≤ cond t v w
both true x y v w p q = p
both false x y v w p q = q

pub split_lawful : {S First Second : Type 0} (f : S → First) (g : S → Second) (p : First → Boxes) (q : Second → Boxes) → Lawful p → Lawful q → Lawful (λ s. split (p (f s)) (q (g s)))
split_lawful f g p q l m = record {
  bounded = λ s b. either (of_yen b) (λ n. n ≤ most_units) ((p (f s)).limit b) ((q (g s)).limit b) (l.bounded (f s) b) (m.bounded (g s) b);
  none_beyond = λ s b k. either (of_yen b) (λ n. n ≡ 0) ((p (f s)).limit b) ((q (g s)).limit b) (l.none_beyond (f s) b k) (m.none_beyond (g s) b k);
  within = λ s b. both (of_yen b) ((p (f s)).held b) ((q (g s)).held b) ((p (f s)).limit b) ((q (g s)).limit b) (l.within (f s) b) (m.within (g s) b);
}
