-- A book straight from its making.
use Rattle.std.proofs.Common.{◌≡◌, ℕ, zero, suc, cond, eqb, [], ◌∷◌, replicate, Option, List, refl, arith}
use Rattle.std.proofs.lemmas.Bool.Decides.{nat_tests}
use Rattle.rules.specs.declared.row.AccountRow.{AccountRow}
use Rattle.rules.specs.declared.standing.Standing.{Standing}
use Rattle.rules.specs.Sizes.{accounts, most_haircut}
use Rattle.rules.specs.States.{State, Countable, flat, empty_row, made}
use Rattle.rules.specs.Orders.{with_held}
use Rattle.rules.proofs.Same.{get_or_same, none_flat}
use Rattle.book.specs.declared.mark.Mark.{Mark}
use Rattle.book.specs.Tables.{AllAllowed, yen_mark, unmarked, mark_of}

countable : Countable flat
countable k h = rw (none_flat k) (omega arith, omega arith)

pub all_allowed : AllAllowed (replicate accounts empty_row)
all_allowed account = rw (get_or_same accounts empty_row account) (record { counts = countable; amounts = (omega arith, omega arith, omega arith); house_row = λ h. (refl, refl) })

-- the marks of a fresh book, yen at its own
abbrev pub fresh_marks : List Mark
fresh_marks = yen_mark ∷ unmarked ∷ unmarked ∷ unmarked ∷ []

pub fresh_price : (asset : ℕ) → (mark_of fresh_marks asset).price ≡ cond (eqb asset 0) 1 0
fresh_price zero = refl
fresh_price (suc zero) = refl
fresh_price (suc (suc zero)) = refl
fresh_price (suc (suc (suc zero))) = refl
fresh_price (suc (suc (suc (suc n)))) = grind (arith, nat_tests)

pub fresh_haircut : (asset : ℕ) → (mark_of fresh_marks asset).haircut ≡ cond (eqb asset 0) 0 most_haircut
fresh_haircut zero = refl
fresh_haircut (suc zero) = refl
fresh_haircut (suc (suc zero)) = refl
fresh_haircut (suc (suc (suc zero))) = refl
fresh_haircut (suc (suc (suc (suc n)))) = grind (arith, nat_tests)

-- part by part
pub fresh_is : (rows : ℕ → AccountRow) (opened : ℕ → Option ℕ) (standing : ℕ → Standing) (price haircut held : ℕ → ℕ) →
    rows ≡ made.rows → opened ≡ made.opened → standing ≡ made.standing → price ≡ made.price → haircut ≡ made.haircut →
    ◌≡◌ {A = State} (record { rows = rows; opened = opened; standing = standing; price = price; haircut = haircut; held = held }) (with_held made held)
fresh_is rows opened standing price haircut held a b c d e = cc
