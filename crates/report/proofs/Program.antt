-- The program's book is a fresh one over the program's terms.
use Rattle.std.proofs.Common.{◌≡◌, ℕ, ◌*◌, Bool, true, false, cond, List, length, refl, ap, ◌∙◌}
use mathlib.Core.Path.{fun_ext}
use Rattle.rules.specs.Sizes.{boxes}
use Rattle.rules.specs.States.{State, Terms, made as new_book}
use Rattle.custody.specs.Registers.{register}
use Rattle.custody.specs.Pages.{page}
use Rattle.custody.specs.Splits.{of_yen, split}
use Rattle.margin.specs.Rates.{net_amount, gross_amount}
use Rattle.report.specs.ProgramTerms.{rates, program_terms}
use Rattle.report.specs.Printed.{printed, printed_from}

-- either side of the split has the box
either_way : (t : Bool) (n : ℕ) → cond t n n ≡ n
either_way true n = refl
either_way false n = refl

-- a split of a whole register and a whole page has all the room that there is
pub whole_room : (cells bytes : List ℕ) → length cells ≡ boxes → length bytes ≡ boxes * 8 → (b : ℕ) → (split (register cells) (page bytes)).limit b ≡ program_terms.limit b
whole_room cells bytes c d b = rw (c, d) (either_way (of_yen b) _)

pub terms_are : (room : ℕ → ℕ) (house customers : List ℕ) → ((b : ℕ) → room b ≡ program_terms.limit b) → house ≡ rates → customers ≡ rates
    → record { limit = room; house_amount = net_amount house; customer_amount = gross_amount customers } ≡ program_terms
terms_are room house customers whole h d =
    ap (λ (limit : ℕ → ℕ). record { limit = limit; house_amount = net_amount house; customer_amount = gross_amount customers }) (fun_ext whole)
    ∙ rw (h, d) refl

pub fresh_printed : (T : Terms) (s : State) (file : List ℕ) → T ≡ program_terms → s ≡ new_book → printed_from T s file ≡ printed file
unfolding printed
fresh_printed T s file t f = rw (t, f) refl
