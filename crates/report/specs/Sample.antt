-- A whole file and all that is printed of it, byte by byte. Account 8 is opened under participant 0, 150 yen are
-- deposited for it, a customer's debt of 100 and a participant's debt of 80 are declared, and then the customer asks for
-- 51 yen, which is one more than it may claim.
use Rattle.std.specs.Prelude.{◌≡◌, ℕ, List, [], ◌∷◌, ◌++◌, codes}
use Rattle.report.specs.Printed.{printed}

abbrev pub sample_file : List ℕ
sample_file =
    (1 ∷ 8 ∷ 0 ∷ [])
    ++ (5 ∷ 8 ∷ 0 ∷ 0 ∷ 0 ∷ 0 ∷ 0 ∷ 0 ∷ 0 ∷ 0 ∷ 0 ∷ 150 ∷ [])
    ++ (4 ∷ 8 ∷ 0 ∷ 0 ∷ 0 ∷ 0 ∷ 0 ∷ 0 ∷ 0 ∷ 0 ∷ 0 ∷ 0 ∷ 0 ∷ 0 ∷ 0 ∷ 0 ∷ 0 ∷ 100 ∷ 0 ∷ 0 ∷ 0 ∷ 0 ∷ 0 ∷ 0 ∷ 0 ∷ 80 ∷ [])
    ++ (6 ∷ 8 ∷ 0 ∷ 0 ∷ 0 ∷ 0 ∷ 0 ∷ 0 ∷ 0 ∷ 0 ∷ 0 ∷ 51 ∷ [])

abbrev pub sample_output : List ℕ
sample_output = codes "ORDER 1 0\nORDER 2 0\nORDER 3 0\nORDER 4 14\nCUST 8 0 50\nPART 0 20 80\nPART 1 0 0\nPART 2 0 0\nPART 3 0 0\nPART 4 0 0\nPART 5 0 0\nPART 6 0 0\nPART 7 0 0\n"

abbrev pub SampleStands : Type 0
SampleStands = printed sample_file ≡ sample_output
