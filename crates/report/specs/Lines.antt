-- What a line of the output is, byte by byte: a word and decimal numbers, parted by one space each, and a newline. The
-- whole output is such lines one after the other, so that what is printed is known to the last byte.
use Rattle.std.specs.Prelude.{ℕ, zero, suc, List, [], ◌∷◌, ◌++◌, decimal}

-- what follows the word: for each number a space and its digits, and then the newline
abbrev pub fields : (numbers : List ℕ) → List ℕ
fields [] = 10 ∷ []
fields (n ∷ numbers) = 32 ∷ (decimal n ++ fields numbers)

abbrev pub line : (word numbers : List ℕ) → List ℕ
line word numbers = word ++ fields numbers

-- the texts of 0, 1, .. and n - 1, one after the other
unfoldable pub in_turn : (n : ℕ) (text : ℕ → List ℕ) → List ℕ
in_turn zero text = []
in_turn (suc n) text = in_turn n text ++ text n
