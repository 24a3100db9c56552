-- The byte page: what a memory of bytes means as boxes, and what it holds after each call. Bytes 8 × b to 8 × b + 7 of
-- the memory are the number of box b, highest byte first.
use Rattle.std.specs.Prelude.{ℕ, ◌+◌, ◌*◌, ◌/◌, ◌%◌, List, [], ◌∷◌, ◌++◌, length, take, drop, replicate, fold}
use Rattle.custody.specs.Boxes.{Boxes}
use Rattle.custody.specs.Layouts.{Layout, boxes_of, cleared_memory, put_memory, take_memory}

-- the number that bytes write, and the eight bytes that write a number
abbrev pub word : List ℕ → ℕ
word bytes = fold (λ n byte. n * 256 + byte) 0 bytes

abbrev pub bytes_of : ℕ → List ℕ
bytes_of n =
    (n / 72057594037927936 % 256) ∷ (n / 281474976710656 % 256) ∷ (n / 1099511627776 % 256) ∷ (n / 4294967296 % 256)
    ∷ (n / 16777216 % 256) ∷ (n / 65536 % 256) ∷ (n / 256 % 256) ∷ (n % 256) ∷ []

-- the number stored for box b, and the memory with another number there
abbrev pub word_at : List ℕ → (b : ℕ) → ℕ
word_at bytes b = word (take 8 (drop (b * 8) bytes))

abbrev pub stored : List ℕ → (b n : ℕ) → List ℕ
stored bytes b n = take (b * 8) bytes ++ (bytes_of n ++ drop (b * 8 + 8) bytes)

-- only a box with all of its eight bytes in memory is served
abbrev pub room : List ℕ → ℕ
room bytes = length bytes / 8

-- a part of a box at the end, and bytes past the last box, are never written
abbrev pub page_layout : Layout ℕ
page_layout = record { room = room; number = word_at; stored = stored; cleared = λ bytes n. replicate (n * 8) 0 ++ drop (n * 8) bytes }

abbrev pub page : List ℕ → Boxes
page = boxes_of page_layout

abbrev pub cleared_page : List ℕ → List ℕ
cleared_page = cleared_memory page_layout

abbrev pub put_page : List ℕ → (b units : ℕ) → List ℕ
put_page = put_memory page_layout

abbrev pub take_page : List ℕ → (b units : ℕ) → List ℕ
take_page = take_memory page_layout
