-- Memory that a caller lends, with a number for each box in it: what a memory means as boxes, and what it holds after
-- each call, whatever cells it is made of.
use Rattle.std.specs.Prelude.{◌≡◌, ℕ, ◌+◌, ◌-◌, ◌^◌, ◌<◌, ◌≤◌, min, cond, List, ◌==◌}
use Rattle.custody.specs.Boxes.{Boxes}
use Rattle.custody.specs.Served.{served, limit_of}
use Rattle.custody.specs.Moves.{passes_limit, passes_holding}

-- How the numbers lie in a memory of cells: how many boxes have their whole number there, the number of box b, the
-- memory with n as the number of box b, and the memory with 0 as the number of each of the first n boxes.
pub record Layout (Cell : Type 0) : Type 0 where
  pub room : List Cell → ℕ
  pub number : List Cell → (b : ℕ) → ℕ
  pub stored : List Cell → (b n : ℕ) → List Cell
  pub cleared : List Cell → (n : ℕ) → List Cell

-- What a layout has to keep: a number is read as it was written, a write for one box changes the number of no other, and
-- no write makes room for more boxes or fewer.
pub record LawfulLayout {Cell : Type 0} (layout : Layout Cell) : Type 0 where
  pub room_stored : (memory : List Cell) (b n : ℕ) → b < layout.room memory → layout.room (layout.stored memory b n) ≡ layout.room memory
  pub number_stored : (memory : List Cell) (b n k : ℕ) → b < layout.room memory → n < 2 ^ 64 → k < layout.room memory
      → layout.number (layout.stored memory b n) k ≡ cond (k == b) n (layout.number memory k)
  pub room_cleared : (memory : List Cell) (n : ℕ) → n ≤ layout.room memory → layout.room (layout.cleared memory n) ≡ layout.room memory
  pub number_cleared : (memory : List Cell) (n k : ℕ) → n ≤ layout.room memory → k < n → layout.number (layout.cleared memory n) k ≡ 0

-- a stored number above the limit reads as the limit
abbrev pub boxes_of : {Cell : Type 0} → Layout Cell → List Cell → Boxes
boxes_of layout memory = record { limit = limit_of (layout.room memory); held = λ b. min (layout.number memory b) (limit_of (layout.room memory) b) }

-- Clear writes 0 for every box that is served; all else in the memory stays.
abbrev pub cleared_memory : {Cell : Type 0} → Layout Cell → List Cell → List Cell
cleared_memory layout memory = layout.cleared memory (served (layout.room memory))

-- Put and take write the new holding of their box; a refusal and 0 units write nothing.
abbrev pub put_memory : {Cell : Type 0} → Layout Cell → List Cell → (b units : ℕ) → List Cell
put_memory layout memory b units =
    cond (passes_limit (boxes_of layout memory) b units) memory (cond (units == 0) memory (layout.stored memory b ((boxes_of layout memory).held b + units)))

abbrev pub take_memory : {Cell : Type 0} → Layout Cell → List Cell → (b units : ℕ) → List Cell
take_memory layout memory b units =
    cond (passes_holding (boxes_of layout memory) b units) memory (cond (units == 0) memory (layout.stored memory b ((boxes_of layout memory).held b - units)))
