-- A law of both memories in the custodian's own words: what is stored for a box is read again as its holding, by
-- whoever makes a custodian over the same memory, and no other box is disturbed.
use Rattle.std.specs.Prelude.{◌≡◌, ℕ, ◌<◌, ◌≤◌, cond, List, length, ◌==◌, slice_set}
use Rattle.rules.specs.Sizes.{most_units}
use Rattle.custody.specs.Boxes.{Boxes}
use Rattle.custody.specs.Served.{served}
use Rattle.custody.specs.Registers.{register}
use Rattle.custody.specs.Pages.{room, page, stored}

-- of a way to read a memory as boxes, how many boxes it has room for, and a way to store a number for one
abbrev pub Remembers : (List ℕ → Boxes) → (List ℕ → ℕ) → (List ℕ → ℕ → ℕ → List ℕ) → Type 0
Remembers boxes room store =
    (memory : List ℕ) (b units : ℕ) → b < served (room memory) → units ≤ most_units →
    (k : ℕ) → (boxes (store memory b units)).held k ≡ cond (k == b) units ((boxes memory).held k)

pub record Remembered : Type 0 where
  pub by_registers : Remembers register length slice_set
  pub by_pages : Remembers page room stored
