-- The number register: what a memory of numbers means as boxes, and what it holds after each call. The number at
-- place b of the memory is that of box b.
use Rattle.std.specs.Prelude.{ℕ, List, ◌++◌, length, drop, replicate, slice_index, slice_set}
use Rattle.custody.specs.Boxes.{Boxes}
use Rattle.custody.specs.Layouts.{Layout, boxes_of, cleared_memory, put_memory, take_memory}

abbrev pub register_layout : Layout ℕ
register_layout = record { room = length; number = slice_index; stored = slice_set; cleared = λ cells n. replicate n 0 ++ drop n cells }

abbrev pub register : List ℕ → Boxes
register = boxes_of register_layout

abbrev pub cleared_cells : List ℕ → List ℕ
cleared_cells = cleared_memory register_layout

abbrev pub put_cells : List ℕ → (b units : ℕ) → List ℕ
put_cells = put_memory register_layout

abbrev pub take_cells : List ℕ → (b units : ℕ) → List ℕ
take_cells = take_memory register_layout
