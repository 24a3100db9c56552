use Rattle.std.proofs.Common.{◌≡◌, ℕ, ◌<◌, ◌≤◌, List, cond, eqb, ap, arith}
use Rattle.rules.specs.Sizes.{most_units}
use Rattle.custody.specs.Served.{served, limit_of}
use Rattle.custody.specs.Layouts.{Layout, LawfulLayout, boxes_of}
use Rattle.custody.specs.LayoutLaws.{register_layout_lawful, page_layout_lawful}
use Rattle.custody.specs.Registers.{register_layout}
use Rattle.custody.specs.Pages.{page_layout}
use Rattle.custody.proofs.memory.memory_remembers.Goals as goal

-- what each box holds once n is stored for box b, whatever the layout
held_stored : {Cell : Type 0} (layout : Layout Cell) → LawfulLayout layout → (memory : List Cell) (b n : ℕ) → b < served (layout.room memory) → n ≤ most_units
    → (k : ℕ) → (boxes_of layout (layout.stored memory b n)).held k ≡ cond (eqb k b) n ((boxes_of layout memory).held k)
held_stored layout laws memory b n inside most k =
    let same = ap (λ (r : ℕ). limit_of r k) (laws.room_stored memory b n (omega arith)) in
    let number = laws.number_stored memory b n k (omega arith) (omega arith) in
    grind arith

pub returns : goal.returns
returns c = record { by_registers = held_stored register_layout register_layout_lawful; by_pages = held_stored page_layout page_layout_lawful }
