use Rattle.std.proofs.Common.{◌≡◌}
use Rattle.orders.specs.Walks.{orders_in, left}
use Rattle.orders.proofs.Going.{Going}
use Rattle.orders.proofs.run.perform_all.Given as goal

abbrev pub invariant-loop-answer : goal.invariant-loop-answer
invariant-loop-answer g l =
    Going (g.B.MarginBook.terms l.initial.book) (g.B.MarginBook.state l.initial.book) l.initial.answers (orders_in l.file)
    l.answer-index (g.B.MarginBook.state l.book) l.answers (left l.orders)
    × (g.B.MarginBook.terms l.book ≡ g.B.MarginBook.terms l.initial.book)
