use Rattle.std.proofs.Common.{◌≡◌, ◌+◌, ◌≤◌, length}
use Rattle.orders.specs.Reading.{most_bytes}
use Rattle.orders.specs.Walks.{orders_in, left, counted}
use Rattle.orders.proofs.run.check.Given as goal

abbrev pub invariant-loop-order : goal.invariant-loop-order
invariant-loop-order l =
    (counted l.orders (left l.order-iterator) ≡ counted 0 (orders_in l.file))
    × (l.orders + length l.order-iterator.rest.now ≤ most_bytes)
