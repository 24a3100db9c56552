use Rattle.std.proofs.Common.{◌<◌, length, ◌∙◌}
use Rattle.orders.specs.RawOrders.{meant}
use Rattle.std.proofs.lemmas.List.{set-get_or}
use Rattle.orders.proofs.Going.{onward, done}
use Rattle.orders.proofs.run.perform_all.Goals as goal

pub loop-answer-preserved : goal.loop-answer-preserved
loop-answer-preserved g c =
    let i = c.loop-answer.invariant in
    let more : c.loop-answer.answer-index < length c.loop-answer.answers = rw c.loop-answer.auto.answers c.loop-answer-test.true in (
      onward (meant c.in-Some-Ok.order.raw) c.perform.result i.0 (rw c.in-Some-Ok.field-0-is at c.in-Some-Ok.ensures.steps) more i.1 c.perform.ensures.state c.perform.ensures.number,
      c.perform.ensures.same ∙ i.1,
    )

-- the place of which nothing came is as it was
pub returns-in_default-2-clause-list : goal.returns-in_default-2-clause-list
returns-in_default-2-clause-list g c =
    set-get_or c.loop-answer.answers c.loop-answer.answer-index 0 ∙ (done c.loop-answer.invariant.0 (rw c.in_default.is at c.next.ensures.steps).0).1
