use Rattle.std.proofs.Common.{length, ap, ◌∙◌}
use Rattle.report.proofs.Program.{whole_room}
use Rattle.report.proofs.answer.answer.Goals as goal

pub print_fresh-requires : goal.print_fresh-requires
print_fresh-requires c =
    whole_room _ _
    (ap (λ r. length r.memory.now) c.new-custody.ensures.first ∙ ap length c.new.ensures.memory ∙ c.deref_mut.ensures.len ∙ c.in_ok-numbers.ensures.len)
    (ap (λ p. length p.memory.now) c.new-custody.ensures.second ∙ ap length c.new-2.ensures.memory ∙ c.deref_mut-2.ensures.len ∙ c.in_ok-bytes.ensures.len)
