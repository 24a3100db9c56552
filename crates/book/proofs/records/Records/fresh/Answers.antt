use Rattle.std.proofs.Common.{None}
use mathlib.Core.Path.{fun_ext}
use Rattle.rules.specs.declared.standing.Standing.TheVariants.{Active}
use Rattle.rules.specs.Sizes.{accounts, participants}
use Rattle.rules.specs.States.{made}
use Rattle.rules.proofs.Same.{get_or_same}
use Rattle.book.proofs.Fresh.{fresh_price, fresh_haircut, fresh_is}
use Rattle.book.proofs.records.Records.fresh.Goals as goal

pub returns : goal.returns
unfolding made
returns c boxes = fresh_is _ _ _ _ _ boxes.held c.empty.ensures (fun_ext (get_or_same accounts None)) (fun_ext (get_or_same participants Active)) (fun_ext fresh_price) (fun_ext fresh_haircut)
