use Rattle.std.proofs.Common.{ℕ, ap, ◌∙◌}
use mathlib.Core.Path.{fun_ext}
use Rattle.rules.specs.States.{Terms, made}
use Rattle.rules.specs.Orders.{with_held}
use Rattle.rules.proofs.Whole.{law}
use Rattle.book.specs.BookLaws.{lawful}
use Rattle.book.proofs.book.Book.new.Goals as goal

pub returns : goal.returns
unfolding made
returns g c =
    let custody = c.clear.new.self in
    let house = g.HouseMethod.MarginMethod.amount c.args.house in
    let customers = g.CustomerMethod.MarginMethod.amount c.args.customers in
    let over : (ℕ → ℕ) → Terms = λ limit. record { limit = limit; house_amount = house; customer_amount = customers } in
    let terms_lawful = lawful g.Custody.Custodian.boxes g.Custody.Custodian.laws custody house customers (g.HouseMethod.MarginMethod.laws c.args.house) (g.CustomerMethod.MarginMethod.laws c.args.customers) in
    let fresh = c.fresh.ensures (g.Custody.Custodian.boxes custody) ∙ ap (with_held made) (fun_ext c.clear.ensures.moved.empty) in
    record {
      state = fresh;
      promise = record {
        lawful = terms_lawful;
        fresh = fresh;
        stands = law _ terms_lawful;
      };
      terms = ap over (fun_ext c.clear.ensures.moved.fixed);
    }
