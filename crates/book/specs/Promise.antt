-- What a book over terms T promises, whose making leaves it in state s.
use Rattle.std.specs.Prelude.{◌≡◌}
use Rattle.rules.specs.States.{State, Terms, Lawful, made}
use Rattle.rules.specs.Law.{LawOf}

pub record Promise (T : Terms) (s : State) : Type 0 where
  -- the custodian and the two methods keep their laws
  pub lawful : Lawful T
  -- its making leaves it in the state from which the runs of the law start
  pub fresh : s ≡ made
  -- (a), (b) and (c) stand after every list of orders from there, (b) against a second book over any lawful terms
  pub stands : LawOf T
