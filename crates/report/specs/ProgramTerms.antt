-- What the program's book is made over: all the room that a box can have, net margin for house accounts and gross
-- margin for customers', at one rate for all contracts.
use Rattle.std.specs.Prelude.{ℕ, cond, List, replicate, nat_lt}
use Rattle.rules.specs.Sizes.{contracts, boxes, most_units}
use Rattle.rules.specs.States.{Terms}
use Rattle.margin.specs.Rates.{net_amount, gross_amount}

-- yen of margin for a lot, contract by contract
abbrev pub rates : List ℕ
rates = replicate contracts 60000

abbrev pub program_terms : Terms
program_terms = record {
  limit = λ b. cond (nat_lt b boxes) most_units 0;
  house_amount = net_amount rates;
  customer_amount = gross_amount rates;
}
