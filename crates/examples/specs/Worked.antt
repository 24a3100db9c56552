-- The worked figures, by the definitions that the contracts cite. What is not named is 0.
use Rattle.std.specs.Prelude.{◌≡◌, ℕ, List, ◌∷◌, replicate, ℤ, pos, negsuc, Ok}
use Rattle.rules.specs.declared.row.Counts.{Counts}
use Rattle.rules.specs.declared.row.AccountRow.{AccountRow}
use Rattle.rules.specs.Values.{market, applied}
use Rattle.rules.specs.Claims.{own_pool_of, withheld_of, claim_of, kept_of, rest_of}
use Rattle.rules.specs.States.{lots, amounts, flat}
use Rattle.rules.specs.Figures.{ask_customer, ask_participant}
use Rattle.margin.specs.Rates.{net_amount, gross_amount}
use Rattle.margin.specs.Losses.{worst_loss}
use Rattle.examples.specs.Histories.{outcome, both_sides}

-- a row with debts and nothing else
abbrev owing : (customer_debt participant_debt : ℕ) → AccountRow
owing customer_debt participant_debt = record { counts = flat; declared = amounts 0 customer_debt participant_debt }

-- counts of contract 0 and of no other, and a rate for all contracts
abbrev first_contract : (long short : ℕ) → Counts
first_contract long short = record { each = lots long short ∷ replicate 7 (lots 0 0) }

abbrev all_at : ℕ → List ℕ
all_at rate = replicate 8 rate

-- one scenario in which contract 0 falls by 50,000, and fifteen in which nothing moves
abbrev one_fall : List (List ℤ)
one_fall = (negsuc 49999 ∷ replicate 7 (pos 0)) ∷ replicate 15 (replicate 8 (pos 0))

pub record WorkedFigures : Type 0 where
  pub currency : (market 1 15025 12345 ≡ 18548) × (applied 18548 50 ≡ 17620)
  pub bonds : (market 2 9850 1000000 ≡ 985000) × (applied 985000 20 ≡ 965300)
  pub shares : market 3 1234 7 ≡ 863
  pub net_and_gross : (net_amount (all_at 60000) (first_contract 5 3) ≡ 120000) × (gross_amount (all_at 60000) (first_contract 5 3) ≡ 480000)
  pub worst : (worst_loss one_fall (first_contract 5 3) ≡ 100000) × (worst_loss one_fall (first_contract 3 5) ≡ 0)
  -- 150 deposited directly, debts 100 and 80
  pub both_debts :
      let row = owing 100 80 in
      let own = own_pool_of 150 0 row in
      (claim_of own row ≡ 50) × (kept_of (withheld_of own row) row ≡ 80) × (rest_of (withheld_of own row) row ≡ 0)
  -- 60 deposited directly, the customer owes 100
  pub too_little : claim_of (own_pool_of 60 0 (owing 100 0)) (owing 100 0) ≡ 0
  -- a replacement pocket of 300 for a customer margin of 200, debts on both accounts
  pub replacement_and_house : (ask_customer (outcome both_sides) 8 ≡ Ok (150, 50)) × (ask_participant (outcome both_sides) 0 ≡ Ok (40, 140))
