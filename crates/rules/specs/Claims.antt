-- How what is deposited for a customer account is shared out between the customer, its participant and the clearing
-- house. Every split is the same one: of a quantity and a bound on it, the lesser of the two goes one way and the
-- remainder of the quantity the other.
use Rattle.std.specs.Prelude.{ℕ, ◌+◌, ◌-◌, min}
use Rattle.rules.specs.declared.row.AccountRow.{AccountRow}

abbrev pub lesser : (quantity bound : ℕ) → ℕ
lesser quantity bound = min quantity bound

abbrev pub remainder : (quantity bound : ℕ) → ℕ
remainder quantity bound = quantity - min quantity bound

-- Replacement margin stands in for what the customer placed with its participant, the customer margin: up to that
-- amount it belongs to the customer's own pool, beside the direct margin. What exceeds it is the participant's.
abbrev pub own_pool_of : (direct replacement : ℕ) → AccountRow → ℕ
own_pool_of direct replacement row = direct + lesser replacement row.declared.customer_margin

abbrev pub excess_of : (replacement : ℕ) → AccountRow → ℕ
excess_of replacement row = remainder replacement row.declared.customer_margin

-- First tier. Of the own pool, as much as the customer owes its participant is withheld; the customer may claim
-- the remainder.
abbrev pub withheld_of : (own_pool : ℕ) → AccountRow → ℕ
withheld_of own_pool row = lesser own_pool row.declared.customer_debt

abbrev pub claim_of : (own_pool : ℕ) → AccountRow → ℕ
claim_of own_pool row = remainder own_pool row.declared.customer_debt

-- Second tier. Of what is withheld, as much as the participant owes the clearing house on this account is kept by
-- the clearing house; the remainder is passed on to the participant.
abbrev pub kept_of : (withheld : ℕ) → AccountRow → ℕ
kept_of withheld row = lesser withheld row.declared.participant_debt

abbrev pub passed_on_of : (withheld : ℕ) → AccountRow → ℕ
passed_on_of withheld row = remainder withheld row.declared.participant_debt

-- The rest of the participant's debt on this account, for which its own deposits answer.
abbrev pub rest_of : (withheld : ℕ) → AccountRow → ℕ
rest_of withheld row = remainder row.declared.participant_debt withheld
