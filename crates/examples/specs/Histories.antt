-- Lists of orders for the law to speak of.
use Rattle.std.specs.Prelude.{ℕ, ◌-◌, ◌^◌, cond, List, [], ◌∷◌, map, nat_lt}
use Rattle.rules.specs.Sizes.{boxes, most_units}
use Rattle.rules.specs.States.{State, Terms, made}
use Rattle.rules.specs.Orders.{Order, opening, mark, position, declare, deposit, withdraw, suspend, settle, seize}
use Rattle.rules.specs.Runs.{run, history}

-- terms with all the room that a box can have and no margin asked, and terms with no room at all
abbrev pub ample : Terms
ample = record { limit = λ b. cond (nat_lt b boxes) most_units 0; house_amount = λ counts. 0; customer_amount = λ counts. 0 }

abbrev pub barren : Terms
barren = record { limit = λ b. 0; house_amount = λ counts. 0; customer_amount = λ counts. 0 }

-- what becomes of a book over the ample terms, and how it answers
abbrev pub outcome : List Order → State
outcome orders = run ample made orders

abbrev pub answers : List Order → List ℕ
answers orders = map (λ entry. entry.1) (history ample made orders)

-- 51 yen more than the customer may claim
abbrev pub sample : List Order
sample = opening 8 0 ∷ deposit 8 0 0 150 ∷ declare 8 0 100 80 ∷ withdraw 8 0 0 51 ∷ []

-- numbers that nothing has
abbrev pub strange : List Order
strange =
    opening 65535 9 ∷ deposit 65535 9 9 (2 ^ 64 - 1) ∷ withdraw 65535 9 9 (2 ^ 64 - 1) ∷ position 65535 9 (2 ^ 32 - 1) (2 ^ 32 - 1)
    ∷ declare 65535 (2 ^ 64 - 1) (2 ^ 64 - 1) (2 ^ 64 - 1) ∷ seize 9 65535 9 9 65535 (2 ^ 64 - 1) ∷ suspend 255 ∷ settle 255 ∷ mark 255 (2 ^ 32 - 1) 65535 ∷ []

-- out of the direct pocket, the replacement pocket and a house pocket
abbrev pub withdrawals : List Order
withdrawals =
    opening 8 0 ∷ deposit 8 0 0 100 ∷ deposit 8 1 0 300 ∷ declare 8 200 50 0 ∷ deposit 0 0 0 30
    ∷ withdraw 8 0 0 40 ∷ withdraw 8 1 0 100 ∷ withdraw 0 0 0 30 ∷ []

-- an account pays for itself: from the replacement pocket one yen too much, as much as there may be, then from the direct pocket
abbrev pub pays_for_itself : List Order
pays_for_itself =
    opening 8 0 ∷ deposit 8 0 0 100 ∷ deposit 8 1 0 50 ∷ declare 8 20 80 80 ∷ suspend 0
    ∷ seize 0 8 1 0 8 21 ∷ seize 0 8 1 0 8 20 ∷ seize 0 8 0 0 8 60 ∷ []

-- a house pocket pays for its own account
abbrev pub house_pays : List Order
house_pays = deposit 0 0 0 50 ∷ declare 0 0 0 30 ∷ suspend 0 ∷ seize 1 0 0 0 0 31 ∷ seize 1 0 0 0 0 30 ∷ []

-- a replacement pocket pays for the rest of its own account's debt
abbrev pub replacement_pays : List Order
replacement_pays = opening 8 0 ∷ deposit 8 1 0 100 ∷ declare 8 40 0 70 ∷ suspend 0 ∷ seize 1 8 1 0 8 61 ∷ seize 1 8 1 0 8 60 ∷ []

-- a deposit that does not fit
abbrev pub overfull : List Order
overfull = opening 8 0 ∷ deposit 8 0 0 150 ∷ deposit 8 0 0 most_units ∷ []

-- one share at 15 is seized from a box of so many, for a debt on account 8
abbrev pub share_seized : ℕ → List Order
share_seized shares = opening 8 0 ∷ opening 9 0 ∷ mark 3 15 0 ∷ deposit 9 1 3 shares ∷ declare 8 0 0 10 ∷ suspend 0 ∷ seize 1 9 1 3 8 1 ∷ []

-- replacement margin beyond the customer margin, and debts on both accounts
abbrev pub both_sides : List Order
both_sides = opening 8 0 ∷ deposit 8 1 0 300 ∷ declare 8 200 50 120 ∷ deposit 0 0 0 30 ∷ declare 0 0 0 20 ∷ []

-- the counts of a participant in default
abbrev pub closing : List Order
closing =
    opening 8 0 ∷ position 8 0 5 0 ∷ suspend 0 ∷ position 8 0 5 5 ∷ position 8 0 5 0 ∷ position 8 0 4 0
    ∷ settle 0 ∷ position 8 0 0 0 ∷ settle 0 ∷ settle 0 ∷ []
