-- Whole runs of orders: what a book comes to, what is on record of it, and what the record says by itself.
use Rattle.std.specs.Prelude.{ℕ, Bool, true, false, cond, ◌&&◌, ◌||◌, List, [], ◌∷◌, Some, None, fold, Option, ◌==◌}
use Rattle.rules.specs.Sizes.{box, put}
use Rattle.rules.specs.States.{State, Terms}
use Rattle.rules.specs.Figures.{account_value, over}
use Rattle.rules.specs.Orders.{Order, opening, mark, position, declare, deposit, withdraw, suspend, settle, seize, more, fewer, answer, after}

-- the state after a list of orders, accepted or refused
unfoldable pub run : Terms → State → List Order → State
run T s [] = s
run T s (order ∷ orders) = run T (after T s order) orders

-- A history is a list of orders, each with the number that it was answered. This is the history of a run.
abbrev pub History : Type 0
History = List (Order × ℕ)

unfoldable pub history : Terms → State → List Order → History
history T s [] = []
history T s (order ∷ orders) = (order, answer T s order) ∷ history T (after T s order) orders

-- THE TALLY. A control account kept beside the book, which sees orders and their answers and nothing else: who opened
-- what under whom, at what prices, and how many units went in and out of each box. It decides nothing, and orders that
-- were refused leave no trace in it.
pub record Tally : Type 0 where
  pub opened : ℕ → Option ℕ
  pub price : ℕ → ℕ
  pub units : ℕ → ℕ

unfoldable pub empty_tally : Tally
empty_tally = record { opened = λ account. None; price = λ asset. cond (asset == 0) 1 0; units = λ b. 0 }

unfoldable pub entered : Tally → Order → Tally
entered t (opening account participant) = record { opened = put t.opened account (Some participant); price = t.price; units = t.units }
entered t (mark asset price haircut) = record { opened = t.opened; price = put t.price asset price; units = t.units }
entered t (position account contract long short) = t
entered t (declare account customer_margin customer_debt participant_debt) = t
entered t (deposit account pocket asset units) = record { opened = t.opened; price = t.price; units = more t.units (box account pocket asset) units }
entered t (withdraw account pocket asset units) = record { opened = t.opened; price = t.price; units = fewer t.units (box account pocket asset) units }
entered t (suspend participant) = t
entered t (settle participant) = t
entered t (seize side paying pocket asset paid units) = record { opened = t.opened; price = t.price; units = fewer t.units (box paying pocket asset) units }

-- one entry of a history
unfoldable pub fed : Tally → (Order × ℕ) → Tally
fed t entry = cond (entry.1 == 0) (entered t entry.0) t

unfoldable pub tally : History → Tally
tally entries = fold fed empty_tally entries

-- a participant's total: what the boxes of its accounts are worth by the tally's own units and prices
unfoldable pub total : Tally → ℕ → ℕ
total t participant = over t.opened participant (account_value t.price t.units)

-- WHAT CONCERNS AN ACCOUNT. A mark concerns every account. Any other order concerns the accounts that it names; a
-- seizure names two.
abbrev pub concerns : ℕ → Order → Bool
concerns c (opening account participant) = account == c
concerns c (mark asset price haircut) = true
concerns c (position account contract long short) = account == c
concerns c (declare account customer_margin customer_debt participant_debt) = account == c
concerns c (deposit account pocket asset units) = account == c
concerns c (withdraw account pocket asset units) = account == c
concerns c (suspend participant) = false
concerns c (settle participant) = false
concerns c (seize side paying pocket asset paid units) = paying == c || paid == c

-- the accepted orders of a history that concern an account, in their order
unfoldable pub accepted_for : ℕ → History → List Order
accepted_for c [] = []
accepted_for c (entry ∷ entries) = cond (entry.1 == 0 && concerns c entry.0) (entry.0 ∷ accepted_for c entries) (accepted_for c entries)
