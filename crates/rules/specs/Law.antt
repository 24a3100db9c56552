-- The law of runs: what stands after any list of orders whatever, accepted or refused, given to a book straight from
-- its making.
use Rattle.std.specs.Prelude.{◌≡◌, ℕ, ◌+◌, ◌<◌, ◌≤◌, cond, List, ◌≢◌}
use Rattle.rules.specs.Sizes.{participants}
use Rattle.rules.specs.States.{State, Terms, Lawful, made, participant_of}
use Rattle.rules.specs.Figures.{worth, over, covering_value, maintenance_amount, first_amount, second_amount, ask_customer, ask_participant}
use Rattle.rules.specs.Orders.{Order, opening, mark, position, declare, deposit, withdraw, suspend, settle, seize, customer_draws, answer, after}
use Rattle.rules.specs.Runs.{run, history, Tally, tally, total, accepted_for}

-- (a) Nothing is lost and nothing is made. For each participant, what the customer question answers of its accounts as
-- claims, what the participant question answers as its claim, and what it answers as the sum retained, add up to the
-- participant's total in the tally.
abbrev pub Balanced : Tally → State → Type 0
Balanced t s =
    (participant : ℕ) → participant < participants →
    over t.opened participant (λ account. first_amount (ask_customer s account))
    + first_amount (ask_participant s participant)
    + second_amount (ask_participant s participant)
    ≡ total t participant

-- The figures that a party can be told: a customer's claim, a participant's claim, a participant's sum retained. What
-- they are in a state is what the questions answer.
pub data Figure : Type 0 where
  customer's_claim : (account : ℕ) → Figure
  participant's_claim : (participant : ℕ) → Figure
  sum_retained : (participant : ℕ) → Figure

abbrev pub figure : State → Figure → ℕ
figure s (customer's_claim account) = first_amount (ask_customer s account)
figure s (participant's_claim participant) = first_amount (ask_participant s participant)
figure s (sum_retained participant) = second_amount (ask_participant s participant)

-- (c) Between two states one figure fell by exactly the market value that left a box, and no other figure, of anybody,
-- moved. (By addition, so that nothing is cut off at 0: what the box is worth now and what left are what it was worth
-- before, and the figure now and what left are what the figure was before.)
pub record Lowered (f : Figure) (account pocket asset : ℕ) (before now : State) : Type 0 where
  pub left : ℕ
  pub left_the_box : worth now.price now.held account pocket asset + left ≡ worth before.price before.held account pocket asset
  pub by_exactly : figure now f + left ≡ figure before f
  pub no_other : (g : Figure) → (g ≢ f) → figure now g ≡ figure before g

-- the claim of the party that withdraws
abbrev pub withdrawing_party : State → (account pocket : ℕ) → Figure
withdrawing_party s account pocket = cond (customer_draws account pocket) (customer's_claim account) (participant's_claim (participant_of s account))

-- What an accepted order did, from the state before it to the state after it. A withdrawal lowered the withdrawing
-- party's claim, and left the account's applied value at or above its maintenance amount; a seizure lowered the sum
-- retained of the participant whose accounts it names.
abbrev pub Exact : Terms → State → Order → State → Type 0
Exact T before (opening account participant) now = Unit
Exact T before (mark asset price haircut) now = Unit
Exact T before (position account contract long short) now = Unit
Exact T before (declare account customer_margin customer_debt participant_debt) now = Unit
Exact T before (deposit account pocket asset units) now = Unit
Exact T before (withdraw account pocket asset units) now =
    Lowered (withdrawing_party before account pocket) account pocket asset before now × (maintenance_amount T now account ≤ covering_value now account)
Exact T before (suspend participant) now = Unit
Exact T before (settle participant) now = Unit
Exact T before (seize side paying pocket asset paid units) now = Lowered (sum_retained (participant_of before paying)) paying pocket asset before now

-- The law for books over given terms. A book straight from its making is in the state `made`, whatever its terms.
pub record LawOf (T : Terms) : Type 0 where
  -- (a) after every list of orders
  pub balanced : (orders : List Order) → Balanced (tally (history T made orders)) (run T made orders)
  -- (b) Against a second book over any lawful terms and after any orders of its own: if both accepted the same orders
  -- that concern an account, marks and calls together and in the same order, they answer the customer question on that
  -- account alike, both amounts or the refusal. Refused orders, other accounts' orders, rows, methods and custodians
  -- do not enter.
  pub alike : (T' : Terms) → Lawful T' → (orders orders' : List Order) (account : ℕ) →
      accepted_for account (history T made orders) ≡ accepted_for account (history T' made orders') →
      ask_customer (run T made orders) account ≡ ask_customer (run T' made orders') account
  -- (c) of every order that is accepted after every list of orders
  pub exact : (orders : List Order) (order : Order) →
      answer T (run T made orders) order ≡ 0 → Exact T (run T made orders) order (after T (run T made orders) order)

-- The whole law: of every book over lawful terms.
abbrev pub LawOfRuns : Type 0
LawOfRuns = (T : Terms) → Lawful T → LawOf T
