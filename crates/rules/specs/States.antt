-- The state of a book, what a book is made over, and what its making gives. A state is told by functions of a number
-- (an account, an asset, a box), defined at every number, so that an order may name any.
use Rattle.std.specs.Prelude.{◌≡◌, ℕ, ◌<◌, ◌≤◌, Bool, true, false, cond, ◌&&◌, replicate, Some, None, Option, ◌==◌, nat_lt, slice_index_or}
use Rattle.rules.specs.declared.row.Lots.{Lots}
use Rattle.rules.specs.declared.row.Counts.{Counts}
use Rattle.rules.specs.declared.row.Declared.{Declared}
use Rattle.rules.specs.declared.row.AccountRow.{AccountRow}
use Rattle.rules.specs.declared.standing.Standing.{Standing}
use Rattle.rules.specs.declared.standing.Standing.TheVariants.{Active}
use Rattle.rules.specs.Sizes.{accounts, participants, contracts, boxes, most_units, most_amount, most_haircut, most_count, house}

pub record State : Type 0 where
  pub rows : ℕ → AccountRow  -- by account: counts, customer margin and debts
  pub opened : ℕ → Option ℕ  -- by customer account: the participant that it was opened under
  pub standing : ℕ → Standing  -- by participant
  pub price : ℕ → ℕ  -- by asset
  pub haircut : ℕ → ℕ  -- by asset
  pub held : ℕ → ℕ  -- by box number: the units that the custodian holds

-- What a book is made over and keeps for good: how many units the custodian lets each box hold, and the maintenance
-- amount that each of two margin methods asks for counts: the first of house accounts, the second of customers'.
pub record Terms : Type 0 where
  pub limit : ℕ → ℕ  -- by box number
  pub house_amount : Counts → ℕ
  pub customer_amount : Counts → ℕ

-- open lots of one contract, bought and sold
abbrev pub lots : (long short : ℕ) → Lots
lots long short = record { long = long; short = short }

-- the open lots of a contract among the counts of an account; none of a contract that there is not
abbrev pub lots_of : Counts → (contract : ℕ) → Lots
lots_of counts contract = slice_index_or counts.each contract (lots 0 0)

-- no open lot at all
abbrev pub flat : Counts
flat = record { each = replicate contracts (lots 0 0) }

-- no count above its limit
abbrev pub Countable : Counts → Type 0
Countable counts = (k : ℕ) → k < contracts → ((lots_of counts k).long ≤ most_count) × ((lots_of counts k).short ≤ most_count)

-- What a margin method shows: no lot asks for no margin, and no amount passes its limit. (That the same counts always
-- get the same amount needs no law: an amount is a function of the counts.)
pub record LawfulMethod (amount : Counts → ℕ) : Type 0 where
  pub none_when_flat : amount flat ≡ 0
  pub bounded : (counts : Counts) → Countable counts → amount counts ≤ most_amount

-- What the terms of every book show.
pub record Lawful (T : Terms) : Type 0 where
  pub bounded : (b : ℕ) → T.limit b ≤ most_units
  pub none_beyond : (b : ℕ) → boxes ≤ b → T.limit b ≡ 0
  pub house_method : LawfulMethod T.house_amount
  pub customer_method : LawfulMethod T.customer_amount

-- What a row may hold: counts and amounts within their limits, and of a house account, which has no customer, no
-- customer margin and no customer's debt.
abbrev pub Affordable : AccountRow → Type 0
Affordable row = (row.declared.customer_margin ≤ most_amount) × (row.declared.customer_debt ≤ most_amount) × (row.declared.participant_debt ≤ most_amount)

abbrev pub Customerless : AccountRow → Type 0
Customerless row = (row.declared.customer_margin ≡ 0) × (row.declared.customer_debt ≡ 0)

pub record RowAllowed (account : ℕ) (row : AccountRow) : Type 0 where
  pub counts : Countable row.counts
  pub amounts : Affordable row
  pub house_row : account < participants → Customerless row

-- what an account declares: the customer margin, what the customer owes, and what the participant owes
abbrev pub amounts : (customer_margin customer_debt participant_debt : ℕ) → Declared
amounts customer_margin customer_debt participant_debt = record {
  customer_margin = customer_margin;
  customer_debt = customer_debt;
  participant_debt = participant_debt;
}

-- a row with nothing in it
abbrev pub empty_row : AccountRow
empty_row = record { counts = flat; declared = amounts 0 0 0 }

-- A book straight from its making: all boxes and rows empty, no customer account open, every participant active, yen
-- at price 1 with no haircut, and every other asset at price 0 with all of its value cut.
unfoldable pub made : State
made = record {
  rows = λ account. empty_row;
  opened = λ account. None;
  standing = λ participant. Active;
  price = λ asset. cond (asset == 0) 1 0;
  haircut = λ asset. cond (asset == 0) 0 most_haircut;
  held = λ b. 0;
}

-- The participant that an account is under: a house account is under the participant of its own number, a customer
-- account under the one that it was opened under.
abbrev pub under : (ℕ → Option ℕ) → ℕ → Option ℕ
under opened account = cond (house account) (Some account) (opened account)

abbrev pub some? : Option ℕ → Bool
some? (Some x) = true
some? None = false

abbrev pub is : Option ℕ → ℕ → Bool
is (Some x) y = x == y
is None y = false

-- an account that orders may name: a house account, or a customer account that is open
abbrev pub known : State → ℕ → Bool
known s account = nat_lt account accounts && some? (under s.opened account)

-- the participant of an account that is known
abbrev pub owner_number : Option ℕ → ℕ
owner_number (Some x) = x
owner_number None = participants

abbrev pub participant_of : State → ℕ → ℕ
participant_of s account = owner_number (under s.opened account)
