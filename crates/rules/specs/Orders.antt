-- The nine orders that a book takes: when each is refused, and what an accepted one does.
use Rattle.std.specs.Prelude.{ℕ, ◌+◌, ◌-◌, Bool, cond, not, ◌&&◌, ◌||◌, List, [], ◌∷◌, Some, ◌==◌, nat_lt, slice_set}
use Rattle.rules.specs.declared.row.Lots.{Lots}
use Rattle.rules.specs.declared.row.Counts.{Counts}
use Rattle.rules.specs.declared.row.Declared.{Declared}
use Rattle.rules.specs.declared.row.AccountRow.{AccountRow}
use Rattle.rules.specs.declared.standing.Standing.{Standing}
use Rattle.rules.specs.declared.standing.Standing.TheVariants.{Suspended, Settled}
use Rattle.rules.specs.declared.refusal.Refusal.{Refusal}
use Rattle.rules.specs.declared.refusal.Refusal.TheVariants.{WrongAccount, WrongParticipant, WrongPocket, WrongAsset, OutOfRange, WrongStanding, OverLimit, TooFewUnits, BelowMaintenance, BeyondEntitlement, OpenPositions}
use Rattle.rules.specs.Sizes.{accounts, participants, pockets, assets, contracts, most_units, most_amount, most_price, most_haircut, most_count, box, house, sum, put}
use Rattle.rules.specs.Claims.{lesser}
use Rattle.rules.specs.Refusals.{Outcome, outcome_number, decided}
use Rattle.rules.specs.Standings.{is_active, is_suspended, is_settled}
use Rattle.rules.specs.States.{State, Terms, lots, lots_of, amounts, some?, known, participant_of}
use Rattle.rules.specs.Figures.{worth, over, replacement, own_pool, excess, kept, rest, pool, charge, kept_from_pool, covering_value, maintenance_amount}

-- An order may name any number at all; one that names too large a number is refused.
pub data Order : Type 0 where
  opening : (account participant : ℕ) → Order  -- put a customer account under a participant, once and for all
  mark : (asset price haircut : ℕ) → Order  -- set the price and the haircut of an asset other than yen
  position : (account contract long short : ℕ) → Order  -- set both counts of a contract
  declare : (account customer_margin customer_debt participant_debt : ℕ) → Order  -- set all three amounts of a row
  deposit : (account pocket asset units : ℕ) → Order  -- put units into a box
  withdraw : (account pocket asset units : ℕ) → Order  -- take units out of a box for the party that they belong to
  suspend : (participant : ℕ) → Order  -- a default begins
  settle : (participant : ℕ) → Order  -- it is over, all positions being closed
  seize : (side paying pocket asset paid units : ℕ) → Order  -- take units out of a box of the paying account for debts on the paid one

-- STATES WITH ONE PART CHANGED

abbrev pub with_row : State → ℕ → AccountRow → State
with_row s account row = record { rows = put s.rows account row; opened = s.opened; standing = s.standing; price = s.price; haircut = s.haircut; held = s.held }

abbrev pub with_standing : State → ℕ → Standing → State
with_standing s participant standing = record { rows = s.rows; opened = s.opened; standing = put s.standing participant standing; price = s.price; haircut = s.haircut; held = s.held }

abbrev pub with_held : State → (ℕ → ℕ) → State
with_held s held = record { rows = s.rows; opened = s.opened; standing = s.standing; price = s.price; haircut = s.haircut; held = held }

-- units more, or fewer, in one box
abbrev pub more : (held : ℕ → ℕ) (b units : ℕ) → ℕ → ℕ
more held b units = put held b (held b + units)

abbrev pub fewer : (held : ℕ → ℕ) (b units : ℕ) → ℕ → ℕ
fewer held b units = put held b (held b - units)

-- units gone from a box
abbrev pub taken : State → (account pocket asset units : ℕ) → State
taken s account pocket asset units = with_held s (fewer s.held (box account pocket asset) units)

-- The value that leaves a box: its market value before less its market value after. (Not the value of the units alone:
-- each of the two values is rounded down, and so is theirs.)
abbrev pub leaving : (before after : State) (account pocket asset : ℕ) → ℕ
leaving before after account pocket asset = worth before.price before.held account pocket asset - worth after.price after.held account pocket asset

-- rows with other counts of one contract, with other amounts, and with what a seizure of a value pays taken off
abbrev pub positioned_row : AccountRow → (contract : ℕ) → Lots → AccountRow
positioned_row row contract new = record { counts = record { each = slice_set row.counts.each contract new }; declared = row.declared }

abbrev pub declared_row : AccountRow → Declared → AccountRow
declared_row row new = record { counts = row.counts; declared = new }

-- Side 0: the row of the account that pays, which is the one paid for. Both debts fall, and out of the replacement
-- pocket the customer margin with them, since what stood in for it is gone. Side 1: only the participant's debt falls.
abbrev pub paid_row : (side pocket value : ℕ) → AccountRow → AccountRow
paid_row side pocket value row =
    let old = row.declared in
    record {
      counts = row.counts;
      declared = amounts (cond (side == 0 && pocket == 1) (old.customer_margin - value) old.customer_margin) (cond (side == 0) (old.customer_debt - value) old.customer_debt) (old.participant_debt - value);
    }

-- TESTS

-- a house account has the direct pocket only
abbrev pub no_such_pocket : (account pocket : ℕ) → Bool
no_such_pocket account pocket = not (nat_lt pocket pockets) || (house account && not (pocket == 0))

-- units that an order may move are 1 to 10^11
abbrev pub units_out_of_range : ℕ → Bool
units_out_of_range units = units == 0 || nat_lt most_units units

-- amounts that a row may hold; a house account has no customer, so it has no customer margin and no customer's debt
abbrev pub amounts_out_of_range : (account : ℕ) → Declared → Bool
amounts_out_of_range account new =
    nat_lt most_amount new.customer_margin || nat_lt most_amount new.customer_debt || nat_lt most_amount new.participant_debt
    || (house account && (not (new.customer_margin == 0) || not (new.customer_debt == 0)))

-- a contract that there is not, or a count above its limit
abbrev pub counts_out_of_range : (contract : ℕ) → Lots → Bool
counts_out_of_range contract new = not (nat_lt contract contracts) || nat_lt most_count new.long || nat_lt most_count new.short

-- Counts may not change once the participant is settled; while it is suspended neither may rise.
abbrev pub counts_barred : Standing → (old new : Lots) → Bool
counts_barred standing old new = is_settled standing || (is_suspended standing && (nat_lt old.long new.long || nat_lt old.short new.short))

-- the party that withdraws is the customer for the direct pocket of a customer account, and else the participant
abbrev pub customer_draws : (account pocket : ℕ) → Bool
customer_draws account pocket = not (house account) && pocket == 0

-- A withdrawal must leave what others may count on. Out of a customer's direct pocket: the own pool has to go on
-- covering as much of the customer's debt as it did. Out of the replacement pocket: that pocket has to go on covering
-- as much of the customer margin as it did, and the pool as much of the charge. Out of a house pocket: the pool has to.
unfoldable pub withdrawal_barred : (before after : State) (account pocket : ℕ) → Bool
withdrawal_barred before after account pocket =
    let participant = participant_of before account in
    cond (customer_draws account pocket) (nat_lt (own_pool after account) (lesser (own_pool before account) (before.rows account).declared.customer_debt))
    ((pocket == 1 && nat_lt (replacement after account) (lesser (replacement before account) (before.rows account).declared.customer_margin))
    || nat_lt (pool after participant) (lesser (pool before participant) (charge before participant)))

-- Who may pay for whom. Side 0: a customer account for itself. Side 1: a house pocket or a replacement pocket for any
-- account of the participant.
abbrev pub wrong_side : (side paying pocket paid : ℕ) → Bool
wrong_side side paying pocket paid = nat_lt 1 side || cond (side == 0) (house paying || not (paying == paid)) (customer_draws paying pocket)

-- A seizure takes some value, and no more than the clearing house keeps. Side 0: of what is kept of the account, and
-- out of the replacement pocket of what stands in for customer margin. Side 1: of what is kept from the pool, of the
-- rest of the paid account's debt, and out of the replacement pocket of the paying account's excess.
unfoldable pub seizure_barred : State → (side paying pocket paid value : ℕ) → Bool
seizure_barred s side paying pocket paid value =
    (value == 0) ||
    cond (side == 0)
    (nat_lt (kept s paying) value || (pocket == 1 && nat_lt (lesser (replacement s paying) (s.rows paying).declared.customer_margin) value))
    (nat_lt (kept_from_pool s (participant_of s paying)) value || nat_lt (rest s paid) value || (pocket == 1 && nat_lt (excess s paying) value))

-- all lots of an account, and of a participant's accounts, its house account among them
unfoldable pub row_lots : Counts → ℕ
row_lots counts = sum contracts (λ k. (lots_of counts k).long + (lots_of counts k).short)

unfoldable pub open_lots : State → ℕ → ℕ
open_lots s participant = over s.opened participant (λ account. row_lots (s.rows account).counts)

-- ONE ORDER

-- the refusals of an order in the order in which they are tried, each with the test under which it holds
abbrev pub tests : Terms → State → Order → List (Refusal × Bool)
tests T s (opening account participant) =
    (WrongAccount, house account || not (nat_lt account accounts) || some? (s.opened account)) ∷
    (WrongParticipant, not (nat_lt participant participants)) ∷
    (WrongStanding, not (is_active (s.standing participant))) ∷ []
tests T s (mark asset price haircut) =
    (WrongAsset, (asset == 0) || not (nat_lt asset assets)) ∷
    (OutOfRange, nat_lt most_price price || nat_lt most_haircut haircut) ∷ []
tests T s (position account contract long short) =
    (WrongAccount, not (known s account)) ∷
    (OutOfRange, counts_out_of_range contract (lots long short)) ∷
    (WrongStanding, counts_barred (s.standing (participant_of s account)) (lots_of (s.rows account).counts contract) (lots long short)) ∷ []
tests T s (declare account customer_margin customer_debt participant_debt) =
    (WrongAccount, not (known s account)) ∷
    (OutOfRange, amounts_out_of_range account (amounts customer_margin customer_debt participant_debt)) ∷ []
tests T s (deposit account pocket asset units) =
    (WrongAccount, not (known s account)) ∷
    (WrongPocket, no_such_pocket account pocket) ∷
    (WrongAsset, not (nat_lt asset assets)) ∷
    (OutOfRange, units_out_of_range units) ∷
    (OverLimit, nat_lt (T.limit (box account pocket asset)) (s.held (box account pocket asset) + units)) ∷ []
tests T s (withdraw account pocket asset units) =
    (WrongAccount, not (known s account)) ∷
    (WrongPocket, no_such_pocket account pocket) ∷
    (WrongAsset, not (nat_lt asset assets)) ∷
    (OutOfRange, units_out_of_range units) ∷
    (WrongStanding, is_suspended (s.standing (participant_of s account))) ∷
    (TooFewUnits, nat_lt (s.held (box account pocket asset)) units) ∷
    (BelowMaintenance, nat_lt (covering_value (taken s account pocket asset units) account) (maintenance_amount T s account)) ∷
    (BeyondEntitlement, withdrawal_barred s (taken s account pocket asset units) account pocket) ∷ []
tests T s (suspend participant) =
    (WrongParticipant, not (nat_lt participant participants)) ∷
    (WrongStanding, not (is_active (s.standing participant))) ∷ []
tests T s (settle participant) =
    (WrongParticipant, not (nat_lt participant participants)) ∷
    (WrongStanding, not (is_suspended (s.standing participant))) ∷
    (OpenPositions, not (open_lots s participant == 0)) ∷ []
tests T s (seize side paying pocket asset paid units) =
    (WrongAccount, not (known s paying) || not (known s paid)) ∷
    (WrongParticipant, not (participant_of s paying == participant_of s paid)) ∷
    (WrongPocket, no_such_pocket paying pocket || wrong_side side paying pocket paid) ∷
    (WrongAsset, not (nat_lt asset assets)) ∷
    (OutOfRange, units_out_of_range units) ∷
    (WrongStanding, is_active (s.standing (participant_of s paying))) ∷
    (TooFewUnits, nat_lt (s.held (box paying pocket asset)) units) ∷
    (BeyondEntitlement, seizure_barred s side paying pocket paid (leaving s (taken s paying pocket asset units) paying pocket asset)) ∷ []

-- what an accepted order does
abbrev pub effect : State → Order → State
effect s (opening account participant) = record { rows = s.rows; opened = put s.opened account (Some participant); standing = s.standing; price = s.price; haircut = s.haircut; held = s.held }
effect s (mark asset price haircut) = record { rows = s.rows; opened = s.opened; standing = s.standing; price = put s.price asset price; haircut = put s.haircut asset haircut; held = s.held }
effect s (position account contract long short) = with_row s account (positioned_row (s.rows account) contract (lots long short))
effect s (declare account customer_margin customer_debt participant_debt) =
    with_row s account (declared_row (s.rows account) (amounts customer_margin customer_debt participant_debt))
effect s (deposit account pocket asset units) = with_held s (more s.held (box account pocket asset) units)
effect s (withdraw account pocket asset units) = taken s account pocket asset units
effect s (suspend participant) = with_standing s participant Suspended
effect s (settle participant) = with_standing s participant Settled
effect s (seize side paying pocket asset paid units) =
    let value = leaving s (taken s paying pocket asset units) paying pocket asset in
    with_row (taken s paying pocket asset units) paid (paid_row side pocket value (s.rows paid))

-- One order: its answer, which is the first refusal that holds or else accepted, and the state after it, which is the
-- old one where the order was refused.
abbrev pub step : Terms → State → Order → Outcome × State
step T s order = decided s (tests T s order) (effect s order)

-- its two halves; an answer by its number, 0 for accepted
unfoldable pub answer : Terms → State → Order → ℕ
answer T s order = outcome_number (step T s order).0

unfoldable pub after : Terms → State → Order → State
after T s order = (step T s order).1
