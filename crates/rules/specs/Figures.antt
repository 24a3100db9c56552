-- The figures of a book in a given state: what each account and each participant has, may claim, and is kept from.
use Rattle.std.specs.Prelude.{ℕ, ◌+◌, cond, not, ◌||◌, [], ◌∷◌, Ok, Err, Option, Result, nat_lt}
use Rattle.rules.specs.declared.refusal.Refusal.{Refusal}
use Rattle.rules.specs.declared.refusal.Refusal.TheVariants.{WrongAccount, WrongParticipant}
use Rattle.rules.specs.Sizes.{accounts, participants, assets, boxes, box, house, sum}
use Rattle.rules.specs.Values.{market, applied}
use Rattle.rules.specs.Claims.{lesser, remainder, own_pool_of, excess_of, withheld_of, claim_of, kept_of, passed_on_of, rest_of}
use Rattle.rules.specs.Refusals.{answered}
use Rattle.rules.specs.States.{State, Terms, under, is, known, participant_of}

-- the market value of a box, and of a pocket: the sum over its boxes, each rounded down by itself
abbrev pub worth : (price held : ℕ → ℕ) (account pocket asset : ℕ) → ℕ
worth price held account pocket asset = market asset (price asset) (held (box account pocket asset))

unfoldable pub pocket_value : (price held : ℕ → ℕ) (account pocket : ℕ) → ℕ
pocket_value price held account pocket = sum assets (worth price held account pocket)

-- the market value of an account; a house account has the direct pocket only
unfoldable pub account_value : (price held : ℕ → ℕ) (account : ℕ) → ℕ
account_value price held account = pocket_value price held account 0 + cond (house account) 0 (pocket_value price held account 1)

-- f added up over the accounts of one participant, its house account among them
unfoldable pub over : (ℕ → Option ℕ) → ℕ → (ℕ → ℕ) → ℕ
over opened participant f = sum accounts (λ account. cond (is (under opened account) participant) (f account) 0)

-- f of a customer account, and nothing of a house account
unfoldable pub from_customer : (ℕ → ℕ) → ℕ → ℕ
from_customer f account = cond (house account) 0 (f account)

module _ (s : State) where
  abbrev pub direct : ℕ → ℕ
  direct account = pocket_value s.price s.held account 0

  abbrev pub replacement : ℕ → ℕ
  replacement account = pocket_value s.price s.held account 1

  -- A customer account, tier by tier.
  unfoldable pub own_pool : ℕ → ℕ
  own_pool account = own_pool_of (direct account) (replacement account) (s.rows account)

  unfoldable pub excess : ℕ → ℕ
  excess account = excess_of (replacement account) (s.rows account)

  unfoldable pub withheld : ℕ → ℕ
  withheld account = withheld_of (own_pool account) (s.rows account)

  unfoldable pub claim : ℕ → ℕ
  claim account = claim_of (own_pool account) (s.rows account)

  unfoldable pub kept : ℕ → ℕ
  kept account = kept_of (withheld account) (s.rows account)

  unfoldable pub passed_on : ℕ → ℕ
  passed_on account = passed_on_of (withheld account) (s.rows account)

  -- Any account. A house account has no customer: nothing is withheld from one, so its whole debt is the rest, and
  -- its whole pocket belongs to the participant's pool.
  unfoldable pub rest : ℕ → ℕ
  rest account = cond (house account) (s.rows account).declared.participant_debt (rest_of (withheld account) (s.rows account))

  unfoldable pub pooled : ℕ → ℕ
  pooled account = cond (house account) (direct account) (excess account)

  -- A participant. Its pool is its house pocket with the excesses of its customers' replacement margin; the rests of
  -- its debts on all its accounts are charged to the pool. The clearing house keeps the lesser of the two.
  unfoldable pub pool : ℕ → ℕ
  pool participant = over s.opened participant pooled

  unfoldable pub charge : ℕ → ℕ
  charge participant = over s.opened participant rest

  unfoldable pub kept_from_pool : ℕ → ℕ
  kept_from_pool participant = lesser (pool participant) (charge participant)

  -- The participant may claim the remainder of its pool, and what is passed on to it from its customers' accounts.
  unfoldable pub participant_claim : ℕ → ℕ
  participant_claim participant = remainder (pool participant) (charge participant) + over s.opened participant (from_customer passed_on)

  -- The sum retained by the clearing house: what it keeps from the pool and from the customers' accounts.
  unfoldable pub retained : ℕ → ℕ
  retained participant = kept_from_pool participant + over s.opened participant (from_customer kept)

-- What an account's margin is measured by: the applied value of all its boxes must reach the maintenance amount that
-- its method asks for its counts.
unfoldable pub covering_value : State → ℕ → ℕ
covering_value s account =
    let applied_pocket : ℕ → ℕ = λ pocket. sum assets (λ asset. applied (worth s.price s.held account pocket asset) (s.haircut asset)) in
    applied_pocket 0 + cond (house account) 0 (applied_pocket 1)

-- the applied value of one pocket by itself
unfoldable pub applied_pocket : State → (account pocket : ℕ) → ℕ
applied_pocket s account pocket = sum assets (λ asset. applied (worth s.price s.held account pocket asset) (s.haircut asset))

unfoldable pub maintenance_amount : Terms → State → ℕ → ℕ
maintenance_amount T s account = cond (house account) (T.house_amount (s.rows account).counts) (T.customer_amount (s.rows account).counts)

-- The questions. They change nothing, and the participant's standing plays no part in them.

-- two amounts, or a refusal
abbrev pub Amounts : Type 0
Amounts = Result (ℕ × ℕ) Refusal

-- the amounts of an answer, 0 where it is a refusal
abbrev pub first_amount : Amounts → ℕ
first_amount (Ok amounts) = amounts.0
first_amount (Err refusal) = 0

abbrev pub second_amount : Amounts → ℕ
second_amount (Ok amounts) = amounts.1
second_amount (Err refusal) = 0

-- of a customer account: the customer's claim, and the sum withheld
abbrev pub ask_customer : State → ℕ → Amounts
ask_customer s account = answered ((WrongAccount, house account || not (known s account)) ∷ []) (claim s account, withheld s account)

-- of a participant: its claim, and the sum retained
abbrev pub ask_participant : State → ℕ → Amounts
ask_participant s participant =
    answered ((WrongParticipant, not (nat_lt participant participants)) ∷ []) (participant_claim s participant, retained s participant)

-- of an account: the participant that it is under
abbrev pub ask_owner : State → ℕ → Result ℕ Refusal
ask_owner s account = answered ((WrongAccount, not (known s account)) ∷ []) (participant_of s account)

-- of a box: the units that it holds, and 0 of a number beyond the last box
abbrev pub ask_held : State → ℕ → ℕ
ask_held s b = cond (nat_lt b boxes) (s.held b) 0
