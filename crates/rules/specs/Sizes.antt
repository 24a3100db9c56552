-- How many accounts, participants, assets and boxes there are, how large a number may be, and two tools: a sum over
-- an index and a function changed in one place. Everything else in this folder is built on these.
use Rattle.std.specs.Prelude.{ℕ, zero, suc, ◌+◌, ◌*◌, Bool, cond, ◌==◌, nat_lt}

-- accounts 0 to 63, of which the first eight are the participants' house accounts, in the participants' order
abbrev pub accounts : ℕ
accounts = 64

-- participants 0 to 7
abbrev pub participants : ℕ
participants = 8

-- pockets 0 and 1: direct and replacement margin
abbrev pub pockets : ℕ
pockets = 2

-- assets 0 to 3: yen, foreign currency, bonds, shares
abbrev pub assets : ℕ
assets = 4

-- contracts 0 to 7, of which an account has a long and a short count each
abbrev pub contracts : ℕ
contracts = 8

-- the most units in one box or in one order, yen in one amount, price, haircut in thousandths, and lots in one count
abbrev pub most_units : ℕ
most_units = 100000000000

abbrev pub most_amount : ℕ
most_amount = 1000000000000000

abbrev pub most_price : ℕ
most_price = 100000

abbrev pub most_haircut : ℕ
most_haircut = 1000

abbrev pub most_count : ℕ
most_count = 1000000

-- Deposits lie in boxes, one for each account, pocket and asset. Pocket 0 holds direct margin, which the customer
-- placed with the clearing house itself; pocket 1 holds replacement margin, which the participant placed for the
-- customer. A box is known by its number: eight boxes an account, four a pocket.
abbrev pub box : (account pocket asset : ℕ) → ℕ
box account pocket asset = account * 8 + (pocket * 4 + asset)

abbrev pub boxes : ℕ
boxes = accounts * 8

-- an account that is a participant's own
abbrev pub house : ℕ → Bool
house account = nat_lt account participants

-- f 0 + f 1 + .. + f (n - 1)
unfoldable pub sum : ℕ → (ℕ → ℕ) → ℕ
sum zero f = 0
sum (suc n) f = sum n f + f n

-- f, but x at place i
abbrev pub put : {X : Type 0} → (ℕ → X) → ℕ → X → ℕ → X
put f i x j = cond (j == i) x (f j)
