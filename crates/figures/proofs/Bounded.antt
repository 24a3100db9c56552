-- How large the figures of a state can be that keeps to the bounds of a book.
use Rattle.std.proofs.Common.{◌≡◌, ℕ, ◌+◌, ◌*◌, ◌^◌, ◌<◌, ◌≤◌, cond, arith}
use Rattle.std.proofs.lemmas.Bool.{cond_both}
use Rattle.rules.specs.Sizes.{accounts, assets, contracts, house, sum, most_amount}
use Rattle.rules.specs.States.{State, lots_of, is, under}
use Rattle.rules.specs.Figures.{worth, pocket_value, applied_pocket, withheld, excess, kept, passed_on, rest, pooled, pool, over, from_customer}
use Rattle.rules.specs.Orders.{row_lots}
use Rattle.rules.proofs.Sums.{sum_most}
use Rattle.figures.specs.declared.parts.Parts.{Parts}
use Rattle.figures.specs.Parts.{parts_of, parts_below}
use Rattle.figures.specs.Bounds.{Bounded, most_worth, most_pocket, most_lots}
use Rattle.figures.proofs.Worths.{worth_most, applied_most}

module _ {S : Type 0} (state : S → State) (h : Bounded state) (x : S) where
  box_most : (account pocket asset : ℕ) → asset < assets → worth (state x).price (state x).held account pocket asset ≤ most_worth
  box_most account pocket asset l = worth_most asset _ _ l (λ e. rw e (h.yen x)) (h.prices x asset) (h.units x _)

  pub pocket_most : (account pocket : ℕ) → pocket_value (state x).price (state x).held account pocket ≤ most_pocket
  unfolding pocket_value
  pocket_most account pocket = sum_most assets most_worth _ (box_most account pocket)

  pub applied_pocket_most : (account pocket : ℕ) → applied_pocket (state x) account pocket ≤ most_pocket
  unfolding applied_pocket
  applied_pocket_most account pocket = sum_most assets most_worth _ (λ asset l. applied_most _ _ (box_most account pocket asset l))

  pub row_lots_most : (account : ℕ) → row_lots ((state x).rows account).counts ≤ most_lots
  unfolding row_lots
  row_lots_most account = let counts = ((state x).rows account).counts in
      let few = (h.rows x account).counts in
      let each : (k : ℕ) → k < contracts → (lots_of counts k).long + (lots_of counts k).short ≤ 2000000 = λ k l. omega (arith, (few k l).0, (few k l).1) in
      omega (arith, sum_most contracts 2000000 (λ k. (lots_of counts k).long + (lots_of counts k).short) each)

  pub pooled_most : (account : ℕ) → pooled (state x) account ≤ most_pocket
  unfolding pooled excess
  pooled_most account =
      cond_both (house account) _ _ (λ n. n ≤ most_pocket) (λ e. pocket_most account 0) (λ e. omega (arith, pocket_most account 1))

  pub rest_most : (account : ℕ) → rest (state x) account ≤ most_amount
  unfolding rest
  rest_most account =
      let debt = (h.rows x account).amounts.2 in cond_both (house account) _ _ (λ n. n ≤ most_amount) (λ e. debt) (λ e. omega (arith, debt))

  pub kept_most : (account : ℕ) → from_customer (kept (state x)) account ≤ most_amount
  unfolding from_customer kept
  kept_most account =
      let debt = (h.rows x account).amounts.2 in cond_both (house account) _ _ (λ n. n ≤ most_amount) (λ e. omega arith) (λ e. omega (arith, debt))

  pub passed_on_most : (account : ℕ) → from_customer (passed_on (state x)) account ≤ most_amount
  unfolding from_customer passed_on withheld
  passed_on_most account =
      let debt = (h.rows x account).amounts.1 in cond_both (house account) _ _ (λ n. n ≤ most_amount) (λ e. omega arith) (λ e. omega (arith, debt))

  -- sums over the first accounts of a participant, and over all of them
  below_most : (participant n m : ℕ) (f : ℕ → ℕ) → ((a : ℕ) → f a ≤ m) → sum n (λ a. cond (is (under (state x).opened a) participant) (f a) 0) ≤ n * m
  below_most participant n m f k = sum_most n m _ (λ a l. cond_both (is (under (state x).opened a) participant) (f a) 0 (λ v. v ≤ m) (λ e. k a) (λ e. omega arith))

  pub kept_sum_most : (participant : ℕ) → over (state x).opened participant (from_customer (kept (state x))) ≤ accounts * most_amount
  unfolding over
  kept_sum_most participant = below_most participant accounts most_amount _ kept_most

  pub passed_on_sum_most : (participant : ℕ) → over (state x).opened participant (from_customer (passed_on (state x))) ≤ accounts * most_amount
  unfolding over
  passed_on_sum_most participant = below_most participant accounts most_amount _ passed_on_most

  pub pool_most : (participant : ℕ) → pool (state x) participant ≤ accounts * most_pocket
  unfolding pool over
  pool_most participant = below_most participant accounts most_pocket _ pooled_most

  -- in the loop over all accounts, each of the four sums has room for what one more account adds
  pub room : (participant n : ℕ) (sums more : Parts) → n < accounts → sums ≡ parts_below (state x) participant n → more ≡ parts_of (state x) n →
      (sums.pool + more.pool < 2 ^ 64) × (sums.charge + more.charge < 2 ^ 64) × (sums.kept + more.kept < 2 ^ 64) × (sums.passed_on + more.passed_on < 2 ^ 64)
  room participant n sums more l e h = rw (e, h) (
    omega (arith, below_most participant n most_pocket _ pooled_most, pooled_most n),
    omega (arith, below_most participant n most_amount _ rest_most, rest_most n),
    omega (arith, below_most participant n most_amount _ kept_most, kept_most n),
    omega (arith, below_most participant n most_amount _ passed_on_most, passed_on_most n),
  )
