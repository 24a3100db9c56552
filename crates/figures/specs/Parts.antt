-- The four sums over its accounts from which a participant's figures follow.
use Rattle.std.specs.Prelude.{ℕ, ◌+◌, cond}
use Rattle.rules.specs.Sizes.{sum}
use Rattle.rules.specs.declared.row.AccountRow.{AccountRow}
use Rattle.rules.specs.Claims.{own_pool_of, excess_of, withheld_of, claim_of, kept_of, passed_on_of, rest_of}
use Rattle.rules.specs.Figures.{over, from_customer, claim, withheld, excess, pooled, rest, kept, passed_on, pool, charge}
use Rattle.rules.specs.States.{State, is, under}
use Rattle.figures.specs.declared.shares.Shares.{Shares}
use Rattle.figures.specs.declared.parts.Parts.{Parts}

-- how what is deposited for a customer account is shared out
abbrev pub shares_of : (direct replacement : ℕ) → AccountRow → Shares
shares_of direct replacement row =
    let own = own_pool_of direct replacement row in
    let withheld = withheld_of own row in
    record {
      claim = claim_of own row;
      withheld = withheld;
      kept = kept_of withheld row;
      passed_on = passed_on_of withheld row;
      rest = rest_of withheld row;
      excess = excess_of replacement row;
    }

-- the same by the figures of a state
abbrev pub customer_shares : State → ℕ → Shares
customer_shares s account = record {
  claim = claim s account;
  withheld = withheld s account;
  kept = kept s account;
  passed_on = passed_on s account;
  rest = rest_of (withheld s account) (s.rows account);
  excess = excess s account;
}

-- what an account adds to each of its participant's sums
abbrev pub parts_of : State → ℕ → Parts
parts_of s account = record {
  pool = pooled s account;
  charge = rest s account;
  kept = from_customer (kept s) account;
  passed_on = from_customer (passed_on s) account;
}

-- nothing of each, and two of them added up
abbrev pub no_parts : Parts
no_parts = record { pool = 0; charge = 0; kept = 0; passed_on = 0 }

abbrev pub both_parts : (some more : Parts) → Parts
both_parts some more = record {
  pool = some.pool + more.pool;
  charge = some.charge + more.charge;
  kept = some.kept + more.kept;
  passed_on = some.passed_on + more.passed_on;
}

-- the sums over all accounts
abbrev pub total_parts : State → ℕ → Parts
total_parts s participant = record {
  pool = pool s participant;
  charge = charge s participant;
  kept = over s.opened participant (from_customer (kept s));
  passed_on = over s.opened participant (from_customer (passed_on s));
}

-- the sums over the first accounts
abbrev pub parts_below : State → (participant n : ℕ) → Parts
parts_below s participant n =
    let so_far : (ℕ → ℕ) → ℕ = λ f. sum n (λ a. cond (is (under s.opened a) participant) (f a) 0) in
    record {
      pool = so_far (pooled s);
      charge = so_far (rest s);
      kept = so_far (from_customer (kept s));
      passed_on = so_far (from_customer (passed_on s));
    }
