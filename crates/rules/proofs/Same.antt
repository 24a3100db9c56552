-- Lists of one value.
use Rattle.std.proofs.Common.{◌≡◌, ℕ, zero, suc, get_or, replicate, refl}
use Rattle.rules.specs.Sizes.{contracts}
use Rattle.rules.specs.States.{lots, lots_of, flat}

-- the value stands everywhere, past the end too
pub get_or_same : {X : Type 0} (n : ℕ) (x : X) (k : ℕ) → get_or (replicate n x) k x ≡ x
get_or_same zero x k = refl
get_or_same (suc n) x zero = refl
get_or_same (suc n) x (suc k) = get_or_same n x k

-- flat counts have no lot of any contract
pub none_flat : (k : ℕ) → lots_of flat k ≡ lots 0 0
none_flat k = get_or_same contracts (lots 0 0) k
