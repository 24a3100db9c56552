-- What an array holds after one of its elements is written.
use Rattle.std.proofs.Common.{◌≡◌, ℕ, zero, suc, ◌<◌, List, [], ◌∷◌, length, get_or, set, refl, ap, ◌∙◌, sym, subst, ⊎_elim}
use mathlib.Core.Path.{fun_ext}
use Rattle.std.proofs.lemmas.List.{get_or-set_same, get_or-set_other, get_or_default}
use Rattle.std.proofs.lemmas.Bool.{cases_eq, eq-eqb, ne_eqb}
use Rattle.rules.specs.declared.row.AccountRow.{AccountRow}
use Rattle.rules.specs.Sizes.{put}
use Rattle.rules.specs.States.{empty_row}

-- a property of each element and its place, and of the new one
pub each_set : {X : Type 0} (P : ℕ → X → Type 0) (d : X) (xs : List X) (i : ℕ) (v : X) → P i v → ((k : ℕ) → P k (get_or xs k d)) → (k : ℕ) → P k (get_or (set xs i v) k d)
each_set P d [] i v new old k = old k
each_set P d (x ∷ xs) zero v new old zero = new
each_set P d (x ∷ xs) zero v new old (suc k) = old (suc k)
each_set P d (x ∷ xs) (suc i) v new old zero = old zero
each_set P d (x ∷ xs) (suc i) v new old (suc k) = each_set (λ j. P (suc j)) d xs i v new (λ j. old (suc j)) k

-- as a function of the place
at_set : {X : Type 0} (xs : List X) (i : ℕ) (v d : X) → i < length xs → (k : ℕ) → get_or (set xs i v) k d ≡ put (λ j. get_or xs j d) i v k
at_set xs i v d h k =
    ⊎_elim
    (λ (e : k ≡ i). rw (e, get_or-set_same xs i v d h, eq-eqb i i refl))
    (λ e. rw (get_or-set_other xs i k v d e, ne_eqb k i e))
    (cases_eq k i)

pub put_set : {X : Type 0} (xs : List X) (i : ℕ) (v w d : X) → i < length xs → v ≡ w → (λ k. get_or (set xs i v) k d) ≡ put (λ j. get_or xs j d) i w
put_set xs i v w d h e = fun_ext (at_set xs i v d h) ∙ ap (λ u. put (λ j. get_or xs j d) i u) e

-- what is known of the row that was there and of the one that was written, with the default of the table's meaning in
-- place of the code's
pub moved : (P : (old new : AccountRow) → Type 0) (rows : List AccountRow) (i : ℕ) (d new : AccountRow) → i < length rows → P (get_or rows i d) new → P (get_or rows i empty_row) (get_or (set rows i new) i empty_row)
moved P rows i d new l p =
    subst (P (get_or rows i empty_row)) (sym (get_or-set_same rows i new empty_row l)) (subst (λ (old : AccountRow). P old new) (get_or_default rows i d empty_row l) p)
