-- Sheets whose entries are clamped.
use Rattle.std.proofs.Common.{◌≡◌, ℕ, suc, ◌+◌, ◌<◌, ◌≤◌, List, [], ◌∷◌, ◌++◌, map, length, get_or, take, drop, set, ap, refl, arith}
use Rattle.std.proofs.lemmas.List.{take_all, drop_all, append-nil, length-append, length-map, length-take, length-drop, get_or_default}
use Rattle.std.proofs.lemmas.List.Edits.{map_over_more}

-- a list that has at each place what f gives of another there
pub mapped : {X Y : Type 0} (f : X → Y) (xs : List X) (ys : List Y) (d : X) (e : Y) → length ys ≡ length xs → ((i : ℕ) → i < length xs → get_or ys i e ≡ f (get_or xs i d)) → ys ≡ map f xs
mapped f [] [] d e l h = refl
mapped f [] (y ∷ ys) d e l h = absurd (omega arith)
mapped f (x ∷ xs) [] d e l h = absurd (omega arith)
mapped f (x ∷ xs) (y ∷ ys) d e l h = rw (h 0 (omega arith), mapped f xs ys d e (omega arith) (λ i b. h (suc i) (omega arith))) refl

-- a loop that maps a list in place: once through, and one turn of it
pub map_all : {X : Type 0} (f : X → X) (xs : List X) (i : ℕ) → length xs ≤ i → map f (take i xs) ++ drop i xs ≡ map f xs
map_all f xs i h = rw (take_all i xs h, drop_all i xs h, append-nil)

pub map_next : {X : Type 0} (f : X → X) (xs ys : List X) (i : ℕ) (d : X) → i < length xs → ys ≡ map f (take i xs) ++ drop i xs
    → set ys i (f (get_or ys i d)) ≡ map f (take (i + 1) xs) ++ drop (i + 1) xs
map_next f xs ys i d h e =
    let l : i < length ys = omega (arith, simp (length-append, length-map, length-take, length-drop) at (ap length e)) in
    map_over_more f xs ys i (get_or ys i d) h e (get_or_default ys i d (get_or ys i d) l)
