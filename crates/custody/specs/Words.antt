-- Numbers as eight bytes in memory are read as they were written.
use Rattle.std.proofs.Common.{◌≡◌, ℕ, ◌+◌, ◌*◌, ◌^◌, ◌<◌, ◌≤◌, cond, eqb, List, ◌++◌, length, take, drop, replicate, refl, ap, ◌∙◌, ⊎_elim, arith}
use Rattle.std.proofs.lemmas.List.{length-append, length-drop, length-take, length-replicate, drop_at, take_at, drop-append-le, drop-replicate, take-append-le, take-replicate, same_lists, places}
use Rattle.std.proofs.lemmas.Bool.{cases_eq, eq-eqb, ne_eqb}
use Rattle.custody.specs.Pages.{word, bytes_of, word_at, stored, room, page_layout}

word_bytes : (n : ℕ) → n < 2 ^ 64 → word (bytes_of n) ≡ n
word_bytes n h = omega arith

pub bytes_stored : (bytes : List ℕ) (b n : ℕ) → b < room bytes → length (stored bytes b n) ≡ length bytes
bytes_stored bytes b n h = simp (length-append, length-take, length-drop) (omega arith)

-- A part that is written is read again, and a part beside it is as it was: w is a variable, so that `take` does not
-- compute.
part_same : (w i : ℕ) (ys bytes : List ℕ) → length ys ≡ w → i ≤ length bytes → take w (drop i (take i bytes ++ (ys ++ drop (i + w) bytes))) ≡ ys
part_same w i ys bytes l h =
    let m : length (take i bytes) ≡ i = simp length-take (omega arith) in
    ap (take w) (drop_at (take i bytes) (ys ++ drop (i + w) bytes) i m) ∙ take_at ys (drop (i + w) bytes) w l

part_other : (w i j : ℕ) (ys bytes : List ℕ) → length ys ≡ w → i + w ≤ length bytes → j + w ≤ length bytes → (j < i + w → j + w ≤ i)
    → take w (drop j (take i bytes ++ (ys ++ drop (i + w) bytes))) ≡ take w (drop j bytes)
part_other w i j ys bytes l h m apart = same_lists _ _ (simp (length-take, length-drop, length-append) (omega arith)) (λ k d n. grind (arith, places))

pub word_stored : (bytes : List ℕ) (b n k : ℕ) → b < room bytes → n < 2 ^ 64 → k < room bytes → word_at (stored bytes b n) k ≡ cond (eqb k b) n (word_at bytes k)
word_stored bytes b n k inside fits within =
    ⊎_elim
    (λ (e : k ≡ b). rw (eq-eqb k b e, e) (ap word (part_same 8 (b * 8) (bytes_of n) bytes refl (omega arith)) ∙ word_bytes n fits))
    (λ e. rw (ne_eqb k b e) (ap word (part_other 8 (b * 8) (k * 8) (bytes_of n) bytes refl (omega arith) (omega arith) (λ h. omega arith))))
    (cases_eq k b)

pub bytes_cleared : (bytes : List ℕ) (n : ℕ) → n ≤ room bytes → length (page_layout.cleared bytes n) ≡ length bytes
bytes_cleared bytes n inside = simp (length-append, length-replicate, length-drop) (omega arith)

-- a part of zeros is zeros: w is a variable, so that `take` does not compute
part_zeros : (w n j : ℕ) (bytes : List ℕ) → j + w ≤ n → take w (drop j (replicate n 0 ++ bytes)) ≡ replicate w 0
part_zeros w n j bytes h = grind (arith, drop-append-le, drop-replicate, take-append-le, take-replicate, length-replicate)

pub word_cleared : (bytes : List ℕ) (n k : ℕ) → n ≤ room bytes → k < n → word_at (page_layout.cleared bytes n) k ≡ 0
word_cleared bytes n k inside h = ap word (part_zeros 8 (n * 8) (k * 8) (drop (n * 8) bytes) (omega arith))
