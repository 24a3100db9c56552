-- Numbers in fields: what is written is read back, and what is read is what was written.
use Rattle.std.proofs.Common.{◌≡◌, ℕ, zero, suc, ◌+◌, ◌*◌, ◌/◌, ◌%◌, ◌^◌, ◌<◌, ◌≤◌, List, [], ◌∷◌, ◌++◌, length, get_or, take, drop, sym, refl, ap, ◌∙◌, pow-suc, arith, take-add}
use Rattle.std.specs.Int.Digits.{number_from_digits, AllBelowBase}
use Rattle.std.proofs.lemmas.Int.Digits.{number_push, number_lt}
use Rattle.std.proofs.ByRecursion.{All-take, All-drop, All-get_or}
use Rattle.std.proofs.lemmas.List.{append_assoc, length-append, length_push, length-take, length-drop, length-take-le, drop-drop, drop_at, take_at, take_all, take_more}
use Rattle.orders.specs.Kinds.{number_at, bytes_of, total, numbers}
use Rattle.orders.specs.Files.{fields, Fitting}

-- ONE FIELD, of any width

pub length_bytes_of : (width n : ℕ) → length (bytes_of width n) ≡ width
length_bytes_of zero n = refl
length_bytes_of (suc width) n = length_push (bytes_of width (n / 256)) (n % 256) ∙ omega (arith, length_bytes_of width (n / 256))

pub number_of_bytes : (width n : ℕ) → n < 256 ^ width → number_from_digits 256 (bytes_of width n) ≡ n
number_of_bytes zero n h = let e : n < 1 = h in omega arith
number_of_bytes (suc width) n h =
    let p : 256 ^ suc width ≡ 256 ^ width * 256 = pow-suc 256 width in
    let k : n / 256 < 256 ^ width = omega arith in
    number_push 256 (bytes_of width (n / 256)) (n % 256) ∙ omega (arith, number_of_bytes width (n / 256) k)

pub bytes_of_number : (width : ℕ) (bytes : List ℕ) → length bytes ≡ width → AllBelowBase 256 bytes → bytes_of width (number_from_digits 256 bytes) ≡ bytes
bytes_of_number zero [] l u = refl
bytes_of_number zero (b ∷ bytes) l u = absurd (omega arith)
bytes_of_number (suc width) bytes l u =
    let low : ℕ = get_or bytes width 0 in
    let high : List ℕ = take width bytes in
    let all : bytes ≡ high ++ low ∷ [] = sym (take_all (width + 1) bytes (omega arith)) ∙ take_more bytes width 0 (omega arith) in
    let small : low < 256 = All-get_or (λ d. d < 256) bytes width 0 (omega arith) u in
    let n : number_from_digits 256 bytes ≡ number_from_digits 256 high * 256 + low = ap (number_from_digits 256) all ∙ number_push 256 high low in
    let q : number_from_digits 256 bytes / 256 ≡ number_from_digits 256 high = omega arith in
    let r : number_from_digits 256 bytes % 256 ≡ low = omega arith in
    rw (q, r) (ap (λ (xs : List ℕ). xs ++ low ∷ []) (bytes_of_number width high (length-take-le width bytes (omega arith)) (All-take (λ d. d < 256) width bytes u)) ∙ sym all)

-- ALL FIELDS OF A BODY, of any widths

pub length_fields : (widths ns : List ℕ) → Fitting widths ns → length (fields widths ns) ≡ total widths
length_fields [] [] f = refl
length_fields [] (n ∷ ns) f = absurd f
length_fields (width ∷ widths) [] f = absurd f
length_fields (width ∷ widths) (n ∷ ns) f =
    length-append (bytes_of width n) (fields widths ns) ∙ omega (arith, length_bytes_of width n, length_fields widths ns f.1)

-- the fields from a place on, `before` being what stands before them
pub numbers_of_fields : (widths ns before : List ℕ) → Fitting widths ns → numbers (length before) widths (before ++ fields widths ns) ≡ ns
numbers_of_fields [] [] before f = refl
numbers_of_fields [] (n ∷ ns) before f = absurd f
numbers_of_fields (width ∷ widths) [] before f = absurd f
numbers_of_fields (width ∷ widths) (n ∷ ns) before f =
    let field : List ℕ = bytes_of width n in
    let rest : List ℕ = fields widths ns in
    let first : number_at (before ++ (field ++ rest)) (length before) width ≡ n =
    rw (drop_at before (field ++ rest) (length before) refl, take_at field rest width (length_bytes_of width n)) (number_of_bytes width n f.0) in
    let l : length before + width ≡ length (before ++ field) = sym (length-append before field ∙ ap (λ k. length before + k) (length_bytes_of width n)) in
    rw (first, l, ← append_assoc before field rest) (ap (λ (xs : List ℕ). n ∷ xs) (numbers_of_fields widths ns (before ++ field) f.1))

module _ (body : List ℕ) (bytes : AllBelowBase 256 body) where
  part : (from width : ℕ) → AllBelowBase 256 (take width (drop from body))
  part from width = All-take (λ d. d < 256) width (drop from body) (All-drop (λ d. d < 256) from body bytes)

  long : (from width : ℕ) → from + width ≤ length body → length (take width (drop from body)) ≡ width
  long from width h = simp (length-take, length-drop) (omega arith)

  pub fields_of_numbers : (widths : List ℕ) (from : ℕ) → from + total widths ≤ length body → fields widths (numbers from widths body) ≡ take (total widths) (drop from body)
  fields_of_numbers [] from h = refl
  fields_of_numbers (width ∷ widths) from h =
      let first = bytes_of_number width (take width (drop from body)) (long from width (omega arith)) (part from width) in
      let rest = fields_of_numbers widths (from + width) (omega arith) in
      rw (first, rest, ← drop-drop width from body, take-add width (total widths) (drop from body))

  pub numbers_fit : (widths : List ℕ) (from : ℕ) → from + total widths ≤ length body → Fitting widths (numbers from widths body)
  numbers_fit [] from h = tt
  numbers_fit (width ∷ widths) from h =
      let small : number_at body from width < 256 ^ length (take width (drop from body)) = number_lt 256 (take width (drop from body)) (part from width) in
      (rw (long from width (omega arith)) at small, numbers_fit widths (from + width) (omega arith))
