-- The law of files for bytes that are read: what is written reads back, and what reads as orders is what was written.
use Rattle.std.proofs.Common.{rules, ◌≡◌, ℕ, ◌+◌, ◌-◌, ◌<◌, ◌≤◌, true, false, eqb, ltb, List, [], ◌∷◌, ◌++◌, length, get_or, take, drop, Some, Ok, sym, refl, ap, ◌∙◌, ⊎_elim, arith}
use Rattle.std.specs.List.{AllByRecursion as All}
use Rattle.std.proofs.ByRecursion.{All-take, All-drop}
use Rattle.std.proofs.lemmas.List.{length-append, take_at, drop_at, take-append-drop, length-take-le, take_all}
use Rattle.std.proofs.lemmas.Bool.{cases_eq, eq-eqb, ne_eqb, le-ltb, cond-true, cond-false}
use Rattle.rules.specs.Orders.{Order}
use Rattle.orders.specs.Kinds.{Kind, size, kinds, found, numbers, order_in}
use Rattle.orders.specs.Reading.{most_bytes, prepended, orders_from, reading}
use Rattle.orders.specs.Files.{kind_of, numbers_of, fields, Fitting, Fits, written, file_of, AllFit, FileOf, Bytes}
use Rattle.orders.specs.Walks.{first_order}
use Rattle.orders.proofs.Walk.{first_whole, one_step, stepped_ok, short_reads, accepted_short}
use Rattle.orders.proofs.Numbers.{length_fields, numbers_of_fields, fields_of_numbers, numbers_fit}

-- THE TABLE. Each order is found under its own kind and made again of its own numbers.

pub found_again : (order : Order) → found (kind_of order).number kinds ≡ Some (kind_of order)
found_again order = grind rules

made_again : (order : Order) → (kind_of order).order (λ i. get_or (numbers_of order) i 0) ≡ order
made_again order = grind rules

-- each kind of the table makes orders of its own kind, with the numbers that it was given
abbrev Own : Kind → Type 0
Own kind = (body : List ℕ) → (kind_of (order_in kind body) ≡ kind) × (numbers_of (order_in kind body) ≡ numbers 0 kind.widths body)

own : All Own kinds
own = search rules

found_one : (P : Kind → Type 0) (byte : ℕ) (some : List Kind) (kind : Kind) → All P some → found byte some ≡ Some kind → (byte ≡ kind.number) × P kind
found_one P byte [] kind all e = absurd cc
found_one P byte (first ∷ rest) kind all e =
    ⊎_elim
    (λ (h : byte ≡ first.number).
    let t : eqb byte first.number ≡ true = eq-eqb _ _ h in
    let k : first ≡ kind = let f : Some first ≡ Some kind = sym (cond-true _ _ _ t) ∙ e in cc in
    (h ∙ ap (λ (k : Kind). k.number) k, rw k at all.0))
    (λ h. found_one P byte rest kind all.1 (sym (cond-false _ _ _ (ne_eqb _ _ h)) ∙ e))
    (cases_eq byte first.number)

-- ONE ORDER

module _ (order : Order) (fits : Fits order) where
  body : List ℕ
  body = fields (kind_of order).widths (numbers_of order)

  body_long : length body ≡ size (kind_of order)
  unfolding body
  body_long = length_fields (kind_of order).widths (numbers_of order) fits

  body_read_back : order_in (kind_of order) body ≡ order
  unfolding body
  body_read_back =
      ap (λ (ns : List ℕ). (kind_of order).order (λ i. get_or ns i 0)) (numbers_of_fields (kind_of order).widths (numbers_of order) [] fits) ∙ made_again order

  first_again : (rest : List ℕ) → first_order (found (kind_of order).number kinds) (body ++ rest) ≡ Ok (order, rest)
  first_again rest =
      let n : ℕ = size (kind_of order) in
      let t : ltb (length (body ++ rest)) n ≡ false = le-ltb _ _ (omega (arith, length-append body rest, body_long)) in
      let b : take n (body ++ rest) ≡ body = take_at body rest n body_long in
      let d : drop n (body ++ rest) ≡ rest = drop_at body rest n body_long in
      ap (λ k. first_order k (body ++ rest)) (found_again order) ∙ rw (t, b, d, body_read_back) refl

  pub read_first : (place : ℕ) (rest : List ℕ) → orders_from place 0 (written order ++ rest) ≡ prepended order (orders_from (place + length (written order)) 0 rest)
  unfolding written body
  read_first place rest =
      let p : place + (length (written order ++ rest) - length rest) ≡ place + length (written order) = omega (arith, length-append (written order) rest) in
      one_step place (kind_of order).number (written order ++ rest) (body ++ rest) refl (Ok (order, rest)) (sym (first_again rest))
      ∙ ap (λ (n : ℕ). prepended order (orders_from n 0 rest)) p

read_all : (orders : List Order) → AllFit orders → (place : ℕ) → orders_from place 0 (file_of orders) ≡ Ok orders
unfolding file_of orders_from
read_all [] fit place = refl
read_all (order ∷ orders) fit place =
    read_first order fit.0 place (file_of orders) ∙ ap (prepended order) (read_all orders fit.1 (place + length (written order)))

-- A byte that stands for a kind is the kind byte of some order.
pub some_order : (byte : ℕ) (kind : Kind) → found byte kinds ≡ Some kind → (kind_of (order_in kind [])).number ≡ byte
some_order byte kind e = let k = found_one Own byte kinds kind own e in ap (λ (x : Kind). x.number) (k.1 []).0 ∙ sym k.0

pub length_written : (order : Order) → Fits order → length (written order) ≡ 1 + size (kind_of order)
unfolding written
length_written order fits = omega (arith, length_fields (kind_of order).widths (numbers_of order) fits)

-- A kind byte and as many bytes as its kind has are an order written down.
pub made_of_bytes : (byte : ℕ) (kind : Kind) → found byte kinds ≡ Some kind → (body : List ℕ) → Bytes body → length body ≡ size kind
    → Fits (order_in kind body) × (written (order_in kind body) ≡ byte ∷ body)
unfolding written
made_of_bytes byte kind e body u l =
    let k = found_one Own byte kinds kind own e in
    let o = k.1 body in
    let w : fields kind.widths (numbers 0 kind.widths body) ≡ body =
    fields_of_numbers body u kind.widths 0 (omega arith) ∙ take_all (size kind) body (omega arith) in
    let f : Fitting kind.widths (numbers 0 kind.widths body) = numbers_fit body u kind.widths 0 (omega arith) in
    (rw (o.0, o.1) f, rw (o.0, o.1, w, k.0))

-- So what is read first is written down there.
pub first_written : (byte : ℕ) (bytes : List ℕ) → Bytes bytes → (first : Order × List ℕ) → first_order (found byte kinds) bytes ≡ Ok first
    → Fits first.0 × (byte ∷ bytes ≡ written first.0 ++ first.1) × Bytes first.1
first_written byte bytes u first e =
    let w = first_whole (found byte kinds) bytes first e in
    let n : ℕ = size w.0 in
    let o = made_of_bytes byte w.0 w.1 (take n bytes) (All-take (λ d. d < 256) n bytes u) (length-take-le n bytes w.2) in
    rw w.3
    (o.0, sym (ap (λ (xs : List ℕ). xs ++ drop n bytes) o.1 ∙ ap (λ (xs : List ℕ). byte ∷ xs) (take-append-drop n bytes)), All-drop (λ d. d < 256) n bytes u)

-- what is read as orders is these orders written down
all_written : (orders : List Order) (place : ℕ) (bytes : List ℕ) → Bytes bytes → orders_from place 0 bytes ≡ Ok orders → (bytes ≡ file_of orders) × AllFit orders
unfolding file_of orders_from
all_written [] place [] u r = (refl, tt)
all_written (order ∷ orders) place [] u r = absurd cc
all_written [] place (byte ∷ bytes) u r =
    let s = stepped_ok place (byte ∷ bytes) (first_order (found byte kinds) bytes) [] (sym (one_step place byte _ bytes refl _ refl) ∙ r) in
    let e = s.3 in
    absurd cc
all_written (order ∷ orders) place (byte ∷ bytes) u r =
    let s = stepped_ok place (byte ∷ bytes) (first_order (found byte kinds) bytes) (order ∷ orders) (sym (one_step place byte _ bytes refl _ refl) ∙ r) in
    let w = first_written byte bytes u.1 s.0 s.2 in
    let o : s.0.0 ≡ order = let e = s.3 in cc in
    let os : s.1 ≡ orders = let e = s.3 in cc in
    let others = all_written orders _ s.0.1 w.2 (s.4 ∙ ap Ok os) in
    let fits : Fits s.0.0 = w.0 in
    (w.1 ∙ ap (λ (x : Order). written x ++ s.0.1) o ∙ ap (λ (xs : List ℕ). written order ++ xs) others.0, (rw o at fits, others.1))

-- WHOLE FILES

pub read_back : (orders : List Order) → AllFit orders → length (file_of orders) ≤ most_bytes → reading (file_of orders) ≡ Ok orders
read_back orders fit h = short_reads (file_of orders) h ∙ read_all orders fit 0

pub nothing_else : (bytes : List ℕ) → Bytes bytes → (orders : List Order) → reading bytes ≡ Ok orders → FileOf bytes orders
nothing_else bytes u orders e =
    let s = accepted_short bytes orders e in
    let w = all_written orders 0 bytes u s.1 in
    record { written_down = w.0; fit = w.1; short = s.0 }

pub reads_as : (bytes : List ℕ) (orders : List Order) → FileOf bytes orders → reading bytes ≡ Ok orders
reads_as bytes orders f = let w = f.written_down in let h = f.short in ap reading w ∙ read_back orders f.fit (omega (arith, ap length w))

pub one_meaning : (bytes : List ℕ) (orders orders' : List Order) → FileOf bytes orders → FileOf bytes orders' → orders ≡ orders'
one_meaning bytes orders orders' f f' = let e = sym (reads_as bytes orders f) ∙ reads_as bytes orders' f' in cc

pub one_file : (bytes bytes' : List ℕ) → Bytes bytes → Bytes bytes' → (orders : List Order) → reading bytes ≡ Ok orders → reading bytes' ≡ Ok orders → bytes ≡ bytes'
one_file bytes bytes' u u' orders e e' = (nothing_else bytes u orders e).written_down ∙ sym (nothing_else bytes' u' orders e').written_down
