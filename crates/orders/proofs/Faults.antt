-- The law of files for bytes that are refused: the fault that is told is there, and the fault that is there is told.
use Rattle.std.proofs.Common.{◌≡◌, ℕ, zero, suc, ◌+◌, ◌-◌, ◌<◌, ◌≤◌, ◌⊎◌, List, [], ◌∷◌, ◌++◌, length, replicate, Some, None, Ok, Err, Option, Result, sym, refl, ap, ◌∙◌, inl, inr, ⊎_elim, arith}
use Rattle.std.proofs.ByRecursion.{All-append, All-from_get_or}
use Rattle.std.proofs.lemmas.List.{append_assoc, length-append, length-replicate, get_or-replicate}
use Rattle.std.proofs.lemmas.Bool.{lt-ltb, cond-true}
use Rattle.rules.specs.declared.refusal.Refusal.{Refusal}
use Rattle.rules.specs.declared.refusal.Refusal.TheVariants.{UnknownKind, BodyCutShort}
use Rattle.rules.specs.Orders.{Order}
use Rattle.orders.specs.declared.fault.FileFault.{FileFault}
use Rattle.orders.specs.Kinds.{Kind, size, kinds, found, order_in}
use Rattle.orders.specs.Reading.{Reading, fault, prepended, orders_from, reading}
use Rattle.orders.specs.Files.{kind_of, Fits, written, file_of, AllFit, Bytes}
use Rattle.orders.specs.Law.{TooLong, NoOrder, HalfOrder, Broken}
use Rattle.orders.specs.Walks.{first_order}
use Rattle.orders.proofs.Walk.{failed, first_wrong, stepped, one_step, short_reads}
use Rattle.orders.proofs.Files.{found_again, some_order, length_written, made_of_bytes, first_written, read_first}

-- THE FAULT THAT IS TOLD IS THERE

abbrev Why : List ℕ → FileFault → Type 0
Why rest f = (NoOrder rest × (f.refusal ≡ UnknownKind)) ⊎ (HalfOrder rest × (f.refusal ≡ BodyCutShort))

-- some bytes, the first of which stands at a place of the file, are broken
record BrokenFrom (place : ℕ) (bytes : List ℕ) (f : FileFault) : Type 0 where
  pub orders : List Order
  pub fit : AllFit orders
  pub rest : List ℕ
  pub before : bytes ≡ file_of orders ++ rest
  pub at : f.place ≡ place + length (file_of orders)
  pub why : Why rest f

-- at once
at_once : (place : ℕ) (bytes : List ℕ) (f : FileFault) → f.place ≡ place → Why bytes f → BrokenFrom place bytes f
unfolding file_of
at_once place bytes f e why = record { orders = []; fit = tt; rest = bytes; before = refl; at = omega arith; why = why }

-- or after an order
after_order : (place : ℕ) (bytes : List ℕ) (f : FileFault) (order : Order) → Fits order → BrokenFrom (place + length (written order)) bytes f → BrokenFrom place (written order ++ bytes) f
unfolding file_of
after_order place bytes f order fits b = record {
  orders = order ∷ b.orders;
  fit = (fits, b.fit);
  rest = b.rest;
  before = ap (λ (xs : List ℕ). written order ++ xs) b.before ∙ sym (append_assoc (written order) (file_of b.orders) b.rest);
  at = let a = b.at in omega (arith, length-append (written order) (file_of b.orders));
  why = b.why;
}

-- an order of which the end is missing: any bytes would do for it, and zeros are some
half : (byte : ℕ) (rest : List ℕ) → Bytes rest → (kind : Kind) → found byte kinds ≡ Some kind → length rest < size kind → HalfOrder (byte ∷ rest)
half byte rest u kind e h =
    let n : ℕ = size kind - length rest in
    let zeros : List ℕ = replicate n 0 in
    let l : length zeros ≡ n = length-replicate n 0 in
    let z : Bytes zeros = All-from_get_or (λ d. d < 256) zeros 0 (λ i k. rw (get_or-replicate {A = ℕ} n i 0 0 (omega arith)) (omega arith)) in
    let o = made_of_bytes byte kind e (rest ++ zeros) (All-append (λ d. d < 256) rest zeros u z) (length-append rest zeros ∙ omega arith) in
    record { order = order_in kind (rest ++ zeros); fits = o.0; missing = zeros; begin = o.1; begun = omega arith; unfinished = omega arith }

no_kind : (byte : ℕ) → found byte kinds ≡ None → (order : Order) → (kind_of order).number ≡ byte → ⊥
no_kind byte e order k =
    let s : found byte kinds ≡ Some (kind_of order) = ap (λ (x : ℕ). found x kinds) (sym k) ∙ found_again order in
    absurd cc

parted_fault : (order : Order) (r : Reading) (f : FileFault) → prepended order r ≡ Err f → r ≡ Err f
parted_fault order (Ok orders) f e = absurd cc
parted_fault order (Err g) f e = e

-- what is wrong with the first order
why_first : (byte : ℕ) (bytes : List ℕ) → Bytes bytes → (place : ℕ) (refusal : Refusal) → first_order (found byte kinds) bytes ≡ Err refusal → Why (byte ∷ bytes) (fault refusal place)
why_first byte bytes u place refusal e =
    ⊎_elim
    (λ p. inl (record { byte = byte; more = bytes; begin = refl; no_kind = no_kind byte p.0 }, p.1))
    (λ p. inr (half byte bytes u p.0 p.1 p.2, p.3))
    (first_wrong (found byte kinds) bytes refusal e)

-- bytes that begin at a place, `again` being the same for fewer bytes
module _ (f : FileFault) (turns : ℕ) (again : (place : ℕ) (bytes : List ℕ) → length bytes ≤ turns → Bytes bytes → orders_from place 0 bytes ≡ Err f → BrokenFrom place bytes f) where
  broken_at : (place byte : ℕ) (bytes : List ℕ) → length bytes ≤ turns → Bytes bytes → (r : Result (Order × List ℕ) Refusal) → first_order (found byte kinds) bytes ≡ r
      → stepped place (byte ∷ bytes) r ≡ Err f → BrokenFrom place (byte ∷ bytes) f
  broken_at place byte bytes l u (Err refusal) e h =
      let q : fault refusal place ≡ f = cc in
      rw (← q) (at_once place (byte ∷ bytes) (fault refusal place) refl (why_first byte bytes u place refusal e))
  broken_at place byte bytes l u (Ok first) e h =
      let w = first_written byte bytes u first e in
      let long = length_written first.0 w.0 in
      let whole = ap length w.1 in
      let p : place + (length (byte ∷ bytes) - length first.1) ≡ place + length (written first.0) = omega (arith, whole, length-append (written first.0) first.1) in
      let others = parted_fault first.0 (orders_from (place + (length (byte ∷ bytes) - length first.1)) 0 first.1) f h in
      let b = again (place + length (written first.0)) first.1 (omega (arith, whole, length-append (written first.0) first.1)) w.2 (rw p at others) in
      rw w.1 (after_order place first.1 f first.0 w.0 b)

-- `turns` bounds the number of bytes
broken_from : (turns : ℕ) (f : FileFault) (place : ℕ) (bytes : List ℕ) → length bytes ≤ turns → Bytes bytes → orders_from place 0 bytes ≡ Err f → BrokenFrom place bytes f
unfolding orders_from
broken_from turns f place [] l u r = absurd cc
broken_from zero f place (byte ∷ bytes) l u r = absurd (omega arith)
broken_from (suc turns) f place (byte ∷ bytes) l u r =
    broken_at f turns (broken_from turns f) place byte bytes (omega arith) u.1 (first_order (found byte kinds) bytes) refl (sym (one_step place byte _ bytes refl _ refl) ∙ r)

pub fault_is_there : (bytes : List ℕ) → Bytes bytes → (f : FileFault) → reading bytes ≡ Err f → TooLong bytes f ⊎ Broken bytes f
fault_is_there bytes u f r =
    ⊎_elim
    (λ p. inl (p.0, p.1))
    (λ p.
    let b = broken_from (length bytes) f 0 bytes (omega arith) u p.1 in
    inr (record { short = p.0; orders = b.orders; fit = b.fit; rest = b.rest; before = b.before; place = let a = b.at in omega arith; why = b.why }))
    (failed _ _ _ _ _ r)

-- THE FAULT THAT IS THERE IS TOLD

-- a fault after orders is the fault of the whole
told_after : (f : FileFault) (rest : List ℕ) (orders : List Order) → AllFit orders → (place : ℕ) → orders_from (place + length (file_of orders)) 0 rest ≡ Err f
    → orders_from place 0 (file_of orders ++ rest) ≡ Err f
unfolding file_of
told_after f rest [] fit place e = let z : place + 0 ≡ place = omega arith in rw z at e
told_after f rest (order ∷ orders) fit place e =
    let p : place + length (written order ++ file_of orders) ≡ place + length (written order) + length (file_of orders) = omega (arith, length-append (written order) (file_of orders)) in
    let after = told_after f rest orders fit.1 (place + length (written order)) (rw p at e) in
    rw (append_assoc (written order) (file_of orders) rest) (read_first order fit.0 place (file_of orders ++ rest) ∙ ap (prepended order) after)

-- a byte with which no order begins stands for no kind
none_found : (byte : ℕ) → ((order : Order) → (kind_of order).number ≡ byte → ⊥) → (kind : Option Kind) → found byte kinds ≡ kind → kind ≡ None
none_found byte never None e = refl
none_found byte never (Some kind) e = absurd (never (order_in kind []) (some_order byte kind e))

told_no_order : (rest : List ℕ) → NoOrder rest → (place : ℕ) → orders_from place 0 rest ≡ Err (fault UnknownKind place)
told_no_order rest b place =
    one_step place b.byte rest b.more b.begin (Err UnknownKind) (sym (ap (λ k. first_order k b.more) (none_found b.byte b.no_kind (found b.byte kinds) refl)))

told_half_order : (rest : List ℕ) → HalfOrder rest → (place : ℕ) → orders_from place 0 rest ≡ Err (fault BodyCutShort place)
unfolding written
told_half_order [] b place = let h = b.begun in absurd (omega arith)
told_half_order (byte ∷ more) b place =
    let order = b.order in
    let w = b.begin in
    let k : (kind_of order).number ≡ byte = cc in
    let s : found byte kinds ≡ Some (kind_of order) = ap (λ (x : ℕ). found x kinds) (sym k) ∙ found_again order in
    let l = length_written order b.fits in
    let m = b.unfinished in
    let t : length more < size (kind_of order) = omega (arith, ap length w, length-append more b.missing) in
    one_step place byte _ more refl (Err BodyCutShort) (sym (ap (λ x. first_order x more) s ∙ cond-true _ _ _ (lt-ltb _ _ t)))

pub fault_is_told : (bytes : List ℕ) (f : FileFault) → TooLong bytes f ⊎ Broken bytes f → reading bytes ≡ Err f
fault_is_told bytes f (inl h) = cond-true _ _ _ (lt-ltb _ _ h.0) ∙ ap Err (sym h.1)
fault_is_told bytes f (inr b) =
    let rest = b.rest in
    let told : orders_from f.place 0 rest ≡ Err f = ⊎_elim
    (λ (y : NoOrder rest × (f.refusal ≡ UnknownKind)). told_no_order rest y.0 f.place ∙ ap (λ r. Err (fault r f.place)) (sym y.1))
    (λ (y : HalfOrder rest × (f.refusal ≡ BodyCutShort)). told_half_order rest y.0 f.place ∙ ap (λ r. Err (fault r f.place)) (sym y.1))
    b.why in
    let p : f.place ≡ 0 + length (file_of b.orders) = let q = b.place in omega arith in
    short_reads bytes b.short ∙ ap (orders_from 0 0) b.before ∙ told_after f rest b.orders b.fit 0 (ap (λ (x : ℕ). orders_from x 0 rest) (sym p) ∙ told)
