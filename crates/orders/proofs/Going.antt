-- A run under way: some orders of a file are performed, and the others are left.
use Rattle.std.proofs.Common.{◌≡◌, ℕ, ◌+◌, ◌-◌, ◌<◌, ◌≤◌, true, false, ltb, List, [], ◌∷◌, ◌++◌, length, take, drop, set, is_ok, Ok, Err, sym, refl, ap, ◌∙◌, ⊎_elim, arith}
use Rattle.std.proofs.lemmas.List.{append_assoc, take-append-drop, take_more_set, drop-set-lt, drop-drop, length-set}
use Rattle.std.proofs.lemmas.Bool.{cases_lt, lt-ltb, le-ltb}
use Rattle.rules.specs.Refusals.{outcome_number}
use Rattle.rules.specs.States.{State, Terms}
use Rattle.rules.specs.Orders.{Order, step, answer, after}
use Rattle.rules.specs.Runs.{run, history}
use Rattle.orders.specs.Reading.{Reading, prepended}
use Rattle.orders.specs.Runs.{with_places, answers_to, state_after, list_after}

-- There is a place for each order that is left, and no fault among them.
abbrev pub Room : (places : ℕ) → Reading → Type 0
Room places left = is_ok (with_places places left) ≡ true

-- What the whole file comes to is what is left comes to from here, in the places from n on.
pub record Going (T : Terms) (start : State) (before : List ℕ) (file : Reading) (n : ℕ) (state : State) (answers : List ℕ) (left : Reading) : Type 0 where
  pub came : state_after T state left ≡ state_after T start file
  pub wrote : take n answers ++ list_after T state (drop n answers) left ≡ list_after T start before file
  pub room : Room (length answers - n) left

room_for : (places : ℕ) (orders : List Order) → Room places (Ok orders) → length orders ≤ places
room_for places orders h =
    ⊎_elim
    (λ (l : places < length orders). let t : ltb places (length orders) ≡ true = lt-ltb _ _ l in let c = rw t at h in absurd cc)
    (λ (l : length orders ≤ places). l)
    (cases_lt places (length orders))

room_after : (places : ℕ) (order : Order) (others : Reading) → Room places (prepended order others) → Room (places - 1) others
room_after places order (Err f) h = h
room_after places order (Ok orders) h =
    let l = room_for places (order ∷ orders) h in
    let t : ltb (places - 1) (length orders) ≡ false = le-ltb _ _ (omega arith) in
    rw t refl

none_for : (left : Reading) → Room 0 left → left ≡ Ok []
none_for (Err f) h = cc
none_for (Ok []) h = refl
none_for (Ok (order ∷ orders)) h = let l = room_for 0 (order ∷ orders) h in absurd (omega arith)

module _ {T : Terms} {start : State} {before : List ℕ} {file : Reading} {n : ℕ} {state : State} {answers : List ℕ} where
  -- the next order is performed, over terms that are still the same
  pub onward : (order : Order) (told : ℕ) {others left : Reading} → Going T start before file n state answers left → left ≡ prepended order others → n < length answers
      → {T' : Terms} → T' ≡ T → {state' : State} → state' ≡ (step T' state order).1 → told ≡ outcome_number (step T' state order).0
      → Going T start before file (n + 1) state' (set answers n told) others
  unfolding run history answers_to answer after
  onward order told {others = Err f} g e h same s a =
      let r = rw e at g.room in
      absurd cc
  onward order told {others = Ok orders} g e h {T' = T'} same {state' = state'} s a =
      let s' : state' ≡ (step T state order).1 = rw same at s in
      let a' : told ≡ outcome_number (step T state order).0 = rw same at a in
      let answers' : List ℕ = set answers n told in
      let l : length answers' - (n + 1) ≡ length answers - n - 1 = omega (arith, length-set answers n told) in
      let d : drop (length orders) (drop (n + 1) answers') ≡ drop (length (order ∷ orders)) (drop n answers) =
      ap (drop (length orders)) (drop-set-lt (n + 1) answers n told (omega arith)) ∙ drop-drop (length orders) (n + 1) answers
      ∙ ap (λ (k : ℕ). drop k answers) (omega arith) ∙ sym (drop-drop (length (order ∷ orders)) n answers) in
      record {
        came = ap (λ (x : State). run T x orders) s' ∙ ap (state_after T state) (sym e) ∙ g.came;
        wrote = rw (take_more_set answers n told h, d)
            (append_assoc (take n answers) (told ∷ []) (answers_to T state' orders ++ drop (length (order ∷ orders)) (drop n answers))
            ∙ ap (λ (x : ℕ). take n answers ++ x ∷ (answers_to T state' orders ++ drop (length (order ∷ orders)) (drop n answers))) a'
            ∙ ap (λ (x : State). take n answers ++ outcome_number (step T state order).0 ∷ (answers_to T x orders ++ drop (length (order ∷ orders)) (drop n answers))) s'
            ∙ ap (λ (r : Reading). take n answers ++ list_after T state (drop n answers) r) (sym e) ∙ g.wrote);
        room = rw l (room_after (length answers - n) order (Ok orders) (rw e at g.room));
      }

  -- no order is left
  module _ {left : Reading} (g : Going T start before file n state answers left) where
    pub done : left ≡ Ok [] → (state ≡ state_after T start file) × (answers ≡ list_after T start before file)
    unfolding run answers_to history
    done e = (
      ap (state_after T state) (sym e) ∙ g.came,
      sym (take-append-drop n answers) ∙ ap (λ (r : Reading). take n answers ++ list_after T state (drop n answers) r) (sym e) ∙ g.wrote,
    )

    -- nor is there one where no place is left
    pub no_more : length answers ≤ n → left ≡ Ok []
    no_more h = let z : length answers - n ≡ 0 = omega arith in none_for left (rw z at g.room)
