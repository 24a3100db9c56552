-- The tally keeps in step with the book, and every account is under a participant.
use Rattle.std.proofs.Common.{◌≡◌, ℕ, ◌<◌, Bool, true, false, cond, eqb, ltb, ◌⊎◌, List, [], ◌∷◌, Some, fold, sym, refl, ap, ◌∙◌, subst, inl, inr}
use Rattle.rules.proofs.Balance.{adds_up}
use Rattle.rules.proofs.Passed.{passed, done, undone}
use Rattle.std.proofs.lemmas.Bool.{ltb-true, not-false, cases_eq, eq-eqb, ne_eqb, and_parts, false≢true}
use Rattle.rules.specs.Sizes.{accounts, house, participants}
use Rattle.rules.specs.States.{State, Terms, known, made, owner_number, participant_of, some?, under}
use Rattle.rules.specs.Orders.{Order, after, answer, declare, deposit, effect, mark, opening, position, seize, settle, suspend, withdraw}
use Rattle.rules.specs.Runs.{Tally, empty_tally, entered, fed, history, run, tally, total}
use Rattle.rules.specs.Law.{Balanced}

abbrev pub seen : State → Tally
seen s = record { opened = s.opened; price = s.price; units = s.held }

seen_effect : (s : State) (o : Order) → seen (effect s o) ≡ entered (seen s) o
unfolding entered
seen_effect s (opening a p) = refl
seen_effect s (mark x price haircut) = refl
seen_effect s (position a c long short) = refl
seen_effect s (declare a margin debt due) = refl
seen_effect s (deposit a k x n) = refl
seen_effect s (withdraw a k x n) = refl
seen_effect s (suspend p) = refl
seen_effect s (settle p) = refl
seen_effect s (seize side a k x b n) = refl

seen_after : (T : Terms) (s : State) (o : Order) → fed (seen s) (o, answer T s o) ≡ seen (after T s o)
unfolding fed
seen_after T s o = go (cases_eq (answer T s o) 0)
  where
    go : (answer T s o ≡ 0) ⊎ (answer T s o ≡ 0 → ⊥) → cond (eqb (answer T s o) 0) (entered (seen s) o) (seen s) ≡ seen (after T s o)
    go (inl e) = rw (eq-eqb (answer T s o) 0 e, done T s o e) (sym (seen_effect s o))
    go (inr q) = rw (ne_eqb (answer T s o) 0 q, undone T s o q) refl

in_step : (T : Terms) (s : State) (os : List Order) → fold fed (seen s) (history T s os) ≡ seen (run T s os)
unfolding history run
in_step T s [] = refl
in_step T s (o ∷ os) = ap (λ t. fold fed t (history T (after T s o) os)) (seen_after T s o) ∙ in_step T (after T s o) os

pub balanced : (T : Terms) (os : List Order) → Balanced (tally (history T made os)) (run T made os)
unfolding tally total empty_tally made
balanced T os p b = rw (in_step T made os) (adds_up (run T made os) p b)

-- every open account is under a participant
abbrev pub Sound : State → Type 0
Sound s = (a : ℕ) → some? (s.opened a) ≡ true → owner_number (s.opened a) < participants

sound_effect : (T : Terms) (s : State) (o : Order) → answer T s o ≡ 0 → Sound s → Sound (effect s o)
sound_effect T s (opening a p) e h = λ c. go c (eqb c a)
  where
    go : (c : ℕ) (b : Bool) → some? (cond b (Some p) (s.opened c)) ≡ true → owner_number (cond b (Some p) (s.opened c)) < participants
    go c true t = ltb-true p participants (not-false (ltb p participants) (passed T s (opening a p) e).1.0)
    go c false t = h c t
sound_effect T s (mark x price haircut) e h = h
sound_effect T s (position a c long short) e h = h
sound_effect T s (declare a margin debt due) e h = h
sound_effect T s (deposit a k x n) e h = h
sound_effect T s (withdraw a k x n) e h = h
sound_effect T s (suspend p) e h = h
sound_effect T s (settle p) e h = h
sound_effect T s (seize side a k x b n) e h = h

sound_after : (T : Terms) (s : State) (o : Order) → Sound s → Sound (after T s o)
sound_after T s o h = go (cases_eq (answer T s o) 0)
  where
    go : (answer T s o ≡ 0) ⊎ (answer T s o ≡ 0 → ⊥) → Sound (after T s o)
    go (inl e) = subst Sound (sym (done T s o e)) (sound_effect T s o e h)
    go (inr q) = subst Sound (sym (undone T s o q)) h

sound_run : (T : Terms) (s : State) (os : List Order) → Sound s → Sound (run T s os)
unfolding run
sound_run T s [] h = h
sound_run T s (o ∷ os) h = sound_run T (after T s o) os (sound_after T s o h)

sound_made : Sound made
unfolding made
sound_made a e = absurd (false≢true e)

pub sound : (T : Terms) (os : List Order) → Sound (run T made os)
sound T os = sound_run T made os sound_made

-- the participant of an account that is open
pub low_participant : (s : State) (a : ℕ) → Sound s → known s a ≡ true → participant_of s a < participants
low_participant s a h k = go (house a) refl (and_parts (ltb a accounts) (some? (under s.opened a)) k).1
  where
    go : (b : Bool) → house a ≡ b → some? (cond b (Some a) (s.opened a)) ≡ true → owner_number (cond b (Some a) (s.opened a)) < participants
    go true e t = ltb-true a participants e
    go false e t = h a t
