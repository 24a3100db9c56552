-- What a run answers, with the answer list and the state that it leaves, is what the output is made of.
use Rattle.std.proofs.Common.{◌≡◌, ℕ, List, [], ◌∷◌, length, take, drop, ◌≤◌, Ok, Err, Result, refl, ap, ◌∙◌, arith}
use Rattle.std.proofs.lemmas.List.{length-append, length-map, take_at}
use Rattle.rules.specs.States.{State, Terms}
use Rattle.rules.specs.Orders.{Order, after}
use Rattle.rules.specs.Runs.{run, history}
use Rattle.orders.specs.declared.accepted.Accepted.{Accepted}
use Rattle.orders.specs.declared.fault.FileFault.{FileFault}
use Rattle.orders.specs.Reading.{Reading, reading}
use Rattle.orders.specs.Runs.{admitted, answered, state_after, list_after, answers_to}
use Rattle.report.specs.Reports.{report, fault_line}
use Rattle.report.specs.Outcomes.{outcome_lines, AllAnswered}
use Rattle.report.specs.Printed.{printed_of, printed_from}
use Rattle.report.proofs.Places.{places, never_too_few}

module _ (T : Terms) where
  entries : (s : State) (orders : List Order) → length (history T s orders) ≡ length orders
  unfolding history
  entries s [] = refl
  entries s (order ∷ orders) = omega (arith, entries (after T s order) orders)

  -- one answer an order
  one_each : (s : State) (orders : List Order) → length (answers_to T s orders) ≡ length orders
  unfolding answers_to
  one_each s orders = length-map (history T s orders) (λ entry. entry.1) ∙ entries s orders

  all_answered : (s : State) (before : List ℕ) (r : Reading) → AllAnswered (answered r) (list_after T s before r)
  all_answered s before (Ok orders) = omega (arith, length-append (answers_to T s orders) (drop (length orders) before), one_each s orders)
  all_answered s before (Err fault) = tt

  whole_output : (s : State) (before : List ℕ) (r : Reading) → outcome_lines (answered r) (list_after T s before r) (state_after T s r) ≡ printed_of T s r
  whole_output s before (Ok orders) = ap (λ (answers : List ℕ). report answers (run T s orders)) (take_at (answers_to T s orders) (drop (length orders) before) (length orders) (one_each s orders))
  whole_output s before (Err fault) = refl

-- A file was run with a place for the answer to every order that a file can have.
module _ (T : Terms) (s : State) (file before list : List ℕ) (state : State) (many : length before ≡ places)
    (fill : list ≡ list_after T s before (admitted file (length before))) (after_run : state ≡ state_after T s (admitted file (length before))) where
  as_read : admitted file (length before) ≡ reading file
  as_read = ap (admitted file) many ∙ never_too_few file

  pub in_place : (outcome : Result Accepted FileFault) → outcome ≡ answered (admitted file (length before)) → AllAnswered outcome list
  in_place outcome answer = rw (answer, fill) (all_answered T s before (admitted file (length before)))

  pub all_printed : (outcome : Result Accepted FileFault) → outcome ≡ answered (admitted file (length before)) → outcome_lines outcome list state ≡ printed_from T s file
  all_printed outcome answer = rw (answer, fill, after_run) (whole_output T s before (admitted file (length before))) ∙ ap (printed_of T s) as_read
