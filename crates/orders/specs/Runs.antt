-- A whole file run on a book: when it is refused, and what an accepted one does to the book and to the answer list.
use Rattle.std.specs.Prelude.{ℕ, cond, List, ◌++◌, map, length, drop, Ok, Err, Result, nat_lt}
use Rattle.rules.specs.declared.refusal.Refusal.TheVariants.{AnswerListTooShort}
use Rattle.rules.specs.States.{State, Terms}
use Rattle.rules.specs.Orders.{Order}
use Rattle.rules.specs.Runs.{run, history}
use Rattle.orders.specs.declared.fault.FileFault.{FileFault}
use Rattle.orders.specs.declared.accepted.Accepted.{Accepted}
use Rattle.orders.specs.Reading.{Reading, reading, fault}

-- The answer list has a number of places, and each order wants one. That is looked at last, in a file without a fault.
abbrev pub with_places : (places : ℕ) → Reading → Reading
with_places places (Ok orders) = cond (nat_lt places (length orders)) (Err (fault AnswerListTooShort (length orders))) (Ok orders)
with_places places (Err f) = Err f

-- The orders of a file that is run with an answer list of so many places, or why it is refused.
abbrev pub admitted : (file : List ℕ) (places : ℕ) → Reading
admitted file places = with_places places (reading file)

-- what is answered: how many orders there are, or the fault
abbrev pub answered : Reading → Result Accepted FileFault
answered (Ok orders) = Ok (record { orders = length orders })
answered (Err f) = Err f

-- what the book comes to: all orders in turn, whether those before were accepted or refused; or nothing was changed
abbrev pub state_after : Terms → State → Reading → State
state_after T s (Ok orders) = run T s orders
state_after T s (Err f) = s

-- the answers to orders in turn, by their numbers
unfoldable pub answers_to : Terms → State → List Order → List ℕ
answers_to T s orders = map (λ entry. entry.1) (history T s orders)

-- what the answer list comes to: a number for each order, and further places as they were; or nothing was written
abbrev pub list_after : Terms → State → (before : List ℕ) → Reading → List ℕ
list_after T s before (Ok orders) = answers_to T s orders ++ drop (length orders) before
list_after T s before (Err f) = before
