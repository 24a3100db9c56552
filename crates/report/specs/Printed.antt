-- What is printed of an order file, whole.
use Rattle.std.specs.Prelude.{ℕ, List, Ok, Err}
use Rattle.rules.specs.States.{State, Terms, made}
use Rattle.rules.specs.Runs.{run}
use Rattle.orders.specs.Reading.{Reading, reading}
use Rattle.orders.specs.Runs.{answers_to}
use Rattle.report.specs.ProgramTerms.{program_terms}
use Rattle.report.specs.Reports.{report, fault_line}

-- the report of all orders run in turn from a state, or the line of the fault for which none of them is
abbrev pub printed_of : Terms → State → Reading → List ℕ
printed_of T s (Ok orders) = report (answers_to T s orders) (run T s orders)
printed_of T s (Err fault) = fault_line fault

abbrev pub printed_from : Terms → State → (file : List ℕ) → List ℕ
printed_from T s file = printed_of T s (reading file)

-- The program runs every file on a fresh book. (It has an answer list long enough for any file, so that no file is
-- refused for want of places.)
unfoldable pub printed : (file : List ℕ) → List ℕ
printed file = printed_from program_terms made file
