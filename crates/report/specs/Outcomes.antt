-- What is printed by what a run of a file answers: how far its answer list is filled, or its fault.
use Rattle.std.specs.Prelude.{ℕ, ◌≤◌, List, length, take, Ok, Err, Result}
use Rattle.rules.specs.States.{State}
use Rattle.orders.specs.declared.accepted.Accepted.{Accepted}
use Rattle.orders.specs.declared.fault.FileFault.{FileFault}
use Rattle.report.specs.Reports.{report, fault_line}

abbrev pub outcome_lines : Result Accepted FileFault → (answers : List ℕ) → State → List ℕ
outcome_lines (Ok accepted) answers s = report (take accepted.orders answers) s
outcome_lines (Err fault) answers s = fault_line fault

-- every order has its answer in the list
abbrev pub AllAnswered : Result Accepted FileFault → (answers : List ℕ) → Type 0
AllAnswered (Ok accepted) answers = accepted.orders ≤ length answers
AllAnswered (Err fault) answers = Unit
