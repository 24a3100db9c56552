-- The lines that report a run: the answer to each order, what each customer may claim, and what each participant may
-- claim and the clearing house retains. The figures are those that the questions of a book answer.
use Rattle.std.specs.Prelude.{ℕ, ◌+◌, List, [], ◌∷◌, ◌++◌, length, Ok, Err, codes, Result, slice_index}
use Rattle.rules.specs.declared.refusal.Refusal.{Refusal}
use Rattle.rules.specs.Sizes.{accounts, participants}
use Rattle.rules.specs.Refusals.{number}
use Rattle.rules.specs.States.{State}
use Rattle.rules.specs.Figures.{Amounts, ask_customer, ask_participant, ask_owner}
use Rattle.orders.specs.declared.fault.FileFault.{FileFault}
use Rattle.report.specs.Lines.{line, in_turn}

-- ORDERS. The orders are numbered from 1; each has its answer, 0 for accepted and else the refusal's number.
abbrev pub order_line : (index answer : ℕ) → List ℕ
order_line index answer = line (codes "ORDER") ((index + 1) ∷ answer ∷ [])

abbrev pub order_lines : (answers : List ℕ) → List ℕ
order_lines answers = in_turn (length answers) (λ i. order_line i (slice_index answers i))

-- ACCOUNTS. Of an open customer account: its number, its participant, and what the customer may claim. There is
-- nothing to print of an account that the questions refuse, as they do house accounts and accounts not open.
abbrev pub customer_lines : (account : ℕ) → (owner : Result ℕ Refusal) → Amounts → List ℕ
customer_lines account (Ok participant) (Ok amounts) = line (codes "CUST") (account ∷ participant ∷ amounts.0 ∷ [])
customer_lines account (Ok participant) (Err refusal) = []
customer_lines account (Err refusal) amounts = []

unfoldable pub account_lines : State → (account : ℕ) → List ℕ
account_lines s account = customer_lines account (ask_owner s account) (ask_customer s account)

-- PARTICIPANTS. Of each: its number, what it may claim, and what the clearing house retains.
abbrev pub figure_lines : (participant : ℕ) → Amounts → List ℕ
figure_lines participant (Ok amounts) = line (codes "PART") (participant ∷ amounts.0 ∷ amounts.1 ∷ [])
figure_lines participant (Err refusal) = []

unfoldable pub participant_lines : State → (participant : ℕ) → List ℕ
participant_lines s participant = figure_lines participant (ask_participant s participant)

-- The whole report: the orders in turn, then the accounts and then the participants, both in rising number.
abbrev pub report : (answers : List ℕ) → State → List ℕ
report answers s = order_lines answers ++ (in_turn accounts (account_lines s) ++ in_turn participants (participant_lines s))

-- A refused file has no report, but one line: the number of its refusal, and the place of the fault.
abbrev pub fault_line : FileFault → List ℕ
fault_line fault = line (codes "FILE") (number fault.refusal ∷ fault.place ∷ [])
