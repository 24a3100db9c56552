-- Histories and figures, computed.
use Rattle.std.proofs.Common.{ℕ, ◌≤◌, ltb, refl, zero-le, arith}
use Rattle.std.proofs.lemmas.Bool.{cond_both, cond-false, le-ltb}
use Rattle.rules.specs.Sizes.{boxes, most_units, sum}
use Rattle.rules.specs.Values.{market, applied}
use Rattle.rules.specs.States.{Lawful, LawfulMethod, made}
use Rattle.rules.specs.Figures.{pocket_value, account_value, over, from_customer, own_pool, excess, withheld, claim, kept, passed_on, rest, pooled, pool, charge, kept_from_pool, participant_claim, retained, covering_value, maintenance_amount}
use Rattle.rules.specs.Orders.{withdrawal_barred, seizure_barred, row_lots, open_lots, answer, after}
use Rattle.rules.specs.Runs.{run, history, empty_tally, entered, fed, tally, total, accepted_for}
use Rattle.margin.specs.Rates.{asked}
use Rattle.examples.specs.Histories.{ample, barren}
use Rattle.examples.specs.Witnesses.{Witnesses}
use Rattle.examples.specs.Worked.{WorkedFigures}

no_margin : LawfulMethod (λ counts. 0)
no_margin = record { none_when_flat = refl; bounded = λ counts few. zero-le }

ample_lawful : Lawful ample
ample_lawful = record {
  bounded = λ b. cond_both (ltb b boxes) most_units 0 (λ n. n ≤ most_units) (λ e. omega arith) (λ e. zero-le);
  none_beyond = λ b h. cond-false (ltb b boxes) most_units 0 (le-ltb b boxes h);
  house_method = no_margin;
  customer_method = no_margin;
}

barren_lawful : Lawful barren
barren_lawful = record { bounded = λ b. zero-le; none_beyond = λ b h. refl; house_method = no_margin; customer_method = no_margin }

-- all that computes
all : ℕ
unfolding sum market applied made pocket_value account_value over from_customer own_pool excess withheld claim kept passed_on rest pooled pool charge kept_from_pool participant_claim retained covering_value maintenance_amount withdrawal_barred seizure_barred row_lots open_lots answer after run history empty_tally entered fed tally total accepted_for asked
all = 0

pub witnesses : Witnesses
unfolding all
witnesses = record {
  terms = (ample_lawful, barren_lawful);
  sample_answers = refl;
  sample_figures = (refl, refl, refl);
  strange_answers = refl;
  strange_changes_nothing = refl;
  withdrawn = refl;
  withdrawn_figures = (refl, refl);
  seized_0 = refl;
  seized_0_figures = (refl, refl);
  seized_house = (refl, refl);
  seized_replacement = (refl, refl);
  not_tallied = (refl, refl);
  premise = refl;
  debts_differ = (refl, refl);
  to_the_yen = (refl, refl);
  closed_out = refl;
}

pub worked_figures : WorkedFigures
unfolding all
worked_figures = record {
  currency = (refl, refl);
  bonds = (refl, refl);
  shares = refl;
  net_and_gross = (refl, refl);
  worst = (refl, refl);
  both_debts = (refl, refl, refl);
  too_little = refl;
  replacement_and_house = (refl, refl);
}
