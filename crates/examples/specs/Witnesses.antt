-- That the law of runs is not empty: there are lawful terms, and histories in which each kind of thing that it speaks
-- of happens.
use Rattle.std.specs.Prelude.{◌≡◌, [], ◌∷◌, Ok}
use Rattle.rules.specs.States.{Lawful, made}
use Rattle.rules.specs.Figures.{ask_customer, ask_participant}
use Rattle.rules.specs.Orders.{withdraw, answer}
use Rattle.rules.specs.Runs.{history, tally, total, accepted_for}
use Rattle.examples.specs.Histories.{ample, barren, outcome, answers, sample, strange, withdrawals, pays_for_itself, house_pays, replacement_pays, overfull, share_seized, both_sides, closing}

pub record Witnesses : Type 0 where
  pub terms : Lawful ample × Lawful barren
  pub sample_answers : answers sample ≡ 0 ∷ 0 ∷ 0 ∷ 14 ∷ []
  pub sample_figures : (ask_customer (outcome sample) 8 ≡ Ok (50, 100)) × (ask_participant (outcome sample) 0 ≡ Ok (20, 80)) × (total (tally (history ample made sample)) 0 ≡ 150)
  -- refused orders are orders like others, and change nothing
  pub strange_answers : answers strange ≡ 5 ∷ 5 ∷ 5 ∷ 5 ∷ 5 ∷ 5 ∷ 6 ∷ 6 ∷ 8 ∷ []
  pub strange_changes_nothing : outcome strange ≡ made
  -- withdrawals out of all three kinds of pocket are accepted
  pub withdrawn : answers withdrawals ≡ 0 ∷ 0 ∷ 0 ∷ 0 ∷ 0 ∷ 0 ∷ 0 ∷ 0 ∷ []
  pub withdrawn_figures : (ask_customer (outcome withdrawals) 8 ≡ Ok (210, 50)) × (ask_participant (outcome withdrawals) 0 ≡ Ok (50, 0))
  -- seizures on both sides are accepted
  pub seized_0 : answers pays_for_itself ≡ 0 ∷ 0 ∷ 0 ∷ 0 ∷ 0 ∷ 14 ∷ 0 ∷ 0 ∷ []
  pub seized_0_figures : (ask_customer (outcome pays_for_itself) 8 ≡ Ok (40, 0)) × (ask_participant (outcome pays_for_itself) 0 ≡ Ok (30, 0))
  pub seized_house : (answers house_pays ≡ 0 ∷ 0 ∷ 0 ∷ 14 ∷ 0 ∷ []) × (ask_participant (outcome house_pays) 0 ≡ Ok (20, 0))
  pub seized_replacement : (answers replacement_pays ≡ 0 ∷ 0 ∷ 0 ∷ 0 ∷ 14 ∷ 0 ∷ []) × (ask_customer (outcome replacement_pays) 8 ≡ Ok (40, 0))
  -- the tally ignores a refused deposit
  pub not_tallied : (answers overfull ≡ 0 ∷ 0 ∷ 11 ∷ []) × (total (tally (history ample made overfull)) 0 ≡ 150)
  -- two histories with the same accepted marks and calls for account 8, after which the participant's debt on it
  -- differs: one share of two is worth 2 yen, one of three 1 yen
  pub premise : accepted_for 8 (history ample made (share_seized 2)) ≡ accepted_for 8 (history ample made (share_seized 3))
  pub debts_differ : (((outcome (share_seized 2)).rows 8).declared.participant_debt ≡ 8) × (((outcome (share_seized 3)).rows 8).declared.participant_debt ≡ 9)
  -- 40 yen may leave the replacement pocket, and 41 may not
  pub to_the_yen : (answer ample (outcome both_sides) (withdraw 8 1 0 40) ≡ 0) × (answer ample (outcome both_sides) (withdraw 8 1 0 41) ≡ 14)
  -- under suspension no count rises, and there is no settlement before all are 0
  pub closed_out : answers closing ≡ 0 ∷ 0 ∷ 0 ∷ 10 ∷ 0 ∷ 0 ∷ 15 ∷ 0 ∷ 0 ∷ 10 ∷ []
