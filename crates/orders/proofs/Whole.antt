-- The whole law of files.
use Rattle.std.proofs.Common.{ap, ◌∙◌}
use Rattle.std.proofs.lemmas.Bool.{lt-ltb, le-ltb, cond-true, cond-false}
use Rattle.orders.specs.Runs.{with_places}
use Rattle.orders.specs.Law.{LawOfFiles}
use Rattle.orders.proofs.Files.{read_back, nothing_else, one_meaning, one_file, reads_as}
use Rattle.orders.proofs.Faults.{fault_is_there, fault_is_told}

pub law : LawOfFiles
law = record {
  read_back = read_back;
  nothing_else = nothing_else;
  one_meaning = one_meaning;
  one_file = one_file;
  fault_is_there = fault_is_there;
  fault_is_told = fault_is_told;
  performed = λ bytes orders places f h. ap (with_places places) (reads_as bytes orders f) ∙ cond-false _ _ _ (le-ltb _ _ h);
  want_of_places = λ bytes orders places f h. ap (with_places places) (reads_as bytes orders f) ∙ cond-true _ _ _ (lt-ltb _ _ h);
  refused = λ bytes f places h. ap (with_places places) (fault_is_told bytes f h);
}
