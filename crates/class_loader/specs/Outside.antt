-- Files as the definitions see them: what their ghost members give of them before a call and after it.
use Rattle.std.specs.Prelude.{ℕ, List, Option}
use Rattle.jv_model.specs.Outside.{Folder}
use Rattle.load_model.specs.Reads.{Read}

abbrev pub read : {F : Type 0} → (F → Option Folder) → (F → List (List ℕ)) → (F → ℕ) → F → F → Read
read folder asked faults before after = record {
  folder = folder before;
  asked_before = asked before;
  asked_after = asked after;
  faults_before = faults before;
  faults_after = faults after;
}
