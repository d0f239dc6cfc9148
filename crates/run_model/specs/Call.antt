-- A call of the program, from its words to its answer, and what its words make of the files.
use Rattle.std.specs.Prelude.{◌≡◌, ℕ, List, ◌++◌, Option, Some, ◌⊎◌, IfSome, option_map, take}
use Rattle.jv_model.specs.Journal.{Entry}
use Rattle.jv_model.specs.Status.{Status, no_memory}
use Rattle.jv_model.specs.Outside.{Folder, counted, Rose}
use Rattle.run_model.specs.Invocation.{invocation_of}
use Rattle.load_model.specs.Loading.{Answer, Loading}
use Rattle.load_model.specs.Reads.{Read}
use Rattle.run_model.specs.Work.{Work}
use Rattle.run_model.specs.LoadWork.{load_work}
use Rattle.run_model.specs.Delivery.{Sunk, Sinks, Texts}
use Rattle.run_model.specs.Works.{Product}

pub record Call : Type 0 where
  -- each word as its bytes in UTF-8
  pub words : List (List ℕ)
  pub files : Read
  -- what is answered
  pub status : Status
  pub journal : List Entry
  pub shares : List ℕ
  pub sinks : Sinks

-- what the words make of a folder, where they are a command
abbrev pub loading_of : Call → Folder → Option (Loading Work)
loading_of call folder = option_map (load_work folder) (invocation_of call.words)

abbrev pub answer_of : Call → Folder → Option (Answer Work)
answer_of call folder = option_map (λ (loading : Loading Work). loading.answer) (loading_of call folder)

-- the files are told, and the words make this of them
abbrev pub Makes : Call → Answer Work → Type 0
Makes call answer = (folder : Folder) × (call.files.folder ≡ Some folder) × (answer_of call folder ≡ Some answer)

-- where the files are told, the words make this of them
abbrev pub MakesIfTold : Call → Answer Work → Type 0
MakesIfTold call answer = IfSome call.files.folder (λ folder. answer_of call folder ≡ Some answer)

-- the names that the call asked for are the first ones of these
abbrev pub AsksFirstOf : Call → List (List ℕ) → Type 0
AsksFirstOf call names = (count : ℕ) × (call.files.asked_after ≡ call.files.asked_before ++ take count names)

-- the call's answer with those texts and that status
abbrev pub product_of : Call → Texts → Option Status → Product
product_of call texts status =
    record { journal = call.journal; shares = call.shares; texts = texts; status = status }

-- ---- faults

abbrev pub ReadFailed : Call → Type 0
ReadFailed call = Rose call.files.faults_before call.files.faults_after

-- no read failed, and none was without memory after it failed
abbrev pub NoReadFailed : Call → Type 0
NoReadFailed call = call.files.faults_after ≡ call.files.faults_before

abbrev pub WriteFailed : Sunk → Type 0
WriteFailed sink = Rose sink.faults_before sink.faults_after

-- nothing outside failed in the call
pub record NothingFailed (call : Call) : Type 0 where
  pub files : ¬ ReadFailed call
  pub out : ¬ WriteFailed call.sinks.out
  pub report : ¬ WriteFailed call.sinks.report
  pub trace : ¬ WriteFailed call.sinks.trace

-- A count of faults that the status doesn't speak of stays. Where memory ran out, that may have been one fault.
abbrev pub IsQuiet : Status → ℕ → ℕ → Type 0
IsQuiet status before after = (after ≡ before) ⊎ ((status ≡ no_memory) × (after ≡ counted before))

abbrev pub AreReadsQuiet : Call → Type 0
AreReadsQuiet call = IsQuiet call.status call.files.faults_before call.files.faults_after

abbrev pub AreWritesQuiet : Call → Sunk → Type 0
AreWritesQuiet call sink = IsQuiet call.status sink.faults_before sink.faults_after
