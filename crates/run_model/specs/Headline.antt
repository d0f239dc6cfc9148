-- What a call of the program promises: the bytes, the status and the journal that it leaves are those of the work that
-- its words and files say.
use Rattle.std.specs.Prelude.{◌≡◌, ℕ, [], Option, Some, ◌⊎◌, ◌↔◌, IfSome, IsNone, MatchOption}
use Rattle.jv_model.specs.Refusal.{Cause}
use Rattle.jv_model.specs.Status.{Status, bad_words, bad_input, read_fault, write_fault, no_memory}
use Rattle.jv_model.specs.Outside.{counted}
use Rattle.run_model.specs.Invocation.{invocation_of}
use Rattle.load_model.specs.Loading.{Loading, loads, refuses, misses}
use Rattle.run_model.specs.Work.{Work}
use Rattle.run_model.specs.Delivery.{Texts, GotNoByte, GotAll, GotInOrder, OneFailed}
use Rattle.run_model.specs.Works.{Works}
use Rattle.run_model.specs.Call.{Call, loading_of, Makes, MakesIfTold, AsksFirstOf, product_of, ReadFailed, NoReadFailed, NothingFailed, AreReadsQuiet, AreWritesQuiet}

-- Nothing was done: there is no journal, and no sink got a byte.
pub record IsSilent (call : Call) : Type 0 where
  pub journal : call.journal ≡ []
  pub shares : call.shares ≡ []
  pub sinks : GotNoByte call.sinks

-- the statuses that tell why no work was done
abbrev pub IsRefusal : Status → Type 0
IsRefusal bad_words = Unit {0}
IsRefusal (bad_input item sub cause) = Unit {0}
IsRefusal read_fault = Unit {0}
IsRefusal other = ⊥

-- What comes of work.
pub data Done (work : Work) (call : Call) : Type 0 where
  -- it was done, the status is its own, and each sink got all of its text
  whole : (texts : Texts) → Works work (product_of call texts (Some call.status)) → GotAll call.sinks texts
      → Done work call
  -- it was done, and then a sink failed
  cut : (texts : Texts) → (own : Status) → Works work (product_of call texts (Some own)) → call.status ≡ write_fault
      → OneFailed call.sinks texts → Done work call
  -- memory ran out on the way
  starved : (texts : Texts) → (own : Option Status) → Works work (product_of call texts own) → call.status ≡ no_memory
      → GotInOrder call.sinks texts → Done work call

-- What a call comes to.
pub data Outcome (call : Call) : Type 0 where
  -- work was done, for which no read failed: the one that words and files say, where the files are told
  worked : (work : Work) → MakesIfTold call (loads work) → NoReadFailed call → Done work call → Outcome call
  -- the words, the input or the files kept it from that
  refused : IsRefusal call.status → IsSilent call → Outcome call
  -- memory ran out before that
  starved_early : call.status ≡ no_memory → IsSilent call → Outcome call

-- the status and the journal are the work's own
abbrev pub IsWhole : Work → Call → Type 0
IsWhole work call = (texts : Texts) × Works work (product_of call texts (Some call.status))

-- The promise of a call, whatever its words, its files and its sinks are.
pub record Headline (call : Call) : Type 0 where
  pub outcome : Outcome call
  -- the words are refused exactly where they are no command
  pub words : (call.status ≡ bad_words) ↔ IsNone (invocation_of call.words)
  -- input is refused only as the files' first refusal, and that is reported where no read failed, unless memory runs out
  pub input : (item sub : ℕ) (cause : Cause) → call.status ≡ bad_input item sub cause
      → MakesIfTold call (refuses item sub cause)
  pub refusal : (item sub : ℕ) (cause : Cause) → Makes call (refuses item sub cause) → ¬ ReadFailed call
      → (call.status ≡ bad_input item sub cause) ⊎ (call.status ≡ no_memory)
  -- the files that are asked for are the first ones that loading comes to, in order; without a command there are none
  pub asked : MatchOption (invocation_of call.words) (AsksFirstOf call [])
      (λ command. IfSome call.files.folder (λ folder. IfSome (loading_of call folder)
      (λ (loading : Loading Work). AsksFirstOf call loading.asked)))
  -- a failed read is reported only where one failed and no second one; and a file that isn't there is one
  pub read : call.status ≡ read_fault → call.files.faults_after ≡ counted call.files.faults_before
  pub missing : Makes call misses → (call.status ≡ read_fault) ⊎ (call.status ≡ no_memory)
  -- a failed read or write isn't passed over, nor reported as something else
  pub quiet_reads : ¬ (call.status ≡ read_fault) → AreReadsQuiet call
  pub quiet_writes : ¬ (call.status ≡ write_fault) → AreWritesQuiet call call.sinks.out
      × AreWritesQuiet call call.sinks.report × AreWritesQuiet call call.sinks.trace
  -- where nothing failed, work that loads is done, unless memory runs out
  pub complete : (work : Work) → Makes call (loads work) → NothingFailed call
      → IsWhole work call ⊎ (call.status ≡ no_memory)
