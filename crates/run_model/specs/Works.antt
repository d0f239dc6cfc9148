-- What may come of a command's work: its journal, who made it, its texts and, once it's done, its status.
use Rattle.std.specs.Prelude.{◌≡◌, ℕ, List, [], ◌∷◌, Option, Some, ◌⊎◌, length, option_map}
use Rattle.jv_model.specs.Journal.{Entry}
use Rattle.jv_model.specs.End.{all_ended}
use Rattle.jv_model.specs.Status.{Status, ended}
use Rattle.straight_line_model.specs.Machine.{Program, Machine, end_of, output_of, report_of}
use Rattle.text_model.specs.JournalText.{journal_text}
use Rattle.run_model.specs.Journal.{replay}
use Rattle.run_model.specs.RoundRobin.{IsRoundRobin}
use Rattle.run_model.specs.Work.{Work, runs, writes}
use Rattle.run_model.specs.Delivery.{Texts}

pub record Product : Type 0 where
  pub journal : List Entry
  -- the number of entries that each worker made
  pub shares : List ℕ
  -- what is to be written
  pub texts : Texts
  -- None where the work isn't done
  pub status : Option Status

-- what is to be written of a run, with that text of its journal
abbrev pub texts_of : Machine → List ℕ → Texts
texts_of machine trace = record { out = output_of machine; report = report_of machine; trace = trace }

-- The journal leads to the machine, whose texts these are. The work is done where the machine has an end.
pub record IsRun (program : Program) (product : Product) : Type 0 where
  pub machine : Machine
  pub replayed : replay program product.journal ≡ Some machine
  pub texts : product.texts ≡ texts_of machine (journal_text product.journal)
  pub told : product.status ≡ option_map ended (end_of machine)

-- One worker made all entries. Without an entry the shares may be left out.
abbrev pub IsOneShare : Product → Type 0
IsOneShare product =
    (product.shares ≡ length product.journal ∷ []) ⊎ ((product.shares ≡ []) × (product.journal ≡ []))

-- There is no journal, and this text is to be written to `out`.
pub record IsText (text : List ℕ) (product : Product) : Type 0 where
  pub journal : product.journal ≡ []
  pub shares : product.shares ≡ []
  pub texts : product.texts ≡ record { out = text; report = []; trace = [] }
  pub told : product.status ≡ Some (ended all_ended)

abbrev pub Works : Work → Product → Type 0
Works (runs program) product = IsRun program product × IsRoundRobin program product.journal × IsOneShare product
Works (writes text) product = IsText text product
