use Rattle.std.proofs.Common.{◌≡◌, ◌+◌, ◌≤◌, ℕ, List, length}
use Rattle.jv_types.specs.Entry.{entries_of}
use Rattle.jv_model.specs.Journal.{Entry}
use Rattle.jv_model.specs.Lines.{lines_of}
use Rattle.text_model.specs.JournalText.{journal_from, journal_of}
use Rattle.run_text.proofs.ReadLemmas.{behind}
use Rattle.run_text.proofs.journal_reader.read_journal.Given as goal

-- the entries so far, and the lines that are left
pub record SoFar (entries : List Entry) (number : ℕ) (left text : List ℕ) : Type 0 where
  pub short : number + length left ≤ length text
  pub same : behind entries (journal_from number (lines_of left)) ≡ journal_of text

abbrev pub invariant-loop-left : goal.invariant-loop-left
invariant-loop-left l = SoFar (entries_of l.entries.items) l.number l.left l.text

abbrev pub decreases-loop-left : goal.decreases-loop-left
decreases-loop-left l = length l.left
