use Rattle.std.proofs.Common.{◌≡◌, ◌++◌, drop}
use Rattle.std.specs.List.{flat_map}
use Rattle.jv_types.specs.Entry.{entries_of}
use Rattle.text_model.specs.JournalText.{entry_line}
use Rattle.run_text.proofs.journal_writer.journal_text.Given as goal

-- what is written, and the entries that are left
abbrev pub invariant-loop-entry : goal.invariant-loop-entry
invariant-loop-entry l =
    l.text.items ++ flat_map entry_line (entries_of (drop l.entry-index l.entry-items)) ≡ flat_map entry_line (entries_of l.entry-items)
