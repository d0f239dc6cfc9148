use Rattle.std.proofs.Common.{◌≡◌, ◌-◌}
use Rattle.code_model.specs.StackMapEntries.{entries_at}
use Rattle.code_reader.specs.Parts.{entries_of, table_in_front}
use Rattle.code_reader.proofs.map_entry.read_entries.Given as goal

-- the entries so far, and those that are still to be read
abbrev pub invariant-loop-index : goal.invariant-loop-index
invariant-loop-index l = table_in_front (entries_of l.entries.items)
    (entries_at l.method l.index (l.count - l.index) l.input)
    ≡ entries_at l.method 0 l.count l.fn.input
