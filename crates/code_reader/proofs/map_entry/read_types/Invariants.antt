use Rattle.std.proofs.Common.{◌≡◌, ◌-◌}
use Rattle.jv_model.specs.Refusal.{wrong_map_frame}
use Rattle.jv_model.specs.Input.{in_front}
use Rattle.code_model.specs.StackMapEntries.{entry_types_at}
use Rattle.code_reader.specs.Parts.{entry_types_of}
use Rattle.code_reader.proofs.map_entry.read_types.Given as goal

-- the types so far, and those that are still to be read
abbrev pub invariant-loop : goal.invariant-loop
invariant-loop l = in_front (entry_types_of l.types.items)
    (entry_types_at (wrong_map_frame l.method l.index) (l.count - l.counter) l.input)
    ≡ entry_types_at (wrong_map_frame l.method l.index) l.count l.fn.input
