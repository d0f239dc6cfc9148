-- What a journal leads to: the machine after its entries. It is all that a run depends on beside its program.
use Rattle.std.specs.Prelude.{List, [], ◌∷◌, Bool, ◌&&◌, if◌then◌else◌, nat_le, Option, Some, None, is_some}
use Rattle.jv_model.specs.Partial.{◌>>=◌}
use Rattle.jv_model.specs.Limits.{most_entry_steps}
use Rattle.jv_model.specs.Journal.{Entry, run, attempt}
use Rattle.straight_line_model.specs.Machine.{Program, Machine, start, steps_of}

-- The machine after an entry. An entry is legal exactly where there is one.
unfoldable pub made : Entry → Machine → Option Machine
made (run t count) machine = if nat_le 1 count && nat_le count most_entry_steps then steps_of t count machine else None
made attempt machine = None

abbrev pub is_legal : Entry → Machine → Bool
is_legal entry machine = is_some (made entry machine)

-- the machine after these entries, where each is legal in its turn
abbrev pub replayed : List Entry → Machine → Option Machine
replayed [] machine = Some machine
replayed (entry ∷ entries) machine = made entry machine >>= λ next. replayed entries next

-- the machine that a journal gives
abbrev pub replay : Program → List Entry → Option Machine
replay program entries = replayed entries (start program)
