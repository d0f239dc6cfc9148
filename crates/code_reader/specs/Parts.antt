-- Which parts of an attribute of the definitions these are.
use Rattle.std.specs.Prelude.{ℕ, List, ◌++◌, map, Option, Some, None, option_map, Result, Ok}
use Rattle.jv_model.specs.Fallible.{◌>>=◌}
use Rattle.jv_model.specs.Input.{Input}
use Rattle.jv_types.specs.Code.{map_type_of, handler_of}
use Rattle.jv_types.specs.Reading.{Gives, Refuses}
use Rattle.jv_types.specs.declared.code.MapType.{MapType}
use Rattle.jv_model.specs.Refusal.{Cause, truncated, extra_bytes, wrong_shape, wrong_map_frame}
use Rattle.code_model.specs.StackMapEntries as entries
use Rattle.code_model.specs.CodeShape as shape
use Rattle.code_reader.specs.declared.error.PartError.{PartError}
use Rattle.code_reader.specs.declared.error.PartError.TheVariants as errors
use Rattle.code_reader.specs.declared.map_entry.FrameForm.{FrameForm}
use Rattle.code_reader.specs.declared.map_entry.FrameForm.TheVariants as forms
use Rattle.code_reader.specs.declared.map_entry.Entry.{Entry}
use Rattle.code_reader.specs.declared.map_entry.MapTable.{MapTable}
use Rattle.code_reader.specs.declared.parts.Parts.{Parts}

-- of the method with that index
abbrev pub part_refusal : ℕ → PartError → Option Cause
part_refusal method (errors.Cut at) = Some (truncated at)
part_refusal method (errors.Extra at) = Some (extra_bytes at)
part_refusal method (errors.Shape at) = Some (wrong_shape method at)
part_refusal method (errors.MapFrame index) = Some (wrong_map_frame method index)
part_refusal method errors.NoMemory = None

abbrev pub GivesPart : {X Y : Type 0} → ℕ → (X → Y) → Result X PartError → Result Y Cause → Type 0
GivesPart method view answer read = Gives (part_refusal method) view answer read

abbrev pub entry_type_of : Option MapType → entries.EntryType
entry_type_of type = option_map map_type_of type

abbrev pub entry_types_of : List (Option MapType) → List entries.EntryType
entry_types_of types = map entry_type_of types

abbrev pub form_of : FrameForm → entries.FrameForm
form_of forms.Same = entries.same
form_of (forms.SameWithItem item) = entries.same_with_item (entry_type_of item)
form_of (forms.Chop count) = entries.chop count
form_of (forms.Append types) = entries.append (entry_types_of types.items)
form_of (forms.Full locals stack) =
    entries.full (entry_types_of locals.items) (entry_types_of stack.items)

-- an entry with that offset_delta
abbrev pub entry_with : ℕ → FrameForm → entries.Entry
entry_with delta form = entries.entry_of delta (form_of form)

abbrev pub entry_of : Entry → entries.Entry
entry_of entry = entry_with entry.offset_delta entry.form

abbrev pub entries_of : List Entry → List entries.Entry
entries_of list = map entry_of list

abbrev pub table_of : ℕ → MapTable → entries.MapTable
table_of method table = record {
  entries = entries_of table.entries.items;
  end = option_map (wrong_map_frame method) table.end;
}

abbrev pub parts_of : ℕ → Parts → shape.Parts
parts_of method parts = record {
  max_stack = parts.max_stack;
  max_locals = parts.max_locals;
  code = parts.code.now;
  handlers = map handler_of parts.handlers.items;
  map = table_of method parts.map;
}

-- ---- entries in front of others

abbrev pub with_front : List entries.Entry → entries.MapTable → entries.MapTable
with_front front table = record { entries = front ++ table.entries; end = table.end }

-- these entries in front of those that are read
abbrev pub table_in_front :
    List entries.Entry → Result entries.MapTable Cause → Result entries.MapTable Cause
table_in_front front read = read >>= λ table. Ok (with_front front table)

-- what they are where the next one is read with this error
abbrev pub IsEnd : List Entry → PartError → Result MapTable PartError → Type 0
IsEnd front error answer =
    (method : ℕ) (read : entries.Read) (others : Input → Result entries.MapTable Cause)
    → Refuses (part_refusal method error) read
    → GivesPart method (table_of method) answer
    (table_in_front (entries_of front) (entries.entry_in_front read others))
