-- The entries of a StackMapTable (JVMS 4.7.4), as they stand in it.
use Rattle.std.specs.Prelude.{ℕ, zero, suc, ◌+◌, ◌-◌, List, [], ◌∷◌, if◌then◌else◌, ◌==◌, nat_le, Option, Some, None, Result, Ok, Err, length}
use Rattle.jv_model.specs.Fallible.{◌>>=◌}
use Rattle.jv_model.specs.Refusal.{Cause, extra_bytes, wrong_map_frame}
use Rattle.jv_model.specs.Input.{Input, number_at}
use Rattle.jv_model.specs.Code.{MapType, map_top, map_int, map_long, map_null, map_this, map_object, map_new}

-- verification_type_info; None is a float or a double, which frames of this machine don't have
abbrev pub EntryType : Type 0
EntryType = Option (MapType ℕ)

-- A stack_map_frame without its offset_delta.
pub data FrameForm : Type 0 where
  -- the locals of the frame before it, and an empty stack
  same : FrameForm
  -- these locals, and one item on the stack
  same_with_item : EntryType → FrameForm
  -- without so many of the last locals
  chop : ℕ → FrameForm
  -- with these locals behind them
  append : List EntryType → FrameForm
  -- locals, and the stack
  full : List EntryType → List EntryType → FrameForm

pub record Entry : Type 0 where
  pub offset_delta : ℕ
  pub form : FrameForm

-- The entries of a StackMapTable. They end in front of the first that is of a reserved type or has
-- an unknown tag; then its refusal is `end`, and nothing behind it is looked at.
pub record MapTable : Type 0 where
  pub entries : List Entry
  pub end : Option Cause

-- ---- types

-- a type behind its tag; `unknown` is the refusal of a tag that JVMS doesn't have
unfoldable pub tagged_type_at : Cause → ℕ → Input → Result (EntryType × Input) Cause
tagged_type_at unknown tag input =
    if tag == 0 then Ok (Some map_top, input)
    else if tag == 1 then Ok (Some map_int, input)
    else if tag == 2 then Ok (None, input)
    else if tag == 3 then Ok (None, input)
    else if tag == 4 then Ok (Some map_long, input)
    else if tag == 5 then Ok (Some map_null, input)
    else if tag == 6 then Ok (Some map_this, input)
    else if tag == 7 then (number_at 2 input >>= λ index. Ok (Some (map_object index.0), index.1))
    else if tag == 8 then (number_at 2 input >>= λ offset. Ok (Some (map_new offset.0), offset.1))
    else Err unknown

abbrev pub entry_type_at : Cause → Input → Result (EntryType × Input) Cause
entry_type_at unknown input = number_at 1 input >>= λ tag. tagged_type_at unknown tag.0 tag.1

-- so many types
unfoldable pub entry_types_at : Cause → ℕ → Input → Result (List EntryType × Input) Cause
entry_types_at unknown zero input = Ok ([], input)
entry_types_at unknown (suc count) input = do
  first ← entry_type_at unknown input
  others ← entry_types_at unknown count first.1
  Ok (first.0 ∷ others.0, others.1)

-- ---- entries

abbrev pub Read : Type 0
Read = Result (Entry × Input) Cause

abbrev pub entry_of : ℕ → FrameForm → Entry
entry_of delta form = record { offset_delta = delta; form = form }

abbrev pub with_item_at : Cause → ℕ → Input → Read
with_item_at unknown delta input =
    entry_type_at unknown input >>= λ item. Ok (entry_of delta (same_with_item item.0), item.1)

abbrev pub append_at : Cause → ℕ → ℕ → Input → Read
append_at unknown count delta input =
    entry_types_at unknown count input >>= λ types. Ok (entry_of delta (append types.0), types.1)

abbrev pub full_at : Cause → ℕ → Input → Read
full_at unknown delta input = do
  local_count ← number_at 2 input
  locals ← entry_types_at unknown local_count.0 local_count.1
  stack_count ← number_at 2 locals.1
  stack ← entry_types_at unknown stack_count.0 stack_count.1
  Ok (entry_of delta (full locals.0 stack.0), stack.1)

-- an entry whose offset_delta stands behind its type
unfoldable pub extended_at : Cause → ℕ → ℕ → Input → Read
extended_at unknown type delta input =
    if type == 247 then with_item_at unknown delta input
    else if nat_le type 250 then Ok (entry_of delta (chop (251 - type)), input)
    else if type == 251 then Ok (entry_of delta same, input)
    else if nat_le type 254 then append_at unknown (type - 251) delta input
    else full_at unknown delta input

-- an entry behind its type; 128 to 246 are reserved
unfoldable pub typed_at : Cause → ℕ → Input → Read
typed_at unknown type input =
    if nat_le type 63 then Ok (entry_of type same, input)
    else if nat_le type 127 then with_item_at unknown (type - 64) input
    else if nat_le type 246 then Err unknown
    else number_at 2 input >>= λ delta. extended_at unknown type delta.0 delta.1

abbrev pub entry_at : Cause → Input → Read
entry_at unknown input = number_at 1 input >>= λ type. typed_at unknown type.0 type.1

-- ---- the table

-- a map without entries
abbrev pub no_table : MapTable
no_table = record { entries = []; end = None }

-- this entry in front of the others, which are read where it is one
abbrev pub entry_in_front : Read → (Input → Result MapTable Cause) → Result MapTable Cause
entry_in_front (Ok read) others =
    others read.1 >>= λ table. Ok (record { entries = read.0 ∷ table.entries; end = table.end })
entry_in_front (Err (wrong_map_frame method index)) others =
    Ok (record { entries = []; end = Some (wrong_map_frame method index) })
entry_in_front (Err cause) others = Err cause

-- So many entries of a method, from that index on. They fill the input, unless they end early.
unfoldable pub entries_at : ℕ → ℕ → ℕ → Input → Result MapTable Cause
entries_at method index zero input =
    if length input.bytes == 0 then Ok no_table else Err (extra_bytes input.at)
entries_at method index (suc count) input =
    entry_in_front (entry_at (wrong_map_frame method index) input)
    (entries_at method (index + 1) count)

abbrev pub table_at : ℕ → Input → Result MapTable Cause
table_at method input = number_at 2 input >>= λ count. entries_at method 0 count.0 count.1
