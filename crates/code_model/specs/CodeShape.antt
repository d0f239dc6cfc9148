-- The parts of a Code attribute (JVMS 4.7.3).
use Rattle.std.specs.Prelude.{ℕ, zero, suc, ◌+◌, List, [], ◌∷◌, Bool, false, ◌&&◌, not, if◌then◌else◌, ◌==◌, nat_le, Option, Some, None, Result, Ok, Err, length, codes, find, option_map}
use Rattle.jv_model.specs.Fallible.{where_true, ◌>>=◌}
use Rattle.jv_model.specs.Limits.{most_frame_words, most_code_bytes}
use Rattle.jv_model.specs.Refusal.{Cause, truncated, extra_bytes, frame_too_big, wrong_shape}
use Rattle.jv_model.specs.ClassData.{Const, Attr, Member, ClassData}
use Rattle.jv_model.specs.Profile.{code}
use Rattle.jv_model.specs.Input.{Input, whole_of, number_at, bytes_at}
use Rattle.jv_model.specs.Code.{Handler}
use Rattle.code_model.specs.StackMapEntries.{MapTable, no_table, table_at}
use Rattle.jv_model.specs.ConstantPool.{names, utf8_tag, is_named}

-- the bytes of a method's Code attribute, where it has one
abbrev pub code_bytes : ClassData → Member → Option (List ℕ)
code_bytes file method =
    option_map (λ (a : Attr). a.bytes)
    (find (λ (a : Attr). is_named file.pool code a.name) method.attributes)

-- What a Code attribute says, its instructions and its frames as they stand in it.
pub record Parts : Type 0 where
  pub max_stack : ℕ
  pub max_locals : ℕ
  pub code : List ℕ
  pub handlers : List (Handler ℕ)
  pub map : MapTable

-- ---- the exception table: { u2 start_pc; u2 end_pc; u2 handler_pc; u2 catch_type; }

abbrev pub catch_of : ℕ → Option ℕ
catch_of index = if index == 0 then None else Some index

unfoldable pub handler_at : Input → Result (Handler ℕ × Input) Cause
handler_at input = do
  from ← number_at 2 input
  to ← number_at 2 from.1
  target ← number_at 2 to.1
  catch ← number_at 2 target.1
  Ok (record { from = from.0; to = to.0; target = target.0; catch = catch_of catch.0 }, catch.1)

unfoldable pub handlers_at : ℕ → Input → Result (List (Handler ℕ) × Input) Cause
handlers_at zero input = Ok ([], input)
handlers_at (suc count) input = do
  first ← handler_at input
  others ← handlers_at count first.1
  Ok (first.0 ∷ others.0, others.1)

-- ---- the attributes in it, all but StackMapTable skipped
-- attribute_info { u2 attribute_name_index; u4 attribute_length; u1 info[attribute_length]; }

abbrev pub stack_map_table : List ℕ
stack_map_table = codes "StackMapTable"

-- the map behind an inner attribute of that name, whose bytes are that run
abbrev pub map_behind :
    List Const → ℕ → ℕ → Input → Option MapTable → Result (Option MapTable) Cause
map_behind pool method name run map =
    if is_named pool stack_map_table name
    then (table_at method run >>= λ table. Ok (Some table)) else Ok map

abbrev pub is_second : List Const → ℕ → Option MapTable → Bool
is_second pool name None = false
is_second pool name (Some table) = is_named pool stack_map_table name

-- an inner attribute, behind which the map is the one before it or its own
unfoldable pub inner_at :
    List Const → ℕ → Option MapTable → Input → Result (Option MapTable × Input) Cause
inner_at pool method map input = do
  name ← number_at 2 input
  allowed ← Ok (names pool utf8_tag name.0 && not (is_second pool name.0 map))
  named ← where_true allowed (wrong_shape method input.at) name
  count ← number_at 4 named.1
  run ← bytes_at count.0 count.1
  behind ← map_behind pool method named.0 (record { at = count.1.at; bytes = run.0 }) map
  Ok (behind, run.1)

unfoldable pub inners_at :
    List Const → ℕ → ℕ → Option MapTable → Input → Result (Option MapTable × Input) Cause
inners_at pool method zero map input = Ok (map, input)
inners_at pool method (suc count) map input = do
  first ← inner_at pool method map input
  inners_at pool method count first.0 first.1

abbrev pub table_of : Option MapTable → MapTable
table_of None = no_table
table_of (Some table) = table

-- ---- the attribute
-- Code_attribute { u2 attribute_name_index; u4 attribute_length; u2 max_stack; u2 max_locals;
--   u4 code_length; u1 code[code_length]; u2 exception_table_length; exception_table[..];
--   u2 attributes_count; attribute_info attributes[attributes_count]; }
-- of which the first two are read with the method

-- the code has one byte at least
abbrev pub is_code_length : ℕ → Bool
is_code_length count = nat_le 1 count && nat_le count most_code_bytes

-- what isn't whole, or is left over, has the wrong shape
abbrev pub as_shape : {A : Type 0} → ℕ → Result A Cause → Result A Cause
as_shape method (Err (truncated place)) = Err (wrong_shape method place)
as_shape method (Err (extra_bytes place)) = Err (wrong_shape method place)
as_shape method read = read

-- the parts of the attribute of the method with that index
unfoldable pub parts_at : List Const → ℕ → Input → Result (Parts × Input) Cause
parts_at pool method input = do
  max_stack ← number_at 2 input
  max_locals ← number_at 2 max_stack.1
  count ← number_at 4 max_locals.1
  counted ← where_true (is_code_length count.0) (wrong_shape method max_locals.1.at) count
  code ← bytes_at counted.0 counted.1
  handler_count ← number_at 2 code.1
  handlers ← handlers_at handler_count.0 handler_count.1
  inner_count ← number_at 2 handlers.1
  map ← inners_at pool method inner_count.0 None inner_count.1
  Ok (
    record {
      max_stack = max_stack.0;
      max_locals = max_locals.0;
      code = code.0;
      handlers = handlers.0;
      map = table_of map.0;
    },
    map.1,
  )

-- They fill the attribute.
unfoldable pub parts_of : List Const → ℕ → List ℕ → Result Parts Cause
parts_of pool method bytes = as_shape method (do
  parts ← parts_at pool method (whole_of bytes)
  where_true (length parts.1.bytes == 0) (extra_bytes parts.1.at) parts.0)

-- the parts again, unless their frame has too many words
abbrev pub fitting_parts : ℕ → Parts → Result Parts Cause
fitting_parts method parts =
    let words : ℕ = parts.max_stack + parts.max_locals in
    where_true (nat_le words most_frame_words) (frame_too_big method words) parts
