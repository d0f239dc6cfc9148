-- Which bytes behind an opcode make which instruction of it (JVMS 6.5). The padding of a switch may
-- be any.
use Rattle.std.specs.Prelude.{◌≡◌, ℕ, ℤ, ◌+◌, ◌%◌, ◌^◌, ◌<◌, ◌≤◌, List, [], ◌∷◌, ◌++◌, Option, Some, None, IsTrue, FitsSigned, pos, ◌+ℤ◌, ◌-ℤ◌, int_lt, length, map}
use Rattle.std.specs.Int.{cast_unsigned}
use Rattle.std.specs.List.{AllByRecursion, flat_map}
use Rattle.byteorder.specs.Endian.{big_bytes}
use Rattle.jv_model.specs.ClassData.{ClassData}
use Rattle.jv_model.specs.ClassBytes.{u1, u2, u4}
use Rattle.jv_model.specs.Profile.{IsU1, IsU4}
use Rattle.jv_model.specs.Instruction.{Instruction, PrimitiveType, push_int, ldc, increment, tableswitch, lookupswitch, invokeinterface, newarray}
use Rattle.code_model.specs.Names.{argument_words}
use Rattle.code_model.specs.Entries.{EntryKind, a_loadable, a_method_of_interface, is_of_kind}
use Rattle.code_model.specs.Formats.{Branch, branch_to, Format, alone, byte_constant, short_constant, loadable_index, wide_loadable_index, local, local_and_constant, branch, wide_branch, table_switch, lookup_switch, pool_index, interface_call, element_type, wide_form, left_out, left_out_local, width_of, primitive_of}
use Rattle.code_model.specs.Opcodes.{format_of}
use Rattle.jv_model.specs.ConstantPool.{const_at}

-- ---- numbers

-- a number, and a signed one, fit so many bytes
abbrev pub Fits : ℕ → ℕ → Type 0
Fits count number = number < 256 ^ count

abbrev pub FitsAsSigned : ℕ → ℤ → Type 0
FitsAsSigned count number = FitsSigned (width_of count) number

abbrev pub signed_bytes : ℕ → ℤ → List ℕ
signed_bytes count number = big_bytes count (cast_unsigned (width_of count) number)

-- how far a target lies behind an instruction
abbrev pub offset_of : ℕ → ℕ → ℤ
offset_of pc target = pos target -ℤ pos pc

abbrev pub offset_bytes : ℕ → ℕ → ℕ → List ℕ
offset_bytes count pc target = signed_bytes count (offset_of pc target)

-- so many bytes tell how far the target is
abbrev pub IsNear : ℕ → ℕ → ℕ → Type 0
IsNear count pc target = FitsAsSigned count (offset_of pc target)

-- an index of so many bytes, of an entry of that kind
abbrev pub IsIndex : ClassData → EntryKind → ℕ → ℕ → Type 0
IsIndex file kind count index =
    Fits count index × IsTrue (is_of_kind file.major kind (const_at file.pool index))

-- ---- switches

-- The padding brings what follows to a place that 4 divides.
pub record IsPadding (pc : ℕ) (padding : List ℕ) : Type 0 where
  pub aligned : (pc + 1 + length padding) % 4 ≡ 0
  pub short : length padding < 4
  pub bytes : AllByRecursion IsU1 padding

-- The operands of a tableswitch: the default target, the lowest key and the highest, and a target
-- for each key. { u1 padding[0 to 3]; s4 default; s4 low; s4 high; s4 offsets[high - low + 1]; }
pub record SpellsTable
    (pc : ℕ) (bytes : List ℕ) (otherwise : ℕ) (low : ℤ) (targets : List ℕ) : Type 0 where
  pub high : ℤ
  pub padding : List ℕ
  pub padded : IsPadding pc padding
  pub keys : FitsAsSigned 4 low × FitsAsSigned 4 high
  pub offsets : AllByRecursion (IsNear 4 pc) (otherwise ∷ targets)
  -- one target at least
  pub each_key : (1 ≤ length targets) × (low +ℤ pos (length targets) ≡ high +ℤ pos 1)
  pub spelled :
      bytes ≡ padding ++ (offset_bytes 4 pc otherwise
      ++ (signed_bytes 4 low ++ (signed_bytes 4 high ++ flat_map (offset_bytes 4 pc) targets)))

abbrev pub pair_bytes : ℕ → ℤ × ℕ → List ℕ
pair_bytes pc pair = signed_bytes 4 pair.0 ++ offset_bytes 4 pc pair.1

-- each key is above the one before it
abbrev pub Rise : List (ℤ × ℕ) → Type 0
Rise [] = Unit {0}
Rise (pair ∷ []) = Unit {0}
Rise (pair ∷ next ∷ others) = IsTrue (int_lt pair.0 next.0) × Rise (next ∷ others)

-- The operands of a lookupswitch: the default target, and keys with their targets behind their
-- count. { u1 padding[0 to 3]; s4 default; u4 npairs; { s4 match; s4 offset; } pairs[npairs]; }
pub record SpellsLookup
    (pc : ℕ) (bytes : List ℕ) (otherwise : ℕ) (pairs : List (ℤ × ℕ)) : Type 0 where
  pub padding : List ℕ
  pub padded : IsPadding pc padding
  pub count : IsU4 (length pairs)
  pub keys : AllByRecursion (λ (pair : ℤ × ℕ). FitsAsSigned 4 pair.0) pairs × Rise pairs
  pub offsets :
      AllByRecursion (IsNear 4 pc) (otherwise ∷ map (λ (pair : ℤ × ℕ). pair.1) pairs)
  pub spelled :
      bytes ≡ padding ++ (offset_bytes 4 pc otherwise
      ++ (u4 (length pairs) ++ flat_map (pair_bytes pc) pairs))

-- ---- instructions

-- what stands behind an opcode of each format

abbrev pub SpellsConstant : ℕ → List ℕ → Instruction ℕ → Type 0
SpellsConstant count bytes instruction =
    (value : ℤ) × FitsAsSigned count value × (bytes ≡ signed_bytes count value)
    × (instruction ≡ push_int value)

abbrev pub SpellsIndex :
    ClassData → EntryKind → ℕ → (ℕ → Instruction ℕ) → List ℕ → Instruction ℕ → Type 0
SpellsIndex file kind count make bytes instruction =
    (index : ℕ) × IsIndex file kind count index × (bytes ≡ big_bytes count index)
    × (instruction ≡ make index)

abbrev pub SpellsLocal :
    ℕ → (ℕ → Instruction ℕ) → List ℕ → Instruction ℕ → Type 0
SpellsLocal count make bytes instruction =
    (index : ℕ) × Fits count index × (bytes ≡ big_bytes count index)
    × (instruction ≡ make index)

-- a local and what is added to it, of so many bytes each
abbrev pub SpellsIncrement : ℕ → List ℕ → Instruction ℕ → Type 0
SpellsIncrement count bytes instruction =
    (index : ℕ) × (added : ℤ) × Fits count index × FitsAsSigned count added
    × (bytes ≡ big_bytes count index ++ signed_bytes count added)
    × (instruction ≡ increment index added)

abbrev pub SpellsBranch : ℕ → ℕ → Branch → List ℕ → Instruction ℕ → Type 0
SpellsBranch pc count its bytes instruction =
    (target : ℕ) × IsNear count pc target × (bytes ≡ offset_bytes count pc target)
    × (instruction ≡ branch_to its target)

abbrev pub SpellsTableswitch : ℕ → List ℕ → Instruction ℕ → Type 0
SpellsTableswitch pc bytes instruction =
    (otherwise : ℕ) × (low : ℤ) × (targets : List ℕ)
    × SpellsTable pc bytes otherwise low targets
    × (instruction ≡ tableswitch otherwise low targets)

abbrev pub SpellsLookupswitch : ℕ → List ℕ → Instruction ℕ → Type 0
SpellsLookupswitch pc bytes instruction =
    (otherwise : ℕ) × (pairs : List (ℤ × ℕ)) × SpellsLookup pc bytes otherwise pairs
    × (instruction ≡ lookupswitch otherwise pairs)

abbrev pub SpellsInterfaceCall : ClassData → List ℕ → Instruction ℕ → Type 0
SpellsInterfaceCall file bytes instruction =
    (index : ℕ) × (words : ℕ) × IsIndex file a_method_of_interface 2 index
    × (argument_words file.pool index ≡ Some words) × IsU1 words
    × (bytes ≡ u2 index ++ (u1 words ++ u1 0)) × (instruction ≡ invokeinterface index)

abbrev pub SpellsNewarray : List ℕ → Instruction ℕ → Type 0
SpellsNewarray bytes instruction =
    (number : ℕ) × (type : PrimitiveType) × (primitive_of number ≡ Some type)
    × (bytes ≡ u1 number)
    × (instruction ≡ newarray type)

abbrev pub SpellsWide : Option Format → List ℕ → Instruction ℕ → Type 0
SpellsWide (Some (local make)) bytes instruction = SpellsLocal 2 make bytes instruction
SpellsWide (Some local_and_constant) bytes instruction = SpellsIncrement 2 bytes instruction
SpellsWide other bytes instruction = ⊥

abbrev pub SpellsWidened : List ℕ → Instruction ℕ → Type 0
SpellsWidened bytes instruction =
    (opcode : ℕ) × (rest : List ℕ) × (bytes ≡ u1 opcode ++ rest)
    × SpellsWide (format_of opcode) rest instruction

-- behind an opcode of that format, which stands at that pc
abbrev pub SpellsOperands :
    ClassData → ℕ → Option Format → List ℕ → Instruction ℕ → Type 0
SpellsOperands file pc None bytes instruction = ⊥
SpellsOperands file pc (Some (alone its)) bytes instruction = (bytes ≡ []) × (instruction ≡ its)
SpellsOperands file pc (Some byte_constant) bytes instruction = SpellsConstant 1 bytes instruction
SpellsOperands file pc (Some short_constant) bytes instruction = SpellsConstant 2 bytes instruction
SpellsOperands file pc (Some loadable_index) bytes instruction =
    SpellsIndex file a_loadable 1 ldc bytes instruction
SpellsOperands file pc (Some wide_loadable_index) bytes instruction =
    SpellsIndex file a_loadable 2 ldc bytes instruction
SpellsOperands file pc (Some (local make)) bytes instruction = SpellsLocal 1 make bytes instruction
SpellsOperands file pc (Some local_and_constant) bytes instruction =
    SpellsIncrement 1 bytes instruction
SpellsOperands file pc (Some (branch its)) bytes instruction =
    SpellsBranch pc 2 its bytes instruction
SpellsOperands file pc (Some (wide_branch its)) bytes instruction =
    SpellsBranch pc 4 its bytes instruction
SpellsOperands file pc (Some table_switch) bytes instruction =
    SpellsTableswitch pc bytes instruction
SpellsOperands file pc (Some lookup_switch) bytes instruction =
    SpellsLookupswitch pc bytes instruction
SpellsOperands file pc (Some (pool_index kind make)) bytes instruction =
    SpellsIndex file kind 2 make bytes instruction
SpellsOperands file pc (Some interface_call) bytes instruction =
    SpellsInterfaceCall file bytes instruction
SpellsOperands file pc (Some element_type) bytes instruction = SpellsNewarray bytes instruction
SpellsOperands file pc (Some wide_form) bytes instruction = SpellsWidened bytes instruction
SpellsOperands file pc (Some left_out) bytes instruction = ⊥
SpellsOperands file pc (Some left_out_local) bytes instruction = ⊥
