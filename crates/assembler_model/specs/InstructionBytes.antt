-- The bytes of an instruction (JVMS 6.5) of an assembler text.
use Rattle.std.specs.Prelude.{ℕ, ◌+◌, ◌-◌, ◌%◌, ℤ, pos, ◌-ℤ◌, ◌+ℤ◌, neg_ℤ, int_le, List, [], ◌∷◌, ◌++◌, Bool, ◌&&◌, ◌||◌, not, if◌then◌else◌, nat_lt, unwrap_or, option_map, flat_map, length, replicate}
use Rattle.std.specs.Int.{w8, w16, w32, cast_unsigned}
use Rattle.jv_model.specs.ClassBytes.{u1, u2, u4}
use Rattle.jv_model.specs.Operand.{MemberReference}
use Rattle.code_model.specs.TypeReading.{method_type_of, parameter_words}
use Rattle.assembler_model.specs.AssemblerTerms.{Label, ReferenceKind, to_interface_method, Operation, plain, of_local, of_byte, of_short, branch, wide_branch, of_member, of_class, load_constant, load_long, newarray, increment, tableswitch, lookupswitch}
use Rattle.assembler_model.specs.PoolEntries.{Entry, long_entry, class_entry, member_entry}
use Rattle.assembler_model.specs.PoolNeeds.{constant_entry}
use Rattle.assembler_model.specs.AssemblerPool.{index_in}

-- ---- the bytes of an instruction

-- signed numbers of one, two and four bytes
abbrev pub s1 : ℤ → List ℕ
s1 value = u1 (cast_unsigned w8 value)

abbrev pub s2 : ℤ → List ℕ
s2 value = u2 (cast_unsigned w16 value)

abbrev pub s4 : ℤ → List ℕ
s4 value = u4 (cast_unsigned w32 value)

-- one byte holds the number
abbrev pub is_byte : ℤ → Bool
is_byte value = int_le (neg_ℤ (pos 128)) value && int_le value (pos 127)

-- from one pc to another
abbrev pub distance : ℕ → ℕ → ℤ
distance from to = pos to -ℤ pos from

-- zeros up to a multiple of four, behind the opcode of a switch at this pc
abbrev pub padding : ℕ → List ℕ
padding pc = replicate (3 - pc % 4) 0

-- The count of invokeinterface: the words of the parameters and of the receiver, 0 where the descriptor is ill
-- formed or they are too many.
abbrev pub argument_count : List ℕ → ℕ
argument_count descriptor =
    unwrap_or (option_map (λ type. (parameter_words type + 1) % 256) (method_type_of descriptor)) 0

-- what stands behind the index of `invokeinterface`
abbrev pub count_bytes : ReferenceKind → MemberReference → List ℕ
count_bytes to_interface_method reference = u1 (argument_count reference.descriptor) ++ u1 0
count_bytes other reference = []

-- `wide` where the local or the constant needs it
abbrev pub local_bytes : ℕ → ℕ → List ℕ
local_bytes opcode local = if nat_lt 255 local then 0xC4 ∷ opcode ∷ u2 local else opcode ∷ u1 local

abbrev pub increment_bytes : ℕ → ℤ → List ℕ
increment_bytes local constant =
    if nat_lt 255 local || not (is_byte constant) then 0xC4 ∷ 0x84 ∷ u2 local ++ s2 constant else 0x84 ∷ u1 local
    ++ s1 constant

-- `ldc`, and `ldc_w` where the index needs it
abbrev pub constant_bytes : ℕ → List ℕ
constant_bytes index = if nat_lt 255 index then 0x13 ∷ u2 index else 0x12 ∷ u1 index

-- an instruction at this pc, where labels stand for these pcs
unfoldable pub operation_bytes : List Entry → (Label → ℕ) → ℕ → Operation → List ℕ
operation_bytes entries target pc (plain opcode) = opcode ∷ []
operation_bytes entries target pc (of_local opcode local) = local_bytes opcode local
operation_bytes entries target pc (of_byte opcode constant) = opcode ∷ s1 constant
operation_bytes entries target pc (of_short opcode constant) = opcode ∷ s2 constant
operation_bytes entries target pc (branch opcode label) = opcode ∷ s2 (distance pc (target label))
operation_bytes entries target pc (wide_branch opcode label) = opcode ∷ s4 (distance pc (target label))
operation_bytes entries target pc (of_member opcode kind reference) =
    opcode ∷ u2 (index_in entries (member_entry kind reference)) ++ count_bytes kind reference
operation_bytes entries target pc (of_class opcode name) = opcode ∷ u2 (index_in entries (class_entry name))
operation_bytes entries target pc (load_constant constant) = constant_bytes (index_in entries (constant_entry constant))
operation_bytes entries target pc (load_long value) = 0x14 ∷ u2 (index_in entries (long_entry value))
operation_bytes entries target pc (newarray type) = 0xBC ∷ type ∷ []
operation_bytes entries target pc (increment local constant) = increment_bytes local constant
operation_bytes entries target pc (tableswitch low labels default) =
    0xAA ∷ padding pc ++ s4 (distance pc (target default)) ++ s4 low ++ s4 ((low +ℤ pos (length labels)) -ℤ pos 1)
    ++ flat_map (λ label. s4 (distance pc (target label))) labels
operation_bytes entries target pc (lookupswitch rows default) =
    0xAB ∷ padding pc ++ s4 (distance pc (target default)) ++ u4 (length rows)
    ++ flat_map (λ row. s4 row.0 ++ s4 (distance pc (target row.1))) rows
