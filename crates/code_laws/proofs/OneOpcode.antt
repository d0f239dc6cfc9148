-- An instruction and the number of bytes behind its opcode tell the opcode.
use Rattle.std.proofs.Common.{◌≡◌, ℕ, zero, suc, ◌+◌, ◌<◌, ◌≤◌, Bool, true, false, ◌&&◌, List, length, Option, Some, None, refl, sym, ap, subst, ◌∙◌, arith, IsTrue, inl, inr}
use Rattle.std.specs.Prelude.{if◌then◌else◌, ◌==◌, pos, ◌+ℤ◌, nat_abs}
use Rattle.std.proofs.lemmas.Bool.{eqb-true, and_parts, cases_lt}
use Rattle.jv_model.specs.Instruction.{Instruction, of_int, of_long, of_reference, ints, longs, references, bytes, chars, shorts, pop_one, pop_two, duplicate, duplicate_x1, duplicate_x2, duplicate_two, duplicate_two_x1, duplicate_two_x2, swap, add, subtract, multiply, divide, remainder, bit_and, bit_or, bit_xor, shift_left, shift_right, shift_right_unsigned, int_to_long, long_to_int, int_to_byte, int_to_char, int_to_short, equal, not_equal, less, greater_or_equal, greater, less_or_equal, nop, aconst_null, push_int, push_long, ldc, ldc2_w, load, store, array_load, array_store, stack, int_arithmetic, int_shift, int_negate, long_arithmetic, long_shift, long_negate, increment, convert, compare_longs, if_zero, if_ints, if_references, if_null, goto, tableswitch, lookupswitch, return_value, return_void, getstatic, putstatic, getfield, putfield, invokevirtual, invokespecial, invokestatic, invokeinterface, new, newarray, anewarray, arraylength, athrow, checkcast, instanceof, monitorenter, monitorexit}
use Rattle.jv_model.specs.ClassData.{ClassData}
use Rattle.jv_model.specs.Operand.{Operand}
use Rattle.code_model.specs.MappedInstruction.{mapped_instruction}
use Rattle.code_model.specs.Names.{operand_at}
use Rattle.code_model.specs.Formats.{Format, branch_to, alone, byte_constant, short_constant, loadable_index, wide_loadable_index, local, local_and_constant, branch, wide_branch, table_switch, lookup_switch, pool_index, interface_call, element_type, wide_form, left_out, left_out_local}
use Rattle.code_model.specs.Opcodes.{constants, loads, stores, stacks, maths, conversions, comparisons, controls, references_of, extended, format_of}
use Rattle.code_model.specs.SpellsOperands.{SpellsOperands, SpellsWide}
use Rattle.code_model.specs.Laws.{OneOpcode}
use Rattle.code_laws.proofs.OpcodeBytes.{format_listed}

-- of a load or a store: none, one or three bytes stand behind the opcode
abbrev of_local : ℕ → ℕ → ℕ → ℕ
of_local count short one = if count == 0 then short else if count == 1 then one else 0xC4

-- The table of opcodes, read backwards: the opcode of an instruction with so many bytes behind it.
-- `rows` below finds each row of the table in it.
abbrev opcode_of : {A : Type 0} → ℕ → Instruction A → ℕ
opcode_of count nop = 0x00
opcode_of count aconst_null = 0x01
opcode_of count (push_int value) =
    if count == 0 then nat_abs (value +ℤ pos 3) else if count == 1 then 0x10 else 0x11
opcode_of count (push_long value) = nat_abs (value +ℤ pos 9)
opcode_of count (ldc operand) = if count == 1 then 0x12 else 0x13
opcode_of count (ldc2_w operand) = 0x14
opcode_of count (load of_int index) = of_local count (0x1A + index) 0x15
opcode_of count (load of_long index) = of_local count (0x1E + index) 0x16
opcode_of count (load of_reference index) = of_local count (0x2A + index) 0x19
opcode_of count (store of_int index) = of_local count (0x3B + index) 0x36
opcode_of count (store of_long index) = of_local count (0x3F + index) 0x37
opcode_of count (store of_reference index) = of_local count (0x4B + index) 0x3A
opcode_of count (array_load ints) = 0x2E
opcode_of count (array_load longs) = 0x2F
opcode_of count (array_load references) = 0x32
opcode_of count (array_load bytes) = 0x33
opcode_of count (array_load chars) = 0x34
opcode_of count (array_load shorts) = 0x35
opcode_of count (array_store ints) = 0x4F
opcode_of count (array_store longs) = 0x50
opcode_of count (array_store references) = 0x53
opcode_of count (array_store bytes) = 0x54
opcode_of count (array_store chars) = 0x55
opcode_of count (array_store shorts) = 0x56
opcode_of count (stack pop_one) = 0x57
opcode_of count (stack pop_two) = 0x58
opcode_of count (stack duplicate) = 0x59
opcode_of count (stack duplicate_x1) = 0x5A
opcode_of count (stack duplicate_x2) = 0x5B
opcode_of count (stack duplicate_two) = 0x5C
opcode_of count (stack duplicate_two_x1) = 0x5D
opcode_of count (stack duplicate_two_x2) = 0x5E
opcode_of count (stack swap) = 0x5F
opcode_of count (int_arithmetic add) = 0x60
opcode_of count (int_arithmetic subtract) = 0x64
opcode_of count (int_arithmetic multiply) = 0x68
opcode_of count (int_arithmetic divide) = 0x6C
opcode_of count (int_arithmetic remainder) = 0x70
opcode_of count (int_arithmetic bit_and) = 0x7E
opcode_of count (int_arithmetic bit_or) = 0x80
opcode_of count (int_arithmetic bit_xor) = 0x82
opcode_of count (int_shift shift_left) = 0x78
opcode_of count (int_shift shift_right) = 0x7A
opcode_of count (int_shift shift_right_unsigned) = 0x7C
opcode_of count int_negate = 0x74
opcode_of count (long_arithmetic add) = 0x61
opcode_of count (long_arithmetic subtract) = 0x65
opcode_of count (long_arithmetic multiply) = 0x69
opcode_of count (long_arithmetic divide) = 0x6D
opcode_of count (long_arithmetic remainder) = 0x71
opcode_of count (long_arithmetic bit_and) = 0x7F
opcode_of count (long_arithmetic bit_or) = 0x81
opcode_of count (long_arithmetic bit_xor) = 0x83
opcode_of count (long_shift shift_left) = 0x79
opcode_of count (long_shift shift_right) = 0x7B
opcode_of count (long_shift shift_right_unsigned) = 0x7D
opcode_of count long_negate = 0x75
opcode_of count (increment index added) = if count == 2 then 0x84 else 0xC4
opcode_of count (convert int_to_long) = 0x85
opcode_of count (convert long_to_int) = 0x88
opcode_of count (convert int_to_byte) = 0x91
opcode_of count (convert int_to_char) = 0x92
opcode_of count (convert int_to_short) = 0x93
opcode_of count compare_longs = 0x94
opcode_of count (if_zero equal target) = 0x99
opcode_of count (if_zero not_equal target) = 0x9A
opcode_of count (if_zero less target) = 0x9B
opcode_of count (if_zero greater_or_equal target) = 0x9C
opcode_of count (if_zero greater target) = 0x9D
opcode_of count (if_zero less_or_equal target) = 0x9E
opcode_of count (if_ints equal target) = 0x9F
opcode_of count (if_ints not_equal target) = 0xA0
opcode_of count (if_ints less target) = 0xA1
opcode_of count (if_ints greater_or_equal target) = 0xA2
opcode_of count (if_ints greater target) = 0xA3
opcode_of count (if_ints less_or_equal target) = 0xA4
opcode_of count (if_references true target) = 0xA5
opcode_of count (if_references false target) = 0xA6
opcode_of count (if_null true target) = 0xC6
opcode_of count (if_null false target) = 0xC7
opcode_of count (goto target) = if count == 2 then 0xA7 else 0xC8
opcode_of count (tableswitch otherwise low targets) = 0xAA
opcode_of count (lookupswitch otherwise pairs) = 0xAB
opcode_of count (return_value of_int) = 0xAC
opcode_of count (return_value of_long) = 0xAD
opcode_of count (return_value of_reference) = 0xB0
opcode_of count return_void = 0xB1
opcode_of count (getstatic operand) = 0xB2
opcode_of count (putstatic operand) = 0xB3
opcode_of count (getfield operand) = 0xB4
opcode_of count (putfield operand) = 0xB5
opcode_of count (invokevirtual operand) = 0xB6
opcode_of count (invokespecial operand) = 0xB7
opcode_of count (invokestatic operand) = 0xB8
opcode_of count (invokeinterface operand) = 0xB9
opcode_of count (new operand) = 0xBB
opcode_of count (newarray type) = 0xBC
opcode_of count (anewarray operand) = 0xBD
opcode_of count arraylength = 0xBE
opcode_of count athrow = 0xBF
opcode_of count (checkcast operand) = 0xC0
opcode_of count (instanceof operand) = 0xC1
opcode_of count monitorenter = 0xC2
opcode_of count monitorexit = 0xC3

-- names don't change it
opcode_of_mapped :
    {A B : Type 0} (f : A → B) (count : ℕ) (instruction : Instruction A)
    → opcode_of count (mapped_instruction f instruction) ≡ opcode_of count instruction
opcode_of_mapped f count nop = refl
opcode_of_mapped f count aconst_null = refl
opcode_of_mapped f count (push_int value) = refl
opcode_of_mapped f count (push_long value) = refl
opcode_of_mapped f count (ldc operand) = refl
opcode_of_mapped f count (ldc2_w operand) = refl
opcode_of_mapped f count (load kind index) = refl
opcode_of_mapped f count (store kind index) = refl
opcode_of_mapped f count (array_load kind) = refl
opcode_of_mapped f count (array_store kind) = refl
opcode_of_mapped f count (stack form) = refl
opcode_of_mapped f count (int_arithmetic operation) = refl
opcode_of_mapped f count (int_shift operation) = refl
opcode_of_mapped f count int_negate = refl
opcode_of_mapped f count (long_arithmetic operation) = refl
opcode_of_mapped f count (long_shift operation) = refl
opcode_of_mapped f count long_negate = refl
opcode_of_mapped f count (increment index added) = refl
opcode_of_mapped f count (convert conversion) = refl
opcode_of_mapped f count compare_longs = refl
opcode_of_mapped f count (if_zero comparison target) = refl
opcode_of_mapped f count (if_ints comparison target) = refl
opcode_of_mapped f count (if_references is target) = refl
opcode_of_mapped f count (if_null is target) = refl
opcode_of_mapped f count (goto target) = refl
opcode_of_mapped f count (tableswitch otherwise low targets) = refl
opcode_of_mapped f count (lookupswitch otherwise pairs) = refl
opcode_of_mapped f count (return_value kind) = refl
opcode_of_mapped f count return_void = refl
opcode_of_mapped f count (getstatic operand) = refl
opcode_of_mapped f count (putstatic operand) = refl
opcode_of_mapped f count (getfield operand) = refl
opcode_of_mapped f count (putfield operand) = refl
opcode_of_mapped f count (invokevirtual operand) = refl
opcode_of_mapped f count (invokespecial operand) = refl
opcode_of_mapped f count (invokestatic operand) = refl
opcode_of_mapped f count (invokeinterface operand) = refl
opcode_of_mapped f count (new operand) = refl
opcode_of_mapped f count (newarray type) = refl
opcode_of_mapped f count (anewarray operand) = refl
opcode_of_mapped f count arraylength = refl
opcode_of_mapped f count athrow = refl
opcode_of_mapped f count (checkcast operand) = refl
opcode_of_mapped f count (instanceof operand) = refl
opcode_of_mapped f count monitorenter = refl
opcode_of_mapped f count monitorexit = refl

-- ---- the rows of the table

-- the row of an opcode has that opcode, whatever number stands behind it
abbrev is_row : ℕ → ℕ → Option Format → Bool
is_row number opcode None = true
is_row number opcode (Some (alone its)) = opcode_of 0 its == opcode
is_row number opcode (Some byte_constant) = opcode == 0x10
is_row number opcode (Some short_constant) = opcode == 0x11
is_row number opcode (Some loadable_index) = opcode == 0x12
is_row number opcode (Some wide_loadable_index) = opcode == 0x13
is_row number opcode (Some (local make)) =
    (opcode_of 1 (make number) == opcode) && (opcode_of 3 (make number) == 0xC4)
is_row number opcode (Some local_and_constant) = opcode == 0x84
is_row number opcode (Some (branch its)) = opcode_of 2 (branch_to its number) == opcode
is_row number opcode (Some (wide_branch its)) = opcode_of 4 (branch_to its number) == opcode
is_row number opcode (Some table_switch) = opcode == 0xAA
is_row number opcode (Some lookup_switch) = opcode == 0xAB
is_row number opcode (Some (pool_index kind make)) = opcode_of 2 (make number) == opcode
is_row number opcode (Some interface_call) = opcode == 0xB9
is_row number opcode (Some element_type) = opcode == 0xBC
is_row number opcode (Some wide_form) = opcode == 0xC4
is_row number opcode (Some left_out) = true
is_row number opcode (Some left_out_local) = true

-- a test holds of all numbers below one
abbrev all_below : ℕ → (ℕ → Bool) → Bool
all_below zero test = true
all_below (suc n) test = test n && all_below n test

-- so it holds of each
below : (n : ℕ) (test : ℕ → Bool) → IsTrue (all_below n test) → (m : ℕ) → m < n → IsTrue (test m)
below zero test all m under = absurd (omega (arith, under))
below (suc n) test all m under =
    let both = and_parts (test n) (all_below n test) all in
    elim (cases_lt m n) [
      | inl first ↦ below n test both.1 m first
      | inr last ↦
          let same : n ≡ m = omega (arith, under, last) in
          subst (λ (k : ℕ). IsTrue (test k)) same both.0
    ]

-- each row of the table has its opcode
rows : (number : ℕ) → IsTrue (all_below 0xCA (λ opcode. is_row number opcode (format_of opcode)))
unfolding constants loads stores stacks maths conversions comparisons controls references_of
    extended format_of
rows number = refl

-- each opcode's row is its own, in the table or not
row : (number opcode : ℕ) → IsTrue (is_row number opcode (format_of opcode))
row number opcode = by_format (format_of opcode) refl
  where
    by_format :
        (format : Option Format) → format_of opcode ≡ format
        → IsTrue (is_row number opcode (format_of opcode))
    by_format None e = rw e refl
    by_format (Some format) e =
        let listed : opcode ≤ 0xC9 = format_listed opcode format e in
        below 0xCA (λ opcode. is_row number opcode (format_of opcode)) (rows number) opcode
        (omega (arith, listed))

-- ---- the opcode

-- what stands behind `wide` makes its instruction `wide`'s
wide_back :
    (format : Option Format) (opcode : ℕ) → ((number : ℕ) → IsTrue (is_row number opcode format))
    → (rest : List ℕ) (instruction : Instruction ℕ) → SpellsWide format rest instruction
    → opcode_of (suc (length rest)) instruction ≡ 0xC4
wide_back (Some (local make)) opcode rows rest instruction (index, fits, rest_is, is) =
    let both =
    and_parts (opcode_of 1 (make index) == opcode) (opcode_of 3 (make index) == 0xC4)
    (rows index) in
    rw (rest_is, is) (eqb-true _ _ both.1)
wide_back (Some local_and_constant) opcode rows rest instruction
    (index, added, fits, narrow, rest_is, is) =
    rw (rest_is, is) refl
wide_back other opcode rows rest instruction spelled = absurd spelled

-- an instruction, and how many bytes stand behind its opcode, tell the opcode
opcode_back :
    (file : ClassData) (pc opcode : ℕ) (format : Option Format)
    → ((number : ℕ) → IsTrue (is_row number opcode format))
    → (operands : List ℕ) (instruction : Instruction ℕ)
    → SpellsOperands file pc format operands instruction
    → opcode_of (length operands) instruction ≡ opcode
opcode_back file pc opcode None rows operands instruction spelled = absurd spelled
opcode_back file pc opcode (Some (alone its)) rows operands instruction (none, is) =
    rw (none, is) (eqb-true _ _ (rows 0))
opcode_back file pc opcode (Some byte_constant) rows operands instruction
    (value, fits, bytes_are, is) =
    rw (bytes_are, is) (sym (eqb-true _ _ (rows 0)))
opcode_back file pc opcode (Some short_constant) rows operands instruction
    (value, fits, bytes_are, is) =
    rw (bytes_are, is) (sym (eqb-true _ _ (rows 0)))
opcode_back file pc opcode (Some loadable_index) rows operands instruction
    (index, fits, bytes_are, is) =
    rw (bytes_are, is) (sym (eqb-true _ _ (rows 0)))
opcode_back file pc opcode (Some wide_loadable_index) rows operands instruction
    (index, fits, bytes_are, is) =
    rw (bytes_are, is) (sym (eqb-true _ _ (rows 0)))
opcode_back file pc opcode (Some (local make)) rows operands instruction
    (index, fits, bytes_are, is) =
    let both =
    and_parts (opcode_of 1 (make index) == opcode) (opcode_of 3 (make index) == 0xC4)
    (rows index) in
    rw (bytes_are, is) (eqb-true _ _ both.0)
opcode_back file pc opcode (Some local_and_constant) rows operands instruction
    (index, added, fits, narrow, bytes_are, is) =
    rw (bytes_are, is) (sym (eqb-true _ _ (rows 0)))
opcode_back file pc opcode (Some (branch its)) rows operands instruction
    (target, near, bytes_are, is) =
    rw (bytes_are, is) (eqb-true _ _ (rows target))
opcode_back file pc opcode (Some (wide_branch its)) rows operands instruction
    (target, near, bytes_are, is) =
    rw (bytes_are, is) (eqb-true _ _ (rows target))
opcode_back file pc opcode (Some table_switch) rows operands instruction
    (otherwise, low, targets, table, is) =
    rw is (sym (eqb-true _ _ (rows 0)))
opcode_back file pc opcode (Some lookup_switch) rows operands instruction
    (otherwise, pairs, lookup, is) =
    rw is (sym (eqb-true _ _ (rows 0)))
opcode_back file pc opcode (Some (pool_index kind make)) rows operands instruction
    (index, fits, bytes_are, is) =
    rw (bytes_are, is) (eqb-true _ _ (rows index))
opcode_back file pc opcode (Some interface_call) rows operands instruction
    (index, words, names, counted, small, bytes_are, is) =
    rw is (sym (eqb-true _ _ (rows 0)))
opcode_back file pc opcode (Some element_type) rows operands instruction
    (number, type, found, bytes_are, is) =
    rw is (sym (eqb-true _ _ (rows 0)))
opcode_back file pc opcode (Some wide_form) rows operands instruction
    (inner, rest, bytes_are, spelled) =
    rw bytes_are (wide_back (format_of inner) inner
    (λ number. row number inner) rest instruction spelled
    ∙ sym (eqb-true _ _ (rows 0)))
opcode_back file pc opcode (Some left_out) rows operands instruction spelled = absurd spelled
opcode_back file pc opcode (Some left_out_local) rows operands instruction spelled = absurd spelled

-- so instructions that are equal and equally long have one opcode
pub one_opcode : OneOpcode
one_opcode file other_file pc other_pc opcode other_opcode operands other_operands instruction other
    spelled other_spelled same lengths =
    let one =
    opcode_back file pc opcode (format_of opcode)
    (λ number. row number opcode) operands instruction spelled in
    let another =
    opcode_back other_file other_pc other_opcode (format_of other_opcode)
    (λ number. row number other_opcode)
    other_operands other other_spelled in
    sym one ∙ sym (opcode_of_mapped (operand_at file.pool) (length operands) instruction)
    ∙ ap (λ (its : Instruction Operand). opcode_of (length operands) its) same
    ∙ opcode_of_mapped (operand_at other_file.pool) (length operands) other
    ∙ ap (λ (count : ℕ). opcode_of count other) lengths ∙ another
