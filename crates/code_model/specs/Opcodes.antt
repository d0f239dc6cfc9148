-- The opcodes, in the groups of JVMS 7, each with its format (JVMS 6.5).
use Rattle.std.specs.Prelude.{ℕ, ◌-◌, true, false, if◌then◌else◌, ◌==◌, nat_le, Option, Some, None, pos, neg_ℤ}
use Rattle.jv_model.specs.Instruction.{of_int, of_long, of_reference, ints, longs, references, bytes, chars, shorts, pop_one, pop_two, duplicate, duplicate_x1, duplicate_x2, duplicate_two, duplicate_two_x1, duplicate_two_x2, swap, add, subtract, multiply, divide, remainder, bit_and, bit_or, bit_xor, shift_left, shift_right, shift_right_unsigned, int_to_long, long_to_int, int_to_byte, int_to_char, int_to_short, equal, not_equal, less, greater_or_equal, greater, less_or_equal, nop, aconst_null, push_int, push_long, ldc2_w, load, store, array_load, array_store, stack, int_arithmetic, int_shift, int_negate, long_arithmetic, long_shift, long_negate, convert, compare_longs, return_value, return_void, getstatic, putstatic, getfield, putfield, invokevirtual, invokespecial, invokestatic, new, anewarray, arraylength, athrow, checkcast, instanceof, monitorenter, monitorexit}
use Rattle.code_model.specs.Entries.{a_long, a_field, a_method, a_method_of_any, a_class}
use Rattle.code_model.specs.Formats.{on_zero, on_ints, on_references, on_null, always, Format, alone, byte_constant, short_constant, loadable_index, wide_loadable_index, local, local_and_constant, branch, wide_branch, table_switch, lookup_switch, pool_index, interface_call, element_type, wide_form, left_out, left_out_local}

-- JVMS 7, Constants
unfoldable pub constants : ℕ → Format
constants opcode =
    if opcode == 0x00 then alone nop  -- nop
    else if opcode == 0x01 then alone aconst_null  -- aconst_null
    else if opcode == 0x02 then alone (push_int (neg_ℤ (pos 1)))  -- iconst_m1
    else if nat_le opcode 0x08 then alone (push_int (pos (opcode - 0x03)))  -- iconst_0 to iconst_5
    else if nat_le opcode 0x0A then alone (push_long (pos (opcode - 0x09)))  -- lconst_0, lconst_1
    else if nat_le opcode 0x0F then left_out  -- fconst_0 to fconst_2, dconst_0, dconst_1
    else if opcode == 0x10 then byte_constant  -- bipush
    else if opcode == 0x11 then short_constant  -- sipush
    else if opcode == 0x12 then loadable_index  -- ldc
    else if opcode == 0x13 then wide_loadable_index  -- ldc_w
    else pool_index a_long ldc2_w  -- 0x14 ldc2_w

-- JVMS 7, Loads
unfoldable pub loads : ℕ → Format
loads opcode =
    if opcode == 0x15 then local (load of_int)  -- iload
    else if opcode == 0x16 then local (load of_long)  -- lload
    else if nat_le opcode 0x18 then left_out_local  -- fload, dload
    else if opcode == 0x19 then local (load of_reference)  -- aload
    else if nat_le opcode 0x1D then alone (load of_int (opcode - 0x1A))  -- iload_0 to iload_3
    else if nat_le opcode 0x21 then alone (load of_long (opcode - 0x1E))  -- lload_0 to lload_3
    else if nat_le opcode 0x29 then left_out  -- fload_0 to fload_3, dload_0 to dload_3
    else if nat_le opcode 0x2D then alone (load of_reference (opcode - 0x2A))  -- aload_0 to aload_3
    else if opcode == 0x2E then alone (array_load ints)  -- iaload
    else if opcode == 0x2F then alone (array_load longs)  -- laload
    else if nat_le opcode 0x31 then left_out  -- faload, daload
    else if opcode == 0x32 then alone (array_load references)  -- aaload
    else if opcode == 0x33 then alone (array_load bytes)  -- baload
    else if opcode == 0x34 then alone (array_load chars)  -- caload
    else alone (array_load shorts)  -- 0x35 saload

-- JVMS 7, Stores
unfoldable pub stores : ℕ → Format
stores opcode =
    if opcode == 0x36 then local (store of_int)  -- istore
    else if opcode == 0x37 then local (store of_long)  -- lstore
    else if nat_le opcode 0x39 then left_out_local  -- fstore, dstore
    else if opcode == 0x3A then local (store of_reference)  -- astore
    else if nat_le opcode 0x3E then alone (store of_int (opcode - 0x3B))  -- istore_0 to istore_3
    else if nat_le opcode 0x42 then alone (store of_long (opcode - 0x3F))  -- lstore_0 to lstore_3
    else if nat_le opcode 0x4A then left_out  -- fstore_0 to fstore_3, dstore_0 to dstore_3
    else if nat_le opcode 0x4E then alone (store of_reference (opcode - 0x4B))  -- astore_0 to _3
    else if opcode == 0x4F then alone (array_store ints)  -- iastore
    else if opcode == 0x50 then alone (array_store longs)  -- lastore
    else if nat_le opcode 0x52 then left_out  -- fastore, dastore
    else if opcode == 0x53 then alone (array_store references)  -- aastore
    else if opcode == 0x54 then alone (array_store bytes)  -- bastore
    else if opcode == 0x55 then alone (array_store chars)  -- castore
    else alone (array_store shorts)  -- 0x56 sastore

-- JVMS 7, Stack
unfoldable pub stacks : ℕ → Format
stacks opcode =
    if opcode == 0x57 then alone (stack pop_one)  -- pop
    else if opcode == 0x58 then alone (stack pop_two)  -- pop2
    else if opcode == 0x59 then alone (stack duplicate)  -- dup
    else if opcode == 0x5A then alone (stack duplicate_x1)  -- dup_x1
    else if opcode == 0x5B then alone (stack duplicate_x2)  -- dup_x2
    else if opcode == 0x5C then alone (stack duplicate_two)  -- dup2
    else if opcode == 0x5D then alone (stack duplicate_two_x1)  -- dup2_x1
    else if opcode == 0x5E then alone (stack duplicate_two_x2)  -- dup2_x2
    else alone (stack swap)  -- 0x5F swap

-- JVMS 7, Math
unfoldable pub maths : ℕ → Format
maths opcode =
    if opcode == 0x60 then alone (int_arithmetic add)  -- iadd
    else if opcode == 0x61 then alone (long_arithmetic add)  -- ladd
    else if nat_le opcode 0x63 then left_out  -- fadd, dadd
    else if opcode == 0x64 then alone (int_arithmetic subtract)  -- isub
    else if opcode == 0x65 then alone (long_arithmetic subtract)  -- lsub
    else if nat_le opcode 0x67 then left_out  -- fsub, dsub
    else if opcode == 0x68 then alone (int_arithmetic multiply)  -- imul
    else if opcode == 0x69 then alone (long_arithmetic multiply)  -- lmul
    else if nat_le opcode 0x6B then left_out  -- fmul, dmul
    else if opcode == 0x6C then alone (int_arithmetic divide)  -- idiv
    else if opcode == 0x6D then alone (long_arithmetic divide)  -- ldiv
    else if nat_le opcode 0x6F then left_out  -- fdiv, ddiv
    else if opcode == 0x70 then alone (int_arithmetic remainder)  -- irem
    else if opcode == 0x71 then alone (long_arithmetic remainder)  -- lrem
    else if nat_le opcode 0x73 then left_out  -- frem, drem
    else if opcode == 0x74 then alone int_negate  -- ineg
    else if opcode == 0x75 then alone long_negate  -- lneg
    else if nat_le opcode 0x77 then left_out  -- fneg, dneg
    else if opcode == 0x78 then alone (int_shift shift_left)  -- ishl
    else if opcode == 0x79 then alone (long_shift shift_left)  -- lshl
    else if opcode == 0x7A then alone (int_shift shift_right)  -- ishr
    else if opcode == 0x7B then alone (long_shift shift_right)  -- lshr
    else if opcode == 0x7C then alone (int_shift shift_right_unsigned)  -- iushr
    else if opcode == 0x7D then alone (long_shift shift_right_unsigned)  -- lushr
    else if opcode == 0x7E then alone (int_arithmetic bit_and)  -- iand
    else if opcode == 0x7F then alone (long_arithmetic bit_and)  -- land
    else if opcode == 0x80 then alone (int_arithmetic bit_or)  -- ior
    else if opcode == 0x81 then alone (long_arithmetic bit_or)  -- lor
    else if opcode == 0x82 then alone (int_arithmetic bit_xor)  -- ixor
    else if opcode == 0x83 then alone (long_arithmetic bit_xor)  -- lxor
    else local_and_constant  -- 0x84 iinc

-- JVMS 7, Conversions
unfoldable pub conversions : ℕ → Format
conversions opcode =
    if opcode == 0x85 then alone (convert int_to_long)  -- i2l
    else if nat_le opcode 0x87 then left_out  -- i2f, i2d
    else if opcode == 0x88 then alone (convert long_to_int)  -- l2i
    else if nat_le opcode 0x90 then left_out  -- l2f, l2d, f2i, f2l, f2d, d2i, d2l, d2f
    else if opcode == 0x91 then alone (convert int_to_byte)  -- i2b
    else if opcode == 0x92 then alone (convert int_to_char)  -- i2c
    else alone (convert int_to_short)  -- 0x93 i2s

-- JVMS 7, Comparisons
unfoldable pub comparisons : ℕ → Format
comparisons opcode =
    if opcode == 0x94 then alone compare_longs  -- lcmp
    else if nat_le opcode 0x98 then left_out  -- fcmpl, fcmpg, dcmpl, dcmpg
    else if opcode == 0x99 then branch (on_zero equal)  -- ifeq
    else if opcode == 0x9A then branch (on_zero not_equal)  -- ifne
    else if opcode == 0x9B then branch (on_zero less)  -- iflt
    else if opcode == 0x9C then branch (on_zero greater_or_equal)  -- ifge
    else if opcode == 0x9D then branch (on_zero greater)  -- ifgt
    else if opcode == 0x9E then branch (on_zero less_or_equal)  -- ifle
    else if opcode == 0x9F then branch (on_ints equal)  -- if_icmpeq
    else if opcode == 0xA0 then branch (on_ints not_equal)  -- if_icmpne
    else if opcode == 0xA1 then branch (on_ints less)  -- if_icmplt
    else if opcode == 0xA2 then branch (on_ints greater_or_equal)  -- if_icmpge
    else if opcode == 0xA3 then branch (on_ints greater)  -- if_icmpgt
    else if opcode == 0xA4 then branch (on_ints less_or_equal)  -- if_icmple
    else if opcode == 0xA5 then branch (on_references true)  -- if_acmpeq
    else branch (on_references false)  -- 0xA6 if_acmpne

-- JVMS 7, Control
unfoldable pub controls : ℕ → Format
controls opcode =
    if opcode == 0xA7 then branch always  -- goto
    else if opcode == 0xA8 then left_out  -- jsr
    else if opcode == 0xA9 then left_out_local  -- ret
    else if opcode == 0xAA then table_switch  -- tableswitch
    else if opcode == 0xAB then lookup_switch  -- lookupswitch
    else if opcode == 0xAC then alone (return_value of_int)  -- ireturn
    else if opcode == 0xAD then alone (return_value of_long)  -- lreturn
    else if nat_le opcode 0xAF then left_out  -- freturn, dreturn
    else if opcode == 0xB0 then alone (return_value of_reference)  -- areturn
    else alone return_void  -- 0xB1 return

-- JVMS 7, References
unfoldable pub references_of : ℕ → Format
references_of opcode =
    if opcode == 0xB2 then pool_index a_field getstatic  -- getstatic
    else if opcode == 0xB3 then pool_index a_field putstatic  -- putstatic
    else if opcode == 0xB4 then pool_index a_field getfield  -- getfield
    else if opcode == 0xB5 then pool_index a_field putfield  -- putfield
    else if opcode == 0xB6 then pool_index a_method invokevirtual  -- invokevirtual
    else if opcode == 0xB7 then pool_index a_method_of_any invokespecial  -- invokespecial
    else if opcode == 0xB8 then pool_index a_method_of_any invokestatic  -- invokestatic
    else if opcode == 0xB9 then interface_call  -- invokeinterface
    else if opcode == 0xBA then left_out  -- invokedynamic
    else if opcode == 0xBB then pool_index a_class new  -- new
    else if opcode == 0xBC then element_type  -- newarray
    else if opcode == 0xBD then pool_index a_class anewarray  -- anewarray
    else if opcode == 0xBE then alone arraylength  -- arraylength
    else if opcode == 0xBF then alone athrow  -- athrow
    else if opcode == 0xC0 then pool_index a_class checkcast  -- checkcast
    else if opcode == 0xC1 then pool_index a_class instanceof  -- instanceof
    else if opcode == 0xC2 then alone monitorenter  -- monitorenter
    else alone monitorexit  -- 0xC3 monitorexit

-- JVMS 7, Extended
unfoldable pub extended : ℕ → Format
extended opcode =
    if opcode == 0xC4 then wide_form  -- wide
    else if opcode == 0xC5 then left_out  -- multianewarray
    else if opcode == 0xC6 then branch (on_null true)  -- ifnull
    else if opcode == 0xC7 then branch (on_null false)  -- ifnonnull
    else if opcode == 0xC8 then wide_branch always  -- goto_w
    else left_out  -- 0xC9 jsr_w

-- The format of an opcode; behind jsr_w there are none (JVMS 6.2).
unfoldable pub format_of : ℕ → Option Format
format_of opcode =
    if nat_le opcode 0x14 then Some (constants opcode)
    else if nat_le opcode 0x35 then Some (loads opcode)
    else if nat_le opcode 0x56 then Some (stores opcode)
    else if nat_le opcode 0x5F then Some (stacks opcode)
    else if nat_le opcode 0x84 then Some (maths opcode)
    else if nat_le opcode 0x93 then Some (conversions opcode)
    else if nat_le opcode 0xA6 then Some (comparisons opcode)
    else if nat_le opcode 0xB1 then Some (controls opcode)
    else if nat_le opcode 0xC3 then Some (references_of opcode)
    else if nat_le opcode 0xC9 then Some (extended opcode)
    else None
