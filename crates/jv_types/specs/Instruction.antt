-- Which instruction of the definitions an `Instruction` is.
use Rattle.std.specs.Prelude.{ℕ, ℤ, List, map}
use Rattle.jv_types.specs.declared.instruction.ValueKind.{ValueKind}
use Rattle.jv_types.specs.declared.instruction.ValueKind.TheVariants as value_kinds
use Rattle.jv_types.specs.declared.instruction.ElementKind.{ElementKind}
use Rattle.jv_types.specs.declared.instruction.ElementKind.TheVariants as element_kinds
use Rattle.jv_types.specs.declared.instruction.PrimitiveType.{PrimitiveType}
use Rattle.jv_types.specs.declared.instruction.PrimitiveType.TheVariants as primitive_types
use Rattle.jv_types.specs.declared.instruction.StackForm.{StackForm}
use Rattle.jv_types.specs.declared.instruction.StackForm.TheVariants as stack_forms
use Rattle.jv_types.specs.declared.instruction.Arithmetic.{Arithmetic}
use Rattle.jv_types.specs.declared.instruction.Arithmetic.TheVariants as arithmetics
use Rattle.jv_types.specs.declared.instruction.Shift.{Shift}
use Rattle.jv_types.specs.declared.instruction.Shift.TheVariants as shifts
use Rattle.jv_types.specs.declared.instruction.Conversion.{Conversion}
use Rattle.jv_types.specs.declared.instruction.Conversion.TheVariants as conversions
use Rattle.jv_types.specs.declared.instruction.Comparison.{Comparison}
use Rattle.jv_types.specs.declared.instruction.Comparison.TheVariants as comparisons
use Rattle.jv_types.specs.declared.instruction.SwitchPair.{SwitchPair}
use Rattle.jv_types.specs.declared.instruction.Instruction.{Instruction}
use Rattle.jv_types.specs.declared.instruction.Instruction.TheVariants as here
use Rattle.jv_model.specs.Instruction as model

abbrev pub value_kind_of : ValueKind → model.ValueKind
value_kind_of value_kinds.Int = model.of_int
value_kind_of value_kinds.Long = model.of_long
value_kind_of value_kinds.Reference = model.of_reference

abbrev pub element_kind_of : ElementKind → model.ElementKind
element_kind_of element_kinds.Int = model.ints
element_kind_of element_kinds.Long = model.longs
element_kind_of element_kinds.Reference = model.references
element_kind_of element_kinds.Byte = model.bytes
element_kind_of element_kinds.Char = model.chars
element_kind_of element_kinds.Short = model.shorts

abbrev pub primitive_type_of : PrimitiveType → model.PrimitiveType
primitive_type_of primitive_types.Boolean = model.booleans_of
primitive_type_of primitive_types.Char = model.chars_of
primitive_type_of primitive_types.Byte = model.bytes_of
primitive_type_of primitive_types.Short = model.shorts_of
primitive_type_of primitive_types.Int = model.ints_of
primitive_type_of primitive_types.Long = model.longs_of

abbrev pub stack_form_of : StackForm → model.StackForm
stack_form_of stack_forms.Pop = model.pop_one
stack_form_of stack_forms.PopTwo = model.pop_two
stack_form_of stack_forms.Duplicate = model.duplicate
stack_form_of stack_forms.DuplicateX1 = model.duplicate_x1
stack_form_of stack_forms.DuplicateX2 = model.duplicate_x2
stack_form_of stack_forms.DuplicateTwo = model.duplicate_two
stack_form_of stack_forms.DuplicateTwoX1 = model.duplicate_two_x1
stack_form_of stack_forms.DuplicateTwoX2 = model.duplicate_two_x2
stack_form_of stack_forms.Swap = model.swap

abbrev pub arithmetic_of : Arithmetic → model.Arithmetic
arithmetic_of arithmetics.Add = model.add
arithmetic_of arithmetics.Subtract = model.subtract
arithmetic_of arithmetics.Multiply = model.multiply
arithmetic_of arithmetics.Divide = model.divide
arithmetic_of arithmetics.Remainder = model.remainder
arithmetic_of arithmetics.And = model.bit_and
arithmetic_of arithmetics.Or = model.bit_or
arithmetic_of arithmetics.Xor = model.bit_xor

abbrev pub shift_of : Shift → model.Shift
shift_of shifts.Left = model.shift_left
shift_of shifts.Right = model.shift_right
shift_of shifts.RightUnsigned = model.shift_right_unsigned

abbrev pub conversion_of : Conversion → model.Conversion
conversion_of conversions.IntToLong = model.int_to_long
conversion_of conversions.LongToInt = model.long_to_int
conversion_of conversions.IntToByte = model.int_to_byte
conversion_of conversions.IntToChar = model.int_to_char
conversion_of conversions.IntToShort = model.int_to_short

abbrev pub comparison_of : Comparison → model.Comparison
comparison_of comparisons.Equal = model.equal
comparison_of comparisons.NotEqual = model.not_equal
comparison_of comparisons.Less = model.less
comparison_of comparisons.GreaterOrEqual = model.greater_or_equal
comparison_of comparisons.Greater = model.greater
comparison_of comparisons.LessOrEqual = model.less_or_equal

abbrev pub pair_of : SwitchPair → ℤ × ℕ
pair_of pair = (pair.key, pair.target)

abbrev pub pairs_of : List SwitchPair → List (ℤ × ℕ)
pairs_of pairs = map pair_of pairs

abbrev pub instruction_of : Instruction → model.Instruction ℕ
instruction_of here.Nop = model.nop
instruction_of here.AconstNull = model.aconst_null
instruction_of (here.PushInt value) = model.push_int value
instruction_of (here.PushLong value) = model.push_long value
instruction_of (here.Ldc index) = model.ldc index
instruction_of (here.Ldc2W index) = model.ldc2_w index
instruction_of (here.Load kind local) = model.load (value_kind_of kind) local
instruction_of (here.Store kind local) = model.store (value_kind_of kind) local
instruction_of (here.ArrayLoad kind) = model.array_load (element_kind_of kind)
instruction_of (here.ArrayStore kind) = model.array_store (element_kind_of kind)
instruction_of (here.Stack form) = model.stack (stack_form_of form)
instruction_of (here.IntArithmetic operation) = model.int_arithmetic (arithmetic_of operation)
instruction_of (here.IntShift shift) = model.int_shift (shift_of shift)
instruction_of here.IntNegate = model.int_negate
instruction_of (here.LongArithmetic operation) = model.long_arithmetic (arithmetic_of operation)
instruction_of (here.LongShift shift) = model.long_shift (shift_of shift)
instruction_of here.LongNegate = model.long_negate
instruction_of (here.Increment local added) = model.increment local added
instruction_of (here.Convert conversion) = model.convert (conversion_of conversion)
instruction_of here.CompareLongs = model.compare_longs
instruction_of (here.IfZero comparison target) = model.if_zero (comparison_of comparison) target
instruction_of (here.IfInts comparison target) = model.if_ints (comparison_of comparison) target
instruction_of (here.IfReferences equal target) = model.if_references equal target
instruction_of (here.IfNull equal target) = model.if_null equal target
instruction_of (here.Goto target) = model.goto target
instruction_of (here.Tableswitch otherwise low targets) =
    model.tableswitch otherwise low targets.items
instruction_of (here.Lookupswitch otherwise pairs) =
    model.lookupswitch otherwise (pairs_of pairs.items)
instruction_of (here.ReturnValue kind) = model.return_value (value_kind_of kind)
instruction_of here.ReturnVoid = model.return_void
instruction_of (here.Getstatic index) = model.getstatic index
instruction_of (here.Putstatic index) = model.putstatic index
instruction_of (here.Getfield index) = model.getfield index
instruction_of (here.Putfield index) = model.putfield index
instruction_of (here.Invokevirtual index) = model.invokevirtual index
instruction_of (here.Invokespecial index) = model.invokespecial index
instruction_of (here.Invokestatic index) = model.invokestatic index
instruction_of (here.Invokeinterface index) = model.invokeinterface index
instruction_of (here.New index) = model.new index
instruction_of (here.Newarray element) = model.newarray (primitive_type_of element)
instruction_of (here.Anewarray index) = model.anewarray index
instruction_of here.Arraylength = model.arraylength
instruction_of here.Athrow = model.athrow
instruction_of (here.Checkcast index) = model.checkcast index
instruction_of (here.Instanceof index) = model.instanceof index
instruction_of here.Monitorenter = model.monitorenter
instruction_of here.Monitorexit = model.monitorexit
