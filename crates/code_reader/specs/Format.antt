-- Which format of the definitions a `Format` is.
use Rattle.std.specs.Prelude.{ℕ}
use Rattle.jv_types.specs.Instruction.{value_kind_of, element_kind_of, stack_form_of, arithmetic_of, shift_of, conversion_of, comparison_of}
use Rattle.jv_model.specs.Instruction as instructions
use Rattle.code_model.specs.Entries as entries
use Rattle.code_model.specs.Formats as formats
use Rattle.code_reader.specs.declared.format.Plain.{Plain}
use Rattle.code_reader.specs.declared.format.Plain.TheVariants as plain
use Rattle.code_reader.specs.declared.format.LocalAccess.{LocalAccess}
use Rattle.code_reader.specs.declared.format.LocalAccess.TheVariants as access
use Rattle.code_reader.specs.declared.format.Branch.{Branch}
use Rattle.code_reader.specs.declared.format.Branch.TheVariants as branches
use Rattle.code_reader.specs.declared.format.EntryKind.{EntryKind}
use Rattle.code_reader.specs.declared.format.EntryKind.TheVariants as kinds
use Rattle.code_reader.specs.declared.format.Indexed.{Indexed}
use Rattle.code_reader.specs.declared.format.Indexed.TheVariants as indexed
use Rattle.code_reader.specs.declared.format.Format.{Format}
use Rattle.code_reader.specs.declared.format.Format.TheVariants as here

abbrev pub plain_of : Plain → instructions.Instruction ℕ
plain_of plain.Nop = instructions.nop
plain_of plain.AconstNull = instructions.aconst_null
plain_of (plain.PushInt value) = instructions.push_int value
plain_of (plain.PushLong value) = instructions.push_long value
plain_of (plain.Load kind index) = instructions.load (value_kind_of kind) index
plain_of (plain.Store kind index) = instructions.store (value_kind_of kind) index
plain_of (plain.ArrayLoad kind) = instructions.array_load (element_kind_of kind)
plain_of (plain.ArrayStore kind) = instructions.array_store (element_kind_of kind)
plain_of (plain.Stack form) = instructions.stack (stack_form_of form)
plain_of (plain.IntArithmetic operation) = instructions.int_arithmetic (arithmetic_of operation)
plain_of (plain.IntShift shift) = instructions.int_shift (shift_of shift)
plain_of plain.IntNegate = instructions.int_negate
plain_of (plain.LongArithmetic operation) = instructions.long_arithmetic (arithmetic_of operation)
plain_of (plain.LongShift shift) = instructions.long_shift (shift_of shift)
plain_of plain.LongNegate = instructions.long_negate
plain_of (plain.Convert conversion) = instructions.convert (conversion_of conversion)
plain_of plain.CompareLongs = instructions.compare_longs
plain_of (plain.ReturnValue kind) = instructions.return_value (value_kind_of kind)
plain_of plain.ReturnVoid = instructions.return_void
plain_of plain.Arraylength = instructions.arraylength
plain_of plain.Athrow = instructions.athrow
plain_of plain.Monitorenter = instructions.monitorenter
plain_of plain.Monitorexit = instructions.monitorexit

abbrev pub access_of : LocalAccess → ℕ → instructions.Instruction ℕ
access_of (access.Load kind) = instructions.load (value_kind_of kind)
access_of (access.Store kind) = instructions.store (value_kind_of kind)

abbrev pub branch_of : Branch → formats.Branch
branch_of (branches.OnZero comparison) = formats.on_zero (comparison_of comparison)
branch_of (branches.OnInts comparison) = formats.on_ints (comparison_of comparison)
branch_of (branches.OnReferences equal) = formats.on_references equal
branch_of (branches.OnNull equal) = formats.on_null equal
branch_of branches.Always = formats.always

abbrev pub kind_of : EntryKind → entries.EntryKind
kind_of kinds.Loadable = entries.a_loadable
kind_of kinds.Long = entries.a_long
kind_of kinds.Field = entries.a_field
kind_of kinds.Method = entries.a_method
kind_of kinds.MethodOfAny = entries.a_method_of_any
kind_of kinds.MethodOfInterface = entries.a_method_of_interface
kind_of kinds.Class = entries.a_class

abbrev pub indexed_of : Indexed → ℕ → instructions.Instruction ℕ
indexed_of indexed.Ldc = instructions.ldc
indexed_of indexed.Ldc2W = instructions.ldc2_w
indexed_of indexed.Getstatic = instructions.getstatic
indexed_of indexed.Putstatic = instructions.putstatic
indexed_of indexed.Getfield = instructions.getfield
indexed_of indexed.Putfield = instructions.putfield
indexed_of indexed.Invokevirtual = instructions.invokevirtual
indexed_of indexed.Invokespecial = instructions.invokespecial
indexed_of indexed.Invokestatic = instructions.invokestatic
indexed_of indexed.New = instructions.new
indexed_of indexed.Anewarray = instructions.anewarray
indexed_of indexed.Checkcast = instructions.checkcast
indexed_of indexed.Instanceof = instructions.instanceof

abbrev pub format_of : Format → formats.Format
format_of (here.Alone its) = formats.alone (plain_of its)
format_of here.ByteConstant = formats.byte_constant
format_of here.ShortConstant = formats.short_constant
format_of here.LoadableIndex = formats.loadable_index
format_of here.WideLoadableIndex = formats.wide_loadable_index
format_of (here.Local its) = formats.local (access_of its)
format_of here.LocalAndConstant = formats.local_and_constant
format_of (here.Branch its) = formats.branch (branch_of its)
format_of (here.WideBranch its) = formats.wide_branch (branch_of its)
format_of here.TableSwitch = formats.table_switch
format_of here.LookupSwitch = formats.lookup_switch
format_of (here.PoolIndex kind its) = formats.pool_index (kind_of kind) (indexed_of its)
format_of here.InterfaceCall = formats.interface_call
format_of here.ElementType = formats.element_type
format_of here.WideForm = formats.wide_form
format_of here.LeftOut = formats.left_out
format_of here.LeftOutLocal = formats.left_out_local
