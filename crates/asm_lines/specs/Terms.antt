-- What a line says, as the definitions see it: names in units of UTF-16, labels as their words.
use Rattle.std.specs.Prelude.{ℕ, ℤ, List, Option, Some, None, map, option_map}
use Rattle.std.specs.Borrow.{Bor}
use Rattle.jv_model.specs.Operand as operands
use Rattle.jv_model.specs.Utf16.{units_of_utf8}
use Rattle.assembler_model.specs.AssemblerTerms as model
use Rattle.jv_types.specs.Sequence.{Sequence}
use Rattle.asm_lines.specs.Words.{texts}
use Rattle.asm_lines.specs.declared.term.ConstantText.{ConstantText}
use Rattle.asm_lines.specs.declared.term.ConstantText.TheVariants as constants
use Rattle.asm_lines.specs.declared.term.ReferenceKind.{ReferenceKind}
use Rattle.asm_lines.specs.declared.term.ReferenceKind.TheVariants as kinds
use Rattle.asm_lines.specs.declared.term.MemberReference.{MemberReference}
use Rattle.asm_lines.specs.declared.term.Operation.{Operation}
use Rattle.asm_lines.specs.declared.term.Operation.TheVariants as operations
use Rattle.asm_lines.specs.declared.term.FrameType.{FrameType}
use Rattle.asm_lines.specs.declared.term.FrameType.TheVariants as types
use Rattle.asm_lines.specs.declared.term.AssemblerLine.{AssemblerLine}
use Rattle.asm_lines.specs.declared.term.AssemblerLine.TheVariants as lines

-- a name of the text, in units
abbrev pub name_of : Bor (List ℕ) → List ℕ
name_of name = units_of_utf8 name.now

abbrev pub constant_of : ConstantText → model.ConstantText
constant_of (constants.Int value) = model.of_int value
constant_of (constants.Long value) = model.of_long value
constant_of (constants.String text) = model.of_string (name_of text)

abbrev pub value_of : Option ConstantText → Option model.ConstantText
value_of value = option_map constant_of value

abbrev pub kind_of : ReferenceKind → model.ReferenceKind
kind_of kinds.Field = model.to_field
kind_of kinds.Method = model.to_method
kind_of kinds.InterfaceMethod = model.to_interface_method

abbrev pub reference_of : MemberReference → operands.MemberReference
reference_of reference = record {
  class = name_of reference.class;
  name = name_of reference.name;
  descriptor = name_of reference.descriptor;
}

-- a row of `lookupswitch`
abbrev pub row_of : ℤ × Bor (List ℕ) → ℤ × List ℕ
row_of row = (row.0, row.1.now)

abbrev pub rows_of : Sequence (ℤ × Bor (List ℕ)) → List (ℤ × List ℕ)
rows_of rows = map row_of rows.items

-- no key before the first
abbrev pub no_key : Option ℤ
no_key = None

abbrev pub operation_of : Operation → model.Operation
operation_of (operations.Plain opcode) = model.plain opcode
operation_of (operations.Local opcode local) = model.of_local opcode local
operation_of (operations.Byte opcode value) = model.of_byte opcode value
operation_of (operations.Short opcode value) = model.of_short opcode value
operation_of (operations.Branch opcode label) = model.branch opcode label.now
operation_of (operations.WideBranch opcode label) = model.wide_branch opcode label.now
operation_of (operations.Member opcode kind reference) =
    model.of_member opcode (kind_of kind) (reference_of reference)
operation_of (operations.Class opcode name) = model.of_class opcode (name_of name)
operation_of (operations.LoadConstant constant) = model.load_constant (constant_of constant)
operation_of (operations.LoadLong value) = model.load_long value
operation_of (operations.NewArray type) = model.newarray type
operation_of (operations.Increment local value) = model.increment local value
operation_of (operations.TableSwitch low labels default) =
    model.tableswitch low (texts labels.items) default.now
operation_of (operations.LookupSwitch rows default) =
    model.lookupswitch (rows_of rows) default.now

abbrev pub type_of : FrameType → model.FrameType
type_of types.Top = model.top_type
type_of types.Int = model.int_type
type_of types.Long = model.long_type
type_of types.Null = model.null_type
type_of types.This = model.this_type
type_of (types.New label) = model.new_type label.now
type_of (types.Object name) = model.object_type (name_of name)

abbrev pub types_of : Sequence FrameType → List model.FrameType
types_of types = map type_of types.items

abbrev pub line_of : AssemblerLine → model.AssemblerLine
line_of (lines.Flags flags) = model.flags_are flags
line_of (lines.Implements name) = model.implements (name_of name)
line_of (lines.Field flags name descriptor value) =
    model.field flags (name_of name) (name_of descriptor) (value_of value)
line_of (lines.Method flags name descriptor) =
    model.method flags (name_of name) (name_of descriptor)
line_of (lines.Stack stack locals) = model.stack_is stack locals
line_of lines.End = model.end_line
line_of (lines.At label) = model.at_label label.now
line_of (lines.Frame locals stack) =
    model.frame (types_of locals) (types_of stack)
line_of (lines.Catch from to target caught) =
    model.catch from.now to.now target.now (option_map name_of caught)
line_of (lines.Operation said) = model.operation (operation_of said)
line_of (lines.Attribute name bytes) = model.attribute (name_of name) bytes.items
