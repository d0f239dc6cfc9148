-- What lines say fits a class file: the numbers and texts of it, and the kind of a field's constant.
use Rattle.std.proofs.Common.{◌≡◌, ℕ, List, true}
use Rattle.std.specs.Prelude.{◌==◌, FitsSigned, IfSome}
use Rattle.std.specs.Int.{w32, w64}
use Rattle.std.specs.List.{AllByRecursion, list_any}
use Rattle.jv_model.specs.ConstantPool.{integer_tag, long_tag, string_tag}
use Rattle.jv_model.specs.Operand.{MemberReference}
use Rattle.jv_model.specs.Profile.{IsU1, IsU2, value_tags}
use Rattle.assembler_model.specs.AssemblerTerms.{AssemblerLine, ConstantText, FrameType, Operation, at_label, attribute, branch, catch, end_line, field, flags_are, frame, implements, increment, load_constant, load_long, lookupswitch, method, newarray, object_type, of_byte, of_class, of_int, of_local, of_long, of_member, of_short, of_string, operation, plain, stack_is, tableswitch, wide_branch}
use Rattle.assembler_laws.proofs.TextLemmas.{AreBytes, AreUnits}

abbrev pub FitsConstant : ConstantText → Type 0
FitsConstant (of_int value) = FitsSigned w32 value
FitsConstant (of_long value) = FitsSigned w64 value
FitsConstant (of_string text) = AreUnits text

abbrev pub FitsReference : MemberReference → Type 0
FitsReference reference = AreUnits reference.class × AreUnits reference.name × AreUnits reference.descriptor

abbrev pub FitsOperation : Operation → Type 0
FitsOperation (plain opcode) = IsU1 opcode
FitsOperation (of_local opcode local) = IsU1 opcode
FitsOperation (of_byte opcode constant) = IsU1 opcode
FitsOperation (of_short opcode constant) = IsU1 opcode
FitsOperation (branch opcode label) = IsU1 opcode
FitsOperation (wide_branch opcode label) = IsU1 opcode
FitsOperation (of_member opcode kind reference) = IsU1 opcode × FitsReference reference
FitsOperation (of_class opcode name) = IsU1 opcode × AreUnits name
FitsOperation (load_constant constant) = FitsConstant constant
FitsOperation (load_long value) = FitsSigned w64 value
FitsOperation (newarray type) = IsU1 type
FitsOperation (increment local constant) = Unit {0}
FitsOperation (tableswitch low labels default) = Unit {0}
FitsOperation (lookupswitch rows default) = Unit {0}

-- the tag of a constant's entry
abbrev pub constant_tag : ConstantText → ℕ
constant_tag (of_int value) = integer_tag
constant_tag (of_long value) = long_tag
constant_tag (of_string text) = string_tag

-- a constant fits, and a field with this descriptor may have it
abbrev pub FitsValue : List ℕ → ConstantText → Type 0
FitsValue descriptor constant =
    FitsConstant constant × (list_any (λ tag. constant_tag constant == tag) (value_tags descriptor) ≡ true)

abbrev pub FitsType : FrameType → Type 0
FitsType (object_type name) = AreUnits name
FitsType other = Unit {0}

abbrev pub FitsLine : AssemblerLine → Type 0
FitsLine (flags_are flags) = IsU2 flags
FitsLine (implements name) = AreUnits name
FitsLine (field flags name descriptor value) =
    IsU2 flags × AreUnits name × AreUnits descriptor × IfSome value (FitsValue descriptor)
FitsLine (method flags name descriptor) = IsU2 flags × AreUnits name × AreUnits descriptor
FitsLine (stack_is stack locals) = Unit {0}
FitsLine end_line = Unit {0}
FitsLine (at_label label) = Unit {0}
FitsLine (frame locals stack) = AllByRecursion FitsType locals × AllByRecursion FitsType stack
FitsLine (catch from to target type) = IfSome type AreUnits
FitsLine (operation said) = FitsOperation said
FitsLine (attribute name bytes) = AreUnits name × AreBytes bytes
