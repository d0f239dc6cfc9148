-- How what is read belongs to what is spelled.
use Rattle.std.specs.Prelude.{◌≡◌, ◌↔◌, ℕ, ◌≤◌, List, Option, Some, None, Ok, Err, IsTrue, length}
use Rattle.std.specs.List.{AllByRecursion, AllZip}
use Rattle.jv_model.specs.Refusal.{Cause}
use Rattle.jv_model.specs.ClassData.{gap, Attr, Member, ClassData}
use Rattle.jv_model.specs.Profile.{IsU1}
use Rattle.jv_model.specs.Descriptors.{FieldType, class_type, array_of, MethodType}
use Rattle.jv_model.specs.Instruction.{Instruction}
use Rattle.jv_model.specs.Code.{Body}
use Rattle.code_model.specs.MappedInstruction.{mapped_instruction}
use Rattle.code_model.specs.Names.{operand_at}
use Rattle.code_model.specs.Opcodes.{format_of}
use Rattle.code_model.specs.SpellsOperands.{SpellsOperands}
use Rattle.code_model.specs.TypeReading.{is_class_name, dimensions, most_dimensions, field_type_of, parameter_words, most_parameter_words, method_type_of, descriptor_of, method_descriptor_of}
use Rattle.code_model.specs.CodeReading.{body_at, load_of}
use Rattle.code_model.specs.SpellsCode.{SpellsCode, HasCode}
use Rattle.jv_model.specs.ConstantPool.{const_at}

-- ---- descriptors (JVMS 4.3)

-- the class that a type is made of has a name of JVMS 4.2.1
abbrev pub HasClassName : FieldType → Type 0
HasClassName (class_type name) = IsTrue (is_class_name name)
HasClassName (array_of component) = HasClassName component
HasClassName other = Unit {0}

abbrev pub IsFieldType : FieldType → Type 0
IsFieldType type = HasClassName type × (dimensions type ≤ most_dimensions)

abbrev pub IsResult : Option FieldType → Type 0
IsResult None = Unit {0}
IsResult (Some type) = IsFieldType type

abbrev pub IsMethodType : MethodType → Type 0
IsMethodType type =
    AllByRecursion IsFieldType type.parameters × IsResult type.result
    × (parameter_words type ≤ most_parameter_words)

-- a type has one descriptor
abbrev pub OneFieldDescriptor : Type 0
OneFieldDescriptor =
    (units : List ℕ) (type : FieldType) →
    (field_type_of units ≡ Some type) ↔ ((units ≡ descriptor_of type) × IsFieldType type)

abbrev pub OneMethodDescriptor : Type 0
OneMethodDescriptor =
    (units : List ℕ) (type : MethodType) →
    (method_type_of units ≡ Some type) ↔ ((units ≡ method_descriptor_of type) × IsMethodType type)

-- ---- code (JVMS 4.7.3)

-- The code whose bytes are those of a Code attribute is what is read of it. The pool begins with a
-- gap, as each does.
abbrev pub CodeIsRead : Type 0
CodeIsRead =
    (file : ClassData) (index : ℕ) (method : Member) (bytes : List ℕ) (body : Body ℕ) →
    (const_at file.pool 0 ≡ gap) → AllByRecursion IsU1 bytes →
    (body_at file index method bytes ≡ Ok body) ↔ SpellsCode file method bytes body

-- its attributes are bytes
abbrev pub AreBytes : Member → Type 0
AreBytes method = AllByRecursion (λ (a : Attr). AllByRecursion IsU1 a.bytes) method.attributes

-- the code of a class's methods is what is loaded
abbrev pub CodesAreLoaded : Type 0
CodesAreLoaded =
    (file : ClassData) (codes : List (Option (Body ℕ))) →
    (const_at file.pool 0 ≡ gap) → AllByRecursion AreBytes file.methods →
    (load_of file ≡ Ok codes) ↔ AllZip (HasCode file) file.methods codes

-- A method's bytes spell one body at the most.
abbrev pub OneBody : Type 0
OneBody =
    (file : ClassData) (method : Member) (bytes : List ℕ) (one other : Body ℕ) →
    (const_at file.pool 0 ≡ gap) → AllByRecursion IsU1 bytes →
    SpellsCode file method bytes one → SpellsCode file method bytes other → one ≡ other

-- What is refused is spelled by no body.
abbrev pub RefusedIsUnspelled : Type 0
RefusedIsUnspelled =
    (file : ClassData) (index : ℕ) (method : Member) (bytes : List ℕ) (cause : Cause)
    (body : Body ℕ) → (const_at file.pool 0 ≡ gap) → AllByRecursion IsU1 bytes →
    (body_at file index method bytes ≡ Err cause) → SpellsCode file method bytes body → ⊥

-- ---- opcodes (JVMS 6.5)

-- Instructions that are equal, names standing for indices, and equally long have the same opcode.
abbrev pub OneOpcode : Type 0
OneOpcode =
    (file other_file : ClassData) (pc other_pc opcode other_opcode : ℕ)
    (operands other_operands : List ℕ) (instruction other : Instruction ℕ) →
    SpellsOperands file pc (format_of opcode) operands instruction →
    SpellsOperands other_file other_pc (format_of other_opcode) other_operands other →
    (mapped_instruction (operand_at file.pool) instruction
    ≡ mapped_instruction (operand_at other_file.pool) other) →
    (length operands ≡ length other_operands) → opcode ≡ other_opcode
