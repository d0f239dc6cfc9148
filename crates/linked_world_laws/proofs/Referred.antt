-- What the instructions of a linked world's code refer to is there, as their kinds want it (JVMS 5.4.3).
use Rattle.std.proofs.Common.{◌≡◌, ℕ, Bool, true, false, List, ◌++◌, Some}
use Rattle.std.specs.Prelude.{IsTrue, slice_get, flat_map, ⊤}
use Rattle.std.specs.List.{AllByRecursion}
use Rattle.jv_model.specs.ClassData.{Const, ClassData, integer, long, string, fieldref, methodref, interface_methodref}
use Rattle.jv_model.specs.ConstantPool.{const_at, names, interface_methodref_tag}
use Rattle.jv_model.specs.Operand.{Operand, MemberReference, class_named, member_named}
use Rattle.jv_model.specs.Instruction.{Instruction, getstatic, putstatic, getfield, putfield, invokevirtual, invokespecial, invokestatic, invokeinterface, new}
use Rattle.jv_model.specs.Code.{Placed, Body}
use Rattle.jv_model.specs.LoadedClass.{LoadedClass}
use Rattle.world_model.specs.World.{World, Class, Method, class_in, declared_method}
use Rattle.code_model.specs.MappedInstruction.{mapped_instruction}
use Rattle.code_model.specs.Names.{operand_at, operand_by, member_by, name_of_class, named, named_placed}
use Rattle.link_model.specs.Uses.{Used, instruction_uses, handler_uses, frame_uses, as_field, as_method, as_new}
use Rattle.link_model.specs.UseFaults.{names_type, can_be_new, resolves}
use Rattle.link_laws.proofs.Lists.{all_left, all_weaker}
use Rattle.link_laws.proofs.UsedMembers.{FieldThere, MethodThere, field_entry_there, method_entry_there, all_of_flat}
use Rattle.linked_laws.specs.Worlds.{IsLinkedWorld}
use Rattle.linked_laws.proofs.Classes.{IsOfProgram}
use Rattle.linked_laws.proofs.Lists.{all_to_map, found_holds}
use Rattle.linked_laws.proofs.Methods.{code_resolves, method_declared}
use Rattle.machine_model.specs.LocalStep.{instruction_at}

-- a method of a class or of an interface
abbrev pub AMethodThere : World → Bool → MemberReference → Type 0
AMethodThere world is_static m = (of_interface : Bool) × MethodThere world of_interface is_static m

abbrev pub FieldOperand : World → Bool → Operand → Type 0
FieldOperand world is_static (member_named m) = FieldThere world is_static m
FieldOperand world is_static other = ⊤

abbrev pub MethodOperand : World → Bool → Operand → Type 0
MethodOperand world is_static (member_named m) = AMethodThere world is_static m
MethodOperand world is_static other = ⊤

abbrev pub NewOperand : World → Operand → Type 0
NewOperand world (class_named name) = names_type world can_be_new name ≡ true
NewOperand world other = ⊤

abbrev pub RefersRightly : World → Instruction Operand → Type 0
RefersRightly world (getstatic operand) = FieldOperand world true operand
RefersRightly world (putstatic operand) = FieldOperand world true operand
RefersRightly world (getfield operand) = FieldOperand world false operand
RefersRightly world (putfield operand) = FieldOperand world false operand
RefersRightly world (invokevirtual operand) = MethodOperand world false operand
RefersRightly world (invokespecial operand) = MethodOperand world false operand
RefersRightly world (invokestatic operand) = MethodOperand world true operand
RefersRightly world (invokeinterface operand) = MethodOperand world false operand
RefersRightly world (new operand) = NewOperand world operand
RefersRightly world other = ⊤

-- ---- entries

field_operand : (world : World) (is_static : Bool) (pool : List Const) (entry : Const) → FieldThere world is_static (member_by pool entry)
    → FieldOperand world is_static (operand_by pool entry)
field_operand world is_static pool (fieldref owner pair) there = there
field_operand world is_static pool (methodref owner pair) there = there
field_operand world is_static pool (interface_methodref owner pair) there = there
field_operand world is_static pool other there = tt

method_operand : (world : World) (is_static : Bool) (pool : List Const) (entry : Const) → AMethodThere world is_static (member_by pool entry)
    → MethodOperand world is_static (operand_by pool entry)
method_operand world is_static pool (fieldref owner pair) there = there
method_operand world is_static pool (methodref owner pair) there = there
method_operand world is_static pool (interface_methodref owner pair) there = there
method_operand world is_static pool other there = tt

new_operand : (world : World) (pool : List Const) (entry : Const) → names_type world can_be_new (name_of_class pool entry) ≡ true
    → NewOperand world (operand_by pool entry)
new_operand world pool (integer value) there = tt
new_operand world pool (long value) there = tt
new_operand world pool (string text) there = tt
new_operand world pool (fieldref owner pair) there = tt
new_operand world pool (methodref owner pair) there = tt
new_operand world pool (interface_methodref owner pair) there = tt
new_operand world pool other there = there

module _ (world : World) (file : ClassData) (index : ℕ) where
  field_entry : (is_static : Bool) → IsTrue (resolves world file index (as_field is_static)) → FieldOperand world is_static (operand_at file.pool index)
  unfolding operand_at
  field_entry is_static h = field_operand world is_static file.pool (const_at file.pool index) (field_entry_there world file index is_static h)

  method_entry : (is_static : Bool) → IsTrue (resolves world file index (as_method is_static)) → MethodOperand world is_static (operand_at file.pool index)
  unfolding operand_at
  method_entry is_static h =
      method_operand world is_static file.pool (const_at file.pool index)
      (names file.pool interface_methodref_tag index, method_entry_there world file index is_static h)

  new_entry : IsTrue (resolves world file index as_new) → NewOperand world (operand_at file.pool index)
  unfolding operand_at resolves
  new_entry h = new_operand world file.pool (const_at file.pool index) h

refers : (world : World) (file : ClassData) (i : Instruction ℕ) → AllByRecursion (λ (u : Used). IsTrue (resolves world file u.index u.use_as)) (instruction_uses file.pool i)
    → RefersRightly world (mapped_instruction (operand_at file.pool) i)
unfolding instruction_uses
refers world file (getstatic index) uses = field_entry world file index true uses.0
refers world file (putstatic index) uses = field_entry world file index true uses.0
refers world file (getfield index) uses = field_entry world file index false uses.0
refers world file (putfield index) uses = field_entry world file index false uses.0
refers world file (invokevirtual index) uses = method_entry world file index false uses.0
refers world file (invokespecial index) uses = method_entry world file index false uses.0
refers world file (invokestatic index) uses = method_entry world file index true uses.0
refers world file (invokeinterface index) uses = method_entry world file index false uses.0
refers world file (new index) uses = new_entry world file index uses.0
refers world file other uses = tt

-- ---- code

abbrev AllRefer : World → Body Operand → Type 0
AllRefer world body = AllByRecursion (λ (p : Placed Operand). RefersRightly world p.instruction) body.instructions

program_refers : (world : World) (l : LoadedClass) → IsOfProgram world l → (descriptor : List ℕ) (k : ℕ) (raw : Body ℕ) → slice_get l.codes k ≡ Some (Some raw)
    → AllRefer world (named l.file.pool descriptor raw)
unfolding named
program_refers world l is descriptor k raw at =
    let pool = l.file.pool in
    let P = λ (u : Used). IsTrue (resolves world l.file u.index u.use_as) in
    let uses = code_resolves world l k raw is.uses at in
    let instructions = flat_map (λ (p : Placed ℕ). instruction_uses pool p.instruction) raw.instructions in
    let handlers = flat_map handler_uses raw.handlers in
    let frames = flat_map frame_uses raw.frames in
    all_to_map (λ (p : Placed Operand). RefersRightly world p.instruction) (named_placed pool) raw.instructions
    (all_weaker _ _ raw.instructions (λ (p : Placed ℕ) u. refers world l.file p.instruction u)
    (all_of_flat P (λ (p : Placed ℕ). instruction_uses pool p.instruction) raw.instructions
    (all_left P instructions handlers (all_left P (instructions ++ handlers) frames uses))))

-- Each instruction of a method refers to what is there.
pub code_refers : (world : World) → IsLinkedWorld world → (name : List ℕ) (class : Class) (m descriptor : List ℕ) (method : Method) (body : Body Operand)
    → class_in world name ≡ Some class → declared_method m descriptor class ≡ Some method → method.code ≡ Some body
    → (pc : ℕ) (placed : Placed Operand) → instruction_at body pc ≡ Some placed → RefersRightly world placed.instruction
code_refers world linked name class m descriptor method body there declared code pc placed at =
    (found_holds (λ (p : Placed Operand). RefersRightly world p.instruction) _ body.instructions placed
    (method_declared world linked (λ class method body. AllRefer world body) (λ l is k method at raw read. program_refers world l is method.descriptor k raw read)
    name class m descriptor method body there declared code) at).1
