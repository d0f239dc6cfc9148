-- Each instruction of a linked class names what is there (JVMS 6.5).
use Rattle.std.proofs.Common.{ℕ}
use Rattle.std.specs.Prelude.{IsTrue}
use Rattle.std.specs.List.{AllByRecursion}
use Rattle.jv_model.specs.ClassData.{ClassData}
use Rattle.jv_model.specs.Instruction.{Instruction, getstatic, putstatic, getfield, putfield, invokevirtual, invokespecial, invokestatic, invokeinterface, new, anewarray, checkcast}
use Rattle.world_model.specs.World.{World}
use Rattle.code_model.specs.Names.{operand_at}
use Rattle.code_model.specs.MappedInstruction.{mapped_instruction}
use Rattle.link_model.specs.Uses.{Used, instruction_uses}
use Rattle.link_model.specs.UseFaults.{resolves}
use Rattle.linked_laws.specs.Code.{InstructionIsLinked}
use Rattle.linked_laws.specs.Worlds.{IsLinkedWorld}
use Rattle.linked_laws.proofs.Members.{field_entry, method_entry, new_entry, type_entry}

module _ (world : World) (linked : IsLinkedWorld world) (file : ClassData) where
  pub instruction_linked : (i : Instruction ℕ) → AllByRecursion (λ (u : Used). IsTrue (resolves world file u.index u.use_as)) (instruction_uses file.pool i)
      → InstructionIsLinked world (mapped_instruction (operand_at file.pool) i)
  unfolding instruction_uses
  instruction_linked (getstatic index) uses = field_entry world linked file index _ uses.0
  instruction_linked (putstatic index) uses = field_entry world linked file index _ uses.0
  instruction_linked (getfield index) uses = field_entry world linked file index _ uses.0
  instruction_linked (putfield index) uses = field_entry world linked file index _ uses.0
  instruction_linked (invokevirtual index) uses = method_entry world linked file index _ uses.0
  instruction_linked (invokespecial index) uses = method_entry world linked file index _ uses.0
  instruction_linked (invokestatic index) uses = method_entry world linked file index _ uses.0
  instruction_linked (invokeinterface index) uses = method_entry world linked file index _ uses.0
  instruction_linked (new index) uses = new_entry world linked file index uses.0
  instruction_linked (anewarray index) uses = type_entry world linked file index uses.0
  instruction_linked (checkcast index) uses = type_entry world linked file index uses.0
  instruction_linked other uses = tt
