use Rattle.std.proofs.Common.{sym, subst}
use Rattle.code_model.specs.Names.{operand_at}
use Rattle.code_model.specs.MappedInstruction.{mapped_instruction}
use Rattle.typing_model.specs.InstructionTypes.{type_step}
use Rattle.jv_types.specs.ClassData.{pool_of}
use Rattle.jv_types.specs.Instruction.{instruction_of}
use Rattle.jv_types.specs.declared.instruction.Instruction.{Instruction}
use Rattle.type_rules.specs.Frames.{frame_of}
use Rattle.instruction_types.specs.Outcome.{Gives}
use Rattle.instruction_step.proofs.step.type_step.Goals as goal

pub returns-in-Store-clause-typed : goal.returns-in-Store-clause-typed
unfolding type_step
returns-in-Store-clause-typed g c = λ e is has.
    let w = c.args.world.now in
    subst (λ (i : Instruction). Gives {X = Unit {0}} c.store.result
    (type_step e c.args.insn.now.pc (mapped_instruction (operand_at (pool_of c.args.code.now.pool.now)) (instruction_of i)) (frame_of w c.args.frame.now))
    (frame_of w c.store.new.frame)) (sym c.in-Store.is) (c.store.ensures.typed w)

pub returns-in-Increment-clause-typed : goal.returns-in-Increment-clause-typed
unfolding type_step
returns-in-Increment-clause-typed g c = λ e is has.
    let w = c.args.world.now in
    subst (λ (i : Instruction). Gives {X = Unit {0}} c.increment.result
    (type_step e c.args.insn.now.pc (mapped_instruction (operand_at (pool_of c.args.code.now.pool.now)) (instruction_of i)) (frame_of w c.args.frame.now))
    (frame_of w c.args.frame.now)) (sym c.in-Increment.is) (c.increment.ensures w)
