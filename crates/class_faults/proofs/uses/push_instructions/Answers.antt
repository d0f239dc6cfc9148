use Rattle.std.proofs.Common.{arith}
use Rattle.link_model.specs.Uses.{instruction_uses}
use Rattle.jv_types.specs.ClassData.{pool_of}
use Rattle.jv_types.specs.Instruction.{instruction_of}
use Rattle.class_faults.proofs.Appending.{flat_more, flat_end}
use Rattle.class_faults.proofs.uses.push_instructions.Goals as goal

pub loop-insn-preserved : goal.loop-insn-preserved
loop-insn-preserved c =
    flat_more (λ insn. instruction_uses (pool_of c.args.pool.now) (instruction_of insn.instruction)) c.args.instructions.now c.loop-insn.insn-index c.insn-item.result _ _ _ (omega arith) c.insn-item.is c.in_ok-push_instruction.ensures c.loop-insn.invariant

pub returns : goal.returns
returns c = flat_end (λ insn. instruction_uses (pool_of c.args.pool.now) (instruction_of insn.instruction)) c.args.instructions.now c.loop-insn.insn-index _ _ (omega arith) c.loop-insn.invariant
