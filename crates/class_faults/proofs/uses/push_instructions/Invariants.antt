use Rattle.std.proofs.Common.{◌≡◌, ◌++◌, drop, flat_map}
use Rattle.link_model.specs.Uses.{instruction_uses}
use Rattle.jv_types.specs.ClassData.{pool_of}
use Rattle.jv_types.specs.Instruction.{instruction_of}
use Rattle.class_faults.specs.Uses.{uses_in}
use Rattle.class_faults.proofs.uses.push_instructions.Given as goal

-- the uses so far, and those of what is left
abbrev pub invariant-loop-insn : goal.invariant-loop-insn
invariant-loop-insn l =
    uses_in l.uses.items ++ flat_map (λ insn. instruction_uses (pool_of l.pool) (instruction_of insn.instruction)) (drop l.insn-index l.instructions)
    ≡ uses_in l.fn.uses.items ++ flat_map (λ insn. instruction_uses (pool_of l.pool) (instruction_of insn.instruction)) l.instructions
