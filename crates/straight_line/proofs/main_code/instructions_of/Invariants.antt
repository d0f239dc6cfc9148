use Rattle.std.proofs.Common.{◌≡◌, ◌++◌, Some, drop, map}
use Rattle.jv_model.specs.Partial.{◌>>=◌}
use Rattle.code_model.specs.Names.{named_placed}
use Rattle.run_model.specs.MainCode.{instructions_of}
use Rattle.jv_types.specs.ClassData.{pool_of}
use Rattle.jv_types.specs.Instructions.{placed_of}
use Rattle.straight_line.specs.Body.{instruction_of}
use Rattle.straight_line.proofs.main_code.instructions_of.Given as goal

-- those so far, and then the others
abbrev pub invariant-loop-insn : goal.invariant-loop-insn
invariant-loop-insn l =
    (instructions_of (map (named_placed (pool_of l.pool.items))
    (map placed_of (drop l.insn-index l.insns)))
    >>= λ others. Some (map instruction_of l.instructions.items ++ others))
    ≡ instructions_of (map (named_placed (pool_of l.pool.items)) (map placed_of l.insns))
