use Rattle.std.proofs.Common.{◌≡◌, drop}
use Rattle.machine_model.specs.Branches.{row_target}
use Rattle.jv_types.specs.Instruction.{pairs_of}
use Rattle.local_steps.proofs.branch.pair_target.Given as goal

-- the pairs so far don't have the key
abbrev pub invariant-loop-pair : goal.invariant-loop-pair
invariant-loop-pair l =
    row_target l.otherwise (pairs_of l.pairs) l.key
    ≡ row_target l.otherwise (pairs_of (drop l.pair-index l.pairs)) l.key
