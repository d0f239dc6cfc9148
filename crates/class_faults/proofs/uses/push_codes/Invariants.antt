use Rattle.std.proofs.Common.{◌++◌, drop, flat_map}
use Rattle.jv_types.specs.ClassData.{pool_of}
use Rattle.jv_types.specs.Loaded.{code_of}
use Rattle.class_faults.specs.Uses.{uses_in, method_uses, HaveOneLeast}
use Rattle.class_faults.proofs.uses.push_codes.Given as goal

-- the uses so far, and those of what is left
abbrev pub invariant-loop-code : goal.invariant-loop-code
invariant-loop-code l = HaveOneLeast
    (uses_in l.uses.items ++ flat_map (λ code. method_uses (pool_of l.pool) (code_of code)) (drop l.code-index l.codes))
    (uses_in l.fn.uses.items ++ flat_map (λ code. method_uses (pool_of l.pool) (code_of code)) l.codes)
