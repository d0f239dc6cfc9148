use Rattle.jv_types.specs.ClassData.{pool_of}
use Rattle.use_faults.proofs.Marks.{MarksSoFar}
use Rattle.use_faults.proofs.overrides.marks_of.Given as goal

-- the marks are those of the methods so far
abbrev pub invariant-loop-method : goal.invariant-loop-method
invariant-loop-method l =
    MarksSoFar l.fn.finals.signatures.keys (pool_of l.fn.pool) l.methods l.method-index l.marks.items
