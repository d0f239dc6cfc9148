use Rattle.use_faults.proofs.FinalNumbers.{SoFar}
use Rattle.use_faults.proofs.final_methods.numbers_of.Given as goal

-- the numbers are those of the methods so far
abbrev pub invariant-loop-method : goal.invariant-loop-method
invariant-loop-method l = SoFar l.fn.loaded l.fn.signatures.keys l.method-index l.signatures.keys l.numbers.items
