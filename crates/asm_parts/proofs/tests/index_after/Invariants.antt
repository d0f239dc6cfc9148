use Rattle.asm_parts.specs.Pools.{IsPool}
use Rattle.asm_parts.proofs.tests.index_after.Given as goal

abbrev pub invariant-loop-entry : goal.invariant-loop-entry
invariant-loop-entry l = IsPool l.pool
