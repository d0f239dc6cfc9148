use Rattle.std.proofs.Common.{◌≡◌, ◌++◌, ◌-◌, drop, length}
use Rattle.instruction_types.proofs.operands.push_all.Given as goal

-- so many of the last are there
abbrev pub invariant-loop-number : goal.invariant-loop-number
invariant-loop-number l = l.frame ≡ record {
  locals = l.fn.frame.locals;
  stack = drop (length l.types - l.number) l.types ++ l.fn.frame.stack;
}
