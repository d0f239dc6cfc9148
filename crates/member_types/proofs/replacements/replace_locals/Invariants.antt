use Rattle.std.proofs.Common.{◌≡◌, ◌++◌, map, take, drop}
use Rattle.member_types.specs.Replacements.{replaced}
use Rattle.member_types.proofs.replacements.replace_locals.Given as goal

-- those so far are replaced
abbrev pub invariant-loop-number : goal.invariant-loop-number
invariant-loop-number l = l.frame ≡ record {
  locals = map (replaced l.old l.fresh) (take l.number l.fn.frame.locals) ++ drop l.number l.fn.frame.locals;
  stack = l.fn.frame.stack;
}
