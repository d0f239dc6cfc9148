use Rattle.std.proofs.Common.{◌≡◌, ◌+◌, drop}
use Rattle.class_world.specs.MemberTable.{first_with}
use Rattle.class_world.proofs.member_table.first_declaring.Given as goal

-- no class so far declares it, and each was a step
abbrev pub invariant-loop-class : goal.invariant-loop-class
invariant-loop-class g l = record {
  searched : first_with l.declared l.signature (drop l.class-index l.order) ≡ first_with l.declared l.signature l.order;
  counted : l.steps ≡ l.fn.steps + l.class-index;
}
