use Rattle.std.proofs.Common.{◌≡◌, ◌-◌, ◌<◌, ◌++◌, Some, length}
use Rattle.jv_types.specs.declared.number.ClassNo.{ClassNo}
use Rattle.class_world.specs.Hierarchy.{chain_from}
use Rattle.class_world.proofs.hierarchy.chain_of.Given as goal

-- the numbers so far, and what is above the last of them
abbrev pub invariant-loop : goal.invariant-loop
invariant-loop l = record {
  inside : (k : ClassNo) → l.next ≡ Some k → k.0 < length l.classes;
  goes_on : l.numbers.items ++ chain_from (length l.classes - l.counter) l.classes l.next
      ≡ chain_from (length l.classes) l.classes (Some l.fn.class);
}
