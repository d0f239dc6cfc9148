use Rattle.std.proofs.Common.{◌-◌, length}
use Rattle.std.specs.Prelude.{IfSome}
use Rattle.use_faults.specs.Wrong.{IsKnown}
use Rattle.use_faults.proofs.Finals.{HaveFinals}
use Rattle.use_faults.proofs.overrides.declaring_upwards.Given as goal

-- those so far, and the classes that are left, declare what all do
abbrev pub invariant-loop : goal.invariant-loop
invariant-loop l = record {
  known : IfSome l.next (IsKnown l.world);
  so_far : HaveFinals l.world l.finals l.classes.items l.fn.superclass (length l.world.classes - l.counter) l.next;
}
