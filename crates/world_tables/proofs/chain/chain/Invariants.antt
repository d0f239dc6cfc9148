use Rattle.std.proofs.Common.{◌≡◌, ◌++◌, ◌-◌, Some, length}
use Rattle.world_tables.proofs.Upwards.{upwards, IsInside}
use Rattle.world_tables.proofs.chain.chain.Given as goal

-- the numbers so far, and those from the next one upwards
abbrev pub invariant-loop : goal.invariant-loop
invariant-loop l = record {
  walked : l.order.items ++ upwards l.world (length l.world.classes - l.counter) l.next
      ≡ upwards l.world (length l.world.classes) (Some l.fn.class);
  inside : IsInside l.world l.next;
}
