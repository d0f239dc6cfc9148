use Rattle.std.proofs.Common.{◌≡◌, ◌≤◌, ◌+◌, ◌*◌, drop, length, find}
use Rattle.world_model.specs.Supertypes.{field_order}
use Rattle.jv_types.specs.ClassData.{pool_of}
use Rattle.jv_types.specs.declared.code.Handler.{Handler}
use Rattle.class_world.specs.World.{name_at}
use Rattle.vm_throw.specs.Handlers.{named_row, takes}
use Rattle.vm_throw.proofs.rows.first_handler.Given as goal

-- no row so far takes it
abbrev pub invariant-loop-row : goal.invariant-loop-row
invariant-loop-row g l = record {
  searched :
      find (λ (row : Handler). takes l.world l.pc.0 (name_at l.world l.class) (named_row (pool_of l.pool) row)) (drop l.row-index l.rows)
      ≡ find (λ (row : Handler). takes l.world l.pc.0 (name_at l.world l.class) (named_row (pool_of l.pool) row)) l.rows;
  counted : l.steps ≤ l.fn.steps + l.row-index * length (field_order l.world (name_at l.world l.class));
}
