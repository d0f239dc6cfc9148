use Rattle.std.proofs.Common.{◌≡◌, ℕ, ◌<◌, [], length, map, get_or}
use Rattle.world_model.specs.Supertypes.{field_order}
use Rattle.class_world.specs.World.{world_of_infos, name_at, numbers_of}
use Rattle.class_world.proofs.Numbers.{number}
use Rattle.class_world.proofs.orders.field_orders.Given as goal

-- the orders of the classes so far
abbrev pub invariant-loop-number : goal.invariant-loop-number
invariant-loop-number l = record {
  count : length (map (λ order. order.items) l.orders.items) ≡ l.number;
  each_order : (k : ℕ) → k < l.number → get_or (map (λ order. order.items) l.orders.items) k []
      ≡ numbers_of (world_of_infos l.classes) (field_order (world_of_infos l.classes) (name_at (world_of_infos l.classes) (number k)));
}
