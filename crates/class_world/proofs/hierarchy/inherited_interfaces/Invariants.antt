use Rattle.std.proofs.Common.{◌≡◌, ℕ, ◌<◌, [], length, map, get_or}
use Rattle.class_world.specs.Hierarchy.{inherited_by}
use Rattle.class_world.proofs.hierarchy.inherited_interfaces.Given as goal

-- a row for each class so far
abbrev pub invariant-loop-number : goal.invariant-loop-number
invariant-loop-number l = record {
  count : length (map (λ row. row.items) l.rows.items) ≡ l.number;
  each_row : (k : ℕ) → k < l.number → get_or (map (λ row. row.items) l.rows.items) k [] ≡ inherited_by l.classes k;
}
