use Rattle.std.proofs.Common.{◌≡◌, ◌++◌, length, map, drop}
use Rattle.std.specs.List.{flat_map}
use Rattle.static_fields.proofs.statics.fields_of.Given as goal

-- what there is so far, and of the classes that are left
abbrev pub invariant-loop-row : goal.invariant-loop-row
invariant-loop-row l = record {
  counts : l.numbers ++ map (λ row. length row.items) (drop l.row-index l.rows) ≡ map (λ row. length row.items) l.rows;
  values : l.values.items ++ flat_map (λ row. map (λ r. r.first) row.items) (drop l.row-index l.rows)
      ≡ flat_map (λ row. map (λ r. r.first) row.items) l.rows;
}
