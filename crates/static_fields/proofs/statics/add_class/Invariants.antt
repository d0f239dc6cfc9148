use Rattle.std.proofs.Common.{◌≡◌, ◌++◌, map, drop}
use Rattle.static_fields.proofs.statics.add_class.Given as goal

-- the values so far, and those of the rows that are left
abbrev pub invariant-loop-row : goal.invariant-loop-row
invariant-loop-row l =
    l.values.items ++ map (λ row. row.first) (drop l.row-index l.row-items)
    ≡ l.fn.values.items ++ map (λ row. row.first) l.row-items
