use Rattle.std.proofs.Common.{◌≡◌, map, take}
use Rattle.class_dispatch.specs.Rows.{selectable_in}
use Rattle.class_dispatch.proofs.rows.rows.Given as goal

-- those of the classes so far
abbrev pub invariant-loop-class : goal.invariant-loop-class
invariant-loop-class l = map (λ row. row.items) l.rows.items ≡ take l.class (selectable_in l.world)
