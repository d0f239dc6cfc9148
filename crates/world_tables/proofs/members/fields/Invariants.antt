use Rattle.std.proofs.Common.{◌≡◌, map, take}
use Rattle.class_members.specs.Members.{kept_of}
use Rattle.world_tables.specs.Tables.{fields_kept}
use Rattle.world_tables.proofs.members.fields.Given as goal

-- those of the classes so far
abbrev pub invariant-loop-class : goal.invariant-loop-class
invariant-loop-class l = map (λ row. map kept_of row.items) l.rows.items ≡ take l.class (fields_kept l.world)
