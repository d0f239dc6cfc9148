use Rattle.std.proofs.Common.{◌≡◌, ◌++◌, map, drop}
use Rattle.jv_types.specs.Boot.{numbered_class_of}
use Rattle.boot_classes.specs.Rows.{class_of}
use Rattle.boot_classes.proofs.boot_classes.Given as goal

-- what was made, and the rows that are left
abbrev pub invariant-loop-row : goal.invariant-loop-row
invariant-loop-row l =
    map numbered_class_of l.classes.items ++ map class_of (drop l.row-index l.rows) ≡ map class_of l.rows
