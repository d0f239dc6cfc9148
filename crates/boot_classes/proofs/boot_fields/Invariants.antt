use Rattle.std.proofs.Common.{◌≡◌, ◌++◌, map, drop}
use Rattle.jv_types.specs.Boot.{boot_field_of}
use Rattle.boot_classes.specs.Rows.{field_of}
use Rattle.boot_classes.proofs.boot_fields.Given as goal

-- what was made, and the rows that are left
abbrev pub invariant-loop-row : goal.invariant-loop-row
invariant-loop-row l =
    map boot_field_of l.fields.items ++ map field_of (drop l.row-index l.rows) ≡ map field_of l.rows
