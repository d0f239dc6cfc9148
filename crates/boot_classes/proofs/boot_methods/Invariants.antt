use Rattle.std.proofs.Common.{◌≡◌, ◌++◌, map, drop}
use Rattle.jv_types.specs.Boot.{boot_method_of}
use Rattle.boot_classes.specs.Rows.{method_of}
use Rattle.boot_classes.proofs.boot_methods.Given as goal

-- what was made, and the rows that are left
abbrev pub invariant-loop-row : goal.invariant-loop-row
invariant-loop-row l =
    map boot_method_of l.methods.items ++ map method_of (drop l.row-index l.rows) ≡ map method_of l.rows
