use Rattle.std.proofs.Common.{◌≡◌, ◌++◌, map, drop}
use Rattle.jv_types.specs.Boot.{boot_method_of}
use Rattle.class_dispatch.specs.Rows.{is_selectable}
use Rattle.class_dispatch.proofs.rows.boot_row.Given as goal

-- those so far, and those of the methods that are left
abbrev pub invariant-loop-method : goal.invariant-loop-method
invariant-loop-method l =
    l.row.items ++ map is_selectable (map boot_method_of (drop l.method-index l.methods))
    ≡ map is_selectable (map boot_method_of l.methods)
