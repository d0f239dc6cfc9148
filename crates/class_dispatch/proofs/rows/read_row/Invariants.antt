use Rattle.std.proofs.Common.{◌≡◌, ◌++◌, map, drop}
use Rattle.class_dispatch.specs.Rows.{flags_select}
use Rattle.class_dispatch.proofs.rows.read_row.Given as goal

-- those so far, and those of the methods that are left
abbrev pub invariant-loop-method : goal.invariant-loop-method
invariant-loop-method l =
    l.row.items ++ map (λ m. flags_select m.flags) (drop l.method-index l.methods) ≡ map (λ m. flags_select m.flags) l.methods
