use Rattle.std.proofs.Common.{◌≡◌, ℕ, drop}
use Rattle.std.specs.Option.{option_or}
use Rattle.selection_table.specs.Selection.{selected_in}
use Rattle.class_dispatch.specs.Tables.{key_of, own_in}
use Rattle.class_dispatch.proofs.tables.add_own.Given as goal

-- the table has the methods so far
abbrev pub invariant-loop-index : goal.invariant-loop-index
invariant-loop-index l =
    (signature : ℕ) → option_or (selected_in l.table (key_of signature)) (own_in l.signatures l.class l.index (drop l.index l.row.items) signature)
    ≡ option_or (selected_in l.fn.table (key_of signature)) (own_in l.signatures l.class 0 l.row.items signature)
