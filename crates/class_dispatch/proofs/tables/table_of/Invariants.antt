use Rattle.std.proofs.Common.{◌≡◌, ℕ, drop}
use Rattle.std.specs.Option.{option_or}
use Rattle.selection_table.specs.Selection.{selected_in}
use Rattle.class_dispatch.specs.Tables.{key_of, chain_in}
use Rattle.class_dispatch.proofs.tables.table_of.Given as goal

-- the table has the methods of the classes so far
abbrev pub invariant-loop-index : goal.invariant-loop-index
invariant-loop-index l =
    (signature : ℕ) → option_or (selected_in l.table (key_of signature)) (chain_in l.signatures l.rows.items (drop l.index l.chain) signature)
    ≡ chain_in l.signatures l.rows.items l.chain signature
