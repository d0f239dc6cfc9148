use Rattle.std.proofs.Common.{◌≡◌, ◌++◌, ℕ, map, drop}
use Rattle.selection_table.specs.Selection.{selected_in}
use Rattle.class_dispatch.specs.Tables.{key_of, chain_in}
use Rattle.class_dispatch.proofs.tables.tables_of.Given as goal

-- the tables so far, and those of the chains that are left
abbrev pub invariant-loop-chain : goal.invariant-loop-chain
invariant-loop-chain l =
    (signature : ℕ) → map (λ t. selected_in t (key_of signature)) l.tables.items
    ++ map (λ chain. chain_in l.signatures l.rows.items chain.items signature) (drop l.chain-index l.chains)
    ≡ map (λ chain. chain_in l.signatures l.rows.items chain.items signature) l.chains
