use Rattle.std.proofs.Common.{◌≡◌, ◌++◌, map, drop, reverse}
use Rattle.class_layouts.specs.ByNumber.{all_fields, all_cells}
use Rattle.class_layouts.proofs.layouts.layouts_of.Given as goal

-- those of the chains so far, and of those that are left
abbrev pub invariant-loop-chain : goal.invariant-loop-chain
invariant-loop-chain l = record {
  fields : map (λ row. row.items) l.fields.items ++ map (λ chain. all_fields l.rows.items (reverse chain.items)) (drop l.chain-index l.chains)
      ≡ map (λ chain. all_fields l.rows.items (reverse chain.items)) l.chains;
  cells : map (λ row. row.items) l.classes.items ++ map (λ chain. all_cells l.rows.items (reverse chain.items)) (drop l.chain-index l.chains)
      ≡ map (λ chain. all_cells l.rows.items (reverse chain.items)) l.chains;
}
