use Rattle.std.proofs.Common.{◌≡◌, ◌++◌, drop}
use Rattle.class_layouts.specs.ByNumber.{own_fields, own_cells}
use Rattle.class_layouts.proofs.layouts.add_own.Given as goal

-- what is there so far, and the fields of the rows that are left
abbrev pub invariant-loop-index : goal.invariant-loop-index
invariant-loop-index l = record {
  fields : l.layout.fields.items ++ own_fields l.class l.index (drop l.index l.rows.items)
      ≡ l.fn.layout.fields.items ++ own_fields l.class 0 l.rows.items;
  cells : l.layout.cells.items ++ own_cells (drop l.index l.rows.items)
      ≡ l.fn.layout.cells.items ++ own_cells l.rows.items;
}
