use Rattle.std.proofs.Common.{◌≡◌, ◌++◌, ◌≤◌, reverse, take, length}
use Rattle.class_layouts.specs.ByNumber.{all_fields, all_cells}
use Rattle.class_layouts.proofs.layouts.layout_of.Given as goal

-- what is there so far, and the fields of the classes that are left
abbrev pub invariant-loop-left : goal.invariant-loop-left
invariant-loop-left l = record {
  inside : l.left ≤ length l.chain;
  fields : l.layout.fields.items ++ all_fields l.rows.items (reverse (take l.left l.chain))
      ≡ all_fields l.rows.items (reverse l.chain);
  cells : l.layout.cells.items ++ all_cells l.rows.items (reverse (take l.left l.chain))
      ≡ all_cells l.rows.items (reverse l.chain);
}

abbrev pub decreases-loop-left : goal.decreases-loop-left
decreases-loop-left l = l.left
