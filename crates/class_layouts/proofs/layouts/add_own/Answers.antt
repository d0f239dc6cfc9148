use Rattle.class_layouts.specs.ByNumber.{own_fields, own_cells}
use Rattle.std.proofs.Common.{◌++◌}
use Rattle.class_layouts.proofs.Steps.{fields_more, cells_more}
use Rattle.class_layouts.proofs.layouts.add_own.Goals as goal

pub loop-index-preserved : goal.loop-index-preserved
loop-index-preserved c =
    let rows = c.args.rows.now.items in
    record {
      fields = fields_more c.args.class rows c.loop-index.index c.get.result.now
          c.loop-index.layout.fields.items c.add_field.new.layout.fields.items
          (c.args.layout.now.fields.items ++ own_fields c.args.class 0 rows)
          c.get.ensures c.in_ok-add_field.ensures.fields c.loop-index.invariant.fields;
      cells = cells_more rows c.loop-index.index c.get.result.now
          c.loop-index.layout.cells.items c.add_field.new.layout.cells.items
          (c.args.layout.now.cells.items ++ own_cells rows)
          c.get.ensures c.in_ok-add_field.ensures.cells c.loop-index.invariant.cells;
    }
