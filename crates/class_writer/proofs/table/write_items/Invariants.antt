use Rattle.std.proofs.Common.{◌≡◌, ◌++◌, map, drop}
use Rattle.std.specs.List.{flat_map}
use Rattle.jv_model.specs.Partial.{first_of}
use Rattle.class_writer.proofs.table.write_items.Given as goal

-- what is written and the items that are left, which decide the limit
abbrev pub invariant-loop-item : goal.invariant-loop-item
invariant-loop-item g l =
    let item = g.T.Item in
    record {
      so_far : l.out ++ flat_map item.spelling (map item.meaning (drop l.item-index l.items))
          ≡ l.fn.out ++ flat_map item.spelling (map item.meaning l.items);
      limit : first_of item.limit (map item.meaning (drop l.item-index l.items))
          ≡ first_of item.limit (map item.meaning l.items);
    }
