use Rattle.std.proofs.Common.{◌≡◌, ◌++◌, map, drop}
use Rattle.jv_types.proofs.duplicate.copy_list.Given as goal

-- the copies, and the items that are left
abbrev pub invariant-loop-item : goal.invariant-loop-item
invariant-loop-item g l =
    let meaning = g.T.Duplicate.meaning in
    map meaning l.copies.items ++ map meaning (drop l.item-index l.items.items)
    ≡ map meaning l.items.items
