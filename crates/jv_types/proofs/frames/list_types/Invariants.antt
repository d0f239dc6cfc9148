use Rattle.std.proofs.Common.{◌≡◌, ◌++◌, ◌≤◌, length, reverse}
use Rattle.jv_types.specs.MapFrame.{map_types_of}
use Rattle.jv_types.specs.Frames.{types_in, rows_up_to}
use Rattle.jv_types.proofs.frames.list_types.Given as goal

-- the types that are left, below those so far
abbrev pub invariant-loop-left : goal.invariant-loop-left
invariant-loop-left l = record {
  left : types_in l.rows.items l.left ++ map_types_of (reverse l.types.items) ≡ types_in l.rows.items l.fn.top;
  inside : rows_up_to l.left ≤ length l.rows.items;
}

abbrev pub decreases-loop-left : goal.decreases-loop-left
decreases-loop-left l = rows_up_to l.left
