use Rattle.std.proofs.Common.{◌≡◌, ◌-◌, take}
use Rattle.jv_types.specs.Frames.{types_in, AreTypes}
use Rattle.jv_types.proofs.frames.first_types.Given as goal

-- they begin with the same
abbrev pub invariant-loop-first : goal.invariant-loop-first
invariant-loop-first l = record {
  types : AreTypes l.rows.items l.first;
  same : take l.count (types_in l.rows.items l.first.top) ≡ take l.count (types_in l.rows.items l.fn.types.top);
}

abbrev pub decreases-loop-first : goal.decreases-loop-first
decreases-loop-first l = l.first.count - l.count
