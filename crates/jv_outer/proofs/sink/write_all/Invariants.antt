use Rattle.std.proofs.Common.{◌≡◌, ◌≤◌, ◌<◌, ◌-◌, length, take}
use Rattle.jv_model.specs.Outside.{followed_by}
use Rattle.jv_outer.proofs.sink.write_all.Given as goal

-- the sink got what was written so far
abbrev pub invariant-loop-written : goal.invariant-loop-written
invariant-loop-written g l = let sink = g.S.Sink in record {
  within : l.written ≤ length l.text;
  got : sink.bytes l.sink ≡ followed_by (sink.bytes l.fn.sink) (take l.written l.text);
  untouched : l.written ≡ 0 → sink.writes l.sink ≡ sink.writes l.fn.sink;
  not_fewer : sink.writes l.fn.sink ≤ sink.writes l.sink;
  given : 0 < l.written → sink.writes l.fn.sink < sink.writes l.sink;
  still : sink.faults l.sink ≡ sink.faults l.fn.sink;
}

abbrev pub decreases-loop-written : goal.decreases-loop-written
decreases-loop-written g l = length l.text - l.written
