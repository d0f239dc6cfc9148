use Rattle.std.proofs.Common.{◌≡◌, drop}
use Rattle.type_rules.specs.Frames.{all_go_in}
use Rattle.type_rules.proofs.frame_assignment.all_go.Given as goal

-- what is left tells the answer
abbrev pub invariant-loop-number : goal.invariant-loop-number
invariant-loop-number g l = record {
  rest : all_go_in l.place l.world (drop l.number l.from) (drop l.number l.to) ≡ all_go_in l.place l.world l.from l.to;
}
