use Rattle.std.proofs.Common.{◌≡◌, ◌+◌, ◌≤◌, drop}
use Rattle.class_world.specs.World.{name_at}
use Rattle.vm_unwind.specs.Catching.{frames_of, place_in, most_steps}
use Rattle.vm_unwind.proofs.catching.find_catching.Given as goal

-- no frame so far has a handler
abbrev pub invariant-loop-above : goal.invariant-loop-above
invariant-loop-above g l = record {
  searched :
      place_in l.world (name_at l.world l.class) (drop l.above (frames_of l.stacks l.t.0))
      ≡ place_in l.world (name_at l.world l.class) (frames_of l.stacks l.t.0);
  counted :
      l.steps + most_steps l.world (name_at l.world l.class) (drop l.above (frames_of l.stacks l.t.0))
      ≤ l.fn.steps + most_steps l.world (name_at l.world l.class) (frames_of l.stacks l.t.0);
}
