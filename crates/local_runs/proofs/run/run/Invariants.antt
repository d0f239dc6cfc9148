use Rattle.std.proofs.Common.{◌≡◌, Some}
use Rattle.local_runs.specs.Places.{step_of, frame_at, IsIn}
use Rattle.local_runs.specs.Runs.{frame_after, first_reached, reaches}
use Rattle.local_runs.proofs.run.run.Given as goal

-- so many steps were made
abbrev pub invariant-loop-made : goal.invariant-loop-made
invariant-loop-made l = record {
  at : IsIn l.body l.ran.place;
  made : l.ran.steps ≡ l._made;
  reached : frame_after (step_of l.pool l.body) (frame_at l.body l.fn.place l.fn.locals l.fn.stack) l._made
      ≡ Some (frame_at l.body l.ran.place l.locals l.stack);
  first : l.ran.first ≡ first_reached (step_of l.pool l.body) (frame_at l.body l.fn.place l.fn.locals l.fn.stack) l._made;
  mark : l.ran.mark ≡ reaches (step_of l.pool l.body) (frame_at l.body l.fn.place l.fn.locals l.fn.stack) l._made;
}
