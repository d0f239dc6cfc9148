use Rattle.class_faults.proofs.SameLeast.{frames_added}
use Rattle.class_faults.proofs.uses.push_frames.Goals as goal

pub returns : goal.returns
returns c = frames_added _ _ c.types.result.now c.args.frames.now c.types.ensures c.in_ok-push_types.ensures
