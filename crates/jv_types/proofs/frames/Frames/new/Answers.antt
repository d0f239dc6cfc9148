use Rattle.jv_types.proofs.FrameRows.{no_frames}
use Rattle.jv_types.proofs.frames.Frames.new.Goals as goal

pub invariant_of-result : goal.invariant_of-result
invariant_of-result c = rw (c.new.ensures, c.new-2.ensures) no_frames
