use Rattle.frame_laws.proofs.Onward as laws
use Rattle.frame_laws.proofs.steps.local_step_keeps.Goals as goal

pub returns : goal.returns
returns c = laws.local_step_keeps
