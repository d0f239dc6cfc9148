use Rattle.machine_shared.proofs.Statics as statics
use Rattle.machine_shared.proofs.laws.statics_are_written.Goals as goal

pub returns : goal.returns
returns c = statics.are_written
