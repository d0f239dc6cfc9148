use Rattle.program_laws.proofs.Verified.{verified_is_startable}
use Rattle.program_laws.proofs.program.verified_is_startable.Goals as goal

pub returns : goal.returns
returns c = verified_is_startable
