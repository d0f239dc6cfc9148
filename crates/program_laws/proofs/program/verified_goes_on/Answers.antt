use Rattle.program_laws.proofs.Verified.{verified_goes_on}
use Rattle.program_laws.proofs.program.verified_goes_on.Goals as goal

pub returns : goal.returns
returns c = verified_goes_on
