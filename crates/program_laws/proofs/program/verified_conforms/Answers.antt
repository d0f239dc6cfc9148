use Rattle.program_laws.proofs.Verified.{verified_conforms}
use Rattle.program_laws.proofs.program.verified_conforms.Goals as goal

pub returns : goal.returns
returns c = verified_conforms
