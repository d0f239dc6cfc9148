use Rattle.assembler_laws.proofs.ProfileLemmas.{in_profile}
use Rattle.assembler_laws.proofs.assembled.assembled_is_in_profile.Goals as goal

pub returns : goal.returns
returns c = in_profile
