use Rattle.manifest_laws.proofs.LengthLemmas.{blocks_are_shorter}
use Rattle.manifest_laws.proofs.laws.blocks_are_shorter.Goals as goal

pub returns : goal.returns
returns c = blocks_are_shorter
