use Rattle.manifest_laws.proofs.BlockLemmas.{cut_at_end}
use Rattle.manifest_laws.proofs.laws.blocks_are_cut.Goals as goal

pub returns : goal.returns
returns c = cut_at_end
