use Rattle.assembler_laws.proofs.ShortLemmas.{numbers_fit}
use Rattle.assembler_laws.proofs.assembled.assembled_fits.Goals as goal

pub returns : goal.returns
returns c = numbers_fit
