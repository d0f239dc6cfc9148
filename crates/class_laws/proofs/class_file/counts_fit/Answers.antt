use Rattle.class_laws.proofs.Counts.{within, fit}
use Rattle.class_laws.proofs.class_file.counts_fit.Goals as goal

pub returns : goal.returns
returns c = λ file. (fit file, within file)
