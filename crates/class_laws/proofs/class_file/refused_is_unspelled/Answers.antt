use Rattle.class_laws.proofs.ClassFile as laws
use Rattle.class_laws.proofs.class_file.refused_is_unspelled.Goals as goal

pub returns : goal.returns
returns c = laws.refused_is_unspelled
