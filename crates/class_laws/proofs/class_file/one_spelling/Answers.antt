use Rattle.class_laws.proofs.ClassFile as laws
use Rattle.class_laws.proofs.class_file.one_spelling.Goals as goal

pub returns : goal.returns
returns c = laws.one_spelling
