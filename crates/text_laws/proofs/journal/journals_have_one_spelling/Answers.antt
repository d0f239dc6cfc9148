use Rattle.text_laws.proofs.Journals.{has_one_spelling}
use Rattle.text_laws.proofs.journal.journals_have_one_spelling.Goals as goal

pub returns : goal.returns
returns c = has_one_spelling
