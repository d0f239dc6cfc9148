use Rattle.text_laws.proofs.Journals.{is_read_back}
use Rattle.text_laws.proofs.journal.journals_are_read_back.Goals as goal

pub returns : goal.returns
returns c = is_read_back
