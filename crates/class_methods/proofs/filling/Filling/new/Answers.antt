use Rattle.class_methods.proofs.Rows.{have_none}
use Rattle.class_methods.proofs.filling.Filling.new.Goals as goal

pub returns : goal.returns
returns c = have_none _ c.new.ensures c.new-2.ensures
