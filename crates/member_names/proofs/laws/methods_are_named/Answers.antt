use Rattle.member_names.proofs.Named as named
use Rattle.member_names.proofs.laws.methods_are_named.Goals as goal

pub returns : goal.returns
returns c = named.methods_are_named
