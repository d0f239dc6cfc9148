use Rattle.typing_laws.proofs.Instructions.{typed-applies}
use Rattle.typing_laws.proofs.typing.typed_applies.Goals as goal

pub returns : goal.returns
returns c = typed-applies
