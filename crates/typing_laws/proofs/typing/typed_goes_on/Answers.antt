use Rattle.typing_laws.proofs.Instructions.{goes-next}
use Rattle.typing_laws.proofs.typing.typed_goes_on.Goals as goal

pub returns : goal.returns
returns c = goes-next
