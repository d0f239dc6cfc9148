use Rattle.typing_laws.proofs.Frames.{one-typing}
use Rattle.typing_laws.proofs.typing.one_typing.Goals as goal

pub returns : goal.returns
returns c = one-typing
