use Rattle.typing_laws.proofs.Passes.{typing-frame-at}
use Rattle.typing_laws.proofs.typing.frame_at_is_typed.Goals as goal

pub returns : goal.returns
returns c = typing-frame-at
