use Rattle.typing_laws.proofs.Passes.{no-place, typing-no-place}
use Rattle.typing_laws.proofs.typing.no_place_is_typed.Goals as goal

pub returns : goal.returns
returns c = λ world class method e is. (
  no-place world class method e is,
  λ typed. typing-no-place world class method typed.0 typed.1,
)
