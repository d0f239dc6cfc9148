use Rattle.typing_laws.proofs.Passes.{a-place, fails-a-place}
use Rattle.typing_laws.proofs.typing.place_is_first.Goals as goal

pub returns : goal.returns
returns c = λ world class method e pc rule is. (
  a-place world class method e pc rule is,
  fails-a-place world class method pc rule,
)
