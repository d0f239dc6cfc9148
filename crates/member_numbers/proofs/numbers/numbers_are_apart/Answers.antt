use Rattle.member_numbers.proofs.Sums.{apart}
use Rattle.member_numbers.proofs.numbers.numbers_are_apart.Goals as goal

pub returns : goal.returns
returns c = apart
