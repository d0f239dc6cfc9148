use Rattle.std.proofs.Common.{rules}
use Rattle.run_text.proofs.WordLemmas.{line_of-following}
use Rattle.run_text.proofs.status_text.status_line.Goals as goal

pub returns : goal.returns
returns c = rw line_of-following (search rules)
