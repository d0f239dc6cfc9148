-- By its word.
use Rattle.std.proofs.Common.{◌∙◌}
use Rattle.asm_code.proofs.LabelLemmas.{is_there}
use Rattle.asm_code.proofs.labels.is_set.Goals as goal

pub returns : goal.returns
returns c = c.contains_key.ensures ∙ is_there c.args.label.now c.args.labels.now.entries
