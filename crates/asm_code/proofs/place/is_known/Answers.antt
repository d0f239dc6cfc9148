-- By its word.
use Rattle.std.proofs.Common.{sym, ◌∙◌}
use Rattle.asm_code.proofs.PlaceLemmas.{any_known}
use Rattle.asm_code.proofs.place.is_known.Goals as goal

pub returns : goal.returns
returns c = c.is_set.ensures ∙ sym (any_known c.args.place.now.labels.entries c.args.label.now)
