use Rattle.std.proofs.Common.{sym, ◌∙◌, arith}
use Rattle.run_text.proofs.PrintedLemmas.{printed_none}
use Rattle.run_text.proofs.printed.push_units.Goals as goal

pub returns : goal.returns
returns c = sym (printed_none c.loop-left.text.items c.loop-left.left.now (omega arith)) ∙ c.loop-left.invariant
