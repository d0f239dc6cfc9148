-- The first bar is found.
use Rattle.std.proofs.Common.{sym, ◌∙◌, arith}
use Rattle.asm_lines.proofs.BarLemmas.{before_bar, behind_bar}
use Rattle.asm_lines.proofs.frame.split_at_bar.Goals as goal

pub returns-then-is_bar-clause-before : goal.returns-then-is_bar-clause-before
returns-then-is_bar-clause-before c =
    before_bar c.args.words.now c.loop-place.place (omega arith) c.loop-place.invariant (sym c.if-is_bar.ensures)

pub returns-then-is_bar-clause-behind : goal.returns-then-is_bar-clause-behind
returns-then-is_bar-clause-behind c =
    behind_bar c.args.words.now c.loop-place.place (omega arith) c.loop-place.invariant (sym c.if-is_bar.ensures)
