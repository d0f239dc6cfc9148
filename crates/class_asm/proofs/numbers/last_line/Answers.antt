-- Line by line.
use Rattle.std.proofs.Common.{length, ap, arith}
use Rattle.asm_parts.proofs.BlockLemmas.{lines-none}
use Rattle.class_asm.proofs.numbers.last_line.Goals as goal

pub lines-preserved : goal.lines-preserved
lines-preserved c = omega (arith, c.lines.invariant, ap length c.split_line.ensures.line, c.in_ok-last.ensures)

pub returns : goal.returns
returns c = omega (arith, c.lines.invariant, ap length (lines-none c.lines.left.now c.lines-test.ensures))
