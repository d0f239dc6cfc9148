-- The number is above the most at this digit, so it's above it behind all.
use Rattle.std.proofs.Common.{sym, ◌∙◌, arith}
use Rattle.asm_lines.proofs.NumeralLemmas.{digits_from-far}
use Rattle.asm_lines.proofs.numeral.digits_up_to.Goals as goal

pub returns-then-value-from : goal.returns-then-value-from
returns-then-value-from c =
    sym (digits_from-far c.args.most c.loop-byte.value c.args.word.now c.loop-byte.byte-index (omega arith) (sym c.if-not-is_ascii_digit.ensures.value) (omega arith))
    ∙ c.loop-byte.invariant.same
