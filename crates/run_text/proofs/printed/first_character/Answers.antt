-- A pair of surrogates stands first, or a unit by itself does.
use Rattle.std.proofs.Common.{sym, ◌∙◌, arith}
use Rattle.run_text.proofs.PrintedLemmas.{printed_pair, printed_last, printed_single}
use Rattle.run_text.proofs.printed.first_character.Goals as goal

pub returns-in_default-clause-printed : goal.returns-in_default-clause-printed
returns-in_default-clause-printed c = printed_last c.args.unit c.args.rest.now c.alone.result (omega arith) c.alone.ensures

pub returns-then-is_pair-clause-printed : goal.returns-then-is_pair-clause-printed
returns-then-is_pair-clause-printed c =
    rw c.joined.ensures (printed_pair c.args.unit c.args.rest.now c.in-len1-up.len_at_least (sym c.is_pair.ensures ∙ c.if-is_pair.true))

pub returns-else-is_pair-clause-printed : goal.returns-else-is_pair-clause-printed
returns-else-is_pair-clause-printed c =
    printed_single c.args.unit c.args.rest.now c.alone-else-is_pair.result c.in-len1-up.len_at_least (sym c.is_pair.ensures ∙ c.if-is_pair.false)
    c.alone-else-is_pair.ensures
