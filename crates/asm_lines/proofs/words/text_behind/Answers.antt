-- What is left is what the words that are left stand for.
use Rattle.std.proofs.Common.{◌≡◌, sym, ◌∙◌, ◌∷◌, ap, arith, rules}
use Rattle.jv_types.specs.Lines.{operand_words}
use Rattle.asm_lines.proofs.WordLemmas.{behind_all, behind_more, behind_none}
use Rattle.asm_lines.proofs.words.text_behind.Goals as goal

pub returns : goal.returns
returns c = behind_all c.args.line.now c.loop-place.left.now c.loop-place._place c.args.count (omega arith) c.loop-place.invariant.1

pub returns-in_default : goal.returns-in_default
returns-in_default c =
    behind_none c.args.line.now c.loop-place.left.now c.first_word.result.0.now c.loop-place._place c.args.count (omega arith)
    c.loop-place.invariant.1 (c.first_word.ensures ∙ ap (λ left. c.first_word.result.0.now ∷ operand_words left) c.in_default.is)

pub loop-place-preserved : goal.loop-place-preserved
loop-place-preserved c = (
  search rules,
  behind_more c.args.line.now c.loop-place.left.now c.in-Some.behind.now c.first_word.result.0.now c.loop-place._place c.loop-place.invariant.1
      (c.first_word.ensures ∙ ap (λ left. c.first_word.result.0.now ∷ operand_words left) c.in-Some.is),
)
