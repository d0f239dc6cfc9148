-- There is a fourth word.
use Rattle.std.proofs.Common.{◌≡◌, ap, sym}
use Rattle.jv_model.specs.Lines.{words_of}
use Rattle.jv_types.specs.Lines.{operand_words}
use Rattle.run_text.proofs.ReadLemmas.{run_read-more}
use Rattle.run_text.proofs.journal_reader.run_words.Goals as goal

pub returns-then-is_some : goal.returns-then-is_some
returns-then-is_some c =
    let second : operand_words c.first_word.result.1 ≡ words_of c.in_ok-behind.field-0.now = ap operand_words c.in_ok-behind.was in
    let third : operand_words c.first_word-2.result.1 ≡ words_of c.in_ok-behind-2.field-0.now = ap operand_words c.in_ok-behind-2.was in
    rw (c.first_word.ensures, second, c.first_word-2.ensures, third, c.first_word-3.ensures)
    (run_read-more c.first_word.result.0.now c.first_word-2.result.0.now c.first_word-3.result.0.now c.first_word-3.result.1 (sym c.if-is_some.ensures))
