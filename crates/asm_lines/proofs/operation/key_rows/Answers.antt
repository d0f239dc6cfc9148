-- Row by row.
use Rattle.std.proofs.Common.{◌≡◌, ◌∷◌, ◌++◌, [], ◌+◌, true, false, sym, ◌∙◌, ap, drop, get_or, Ok, Some, map, rules, arith, Bor, List, ℕ, w32}
use Rattle.std.specs.Prelude.{FitsSigned}
use Rattle.std.proofs.lemmas.List.{drop_more, drop_all, map-append}
use Rattle.std.proofs.lemmas.Int.{to_z-of_z}
use Rattle.assembler_model.specs.OperationLines.{key_row, key_rows, rises}
use Rattle.asm_lines.specs.Terms.{row_of, rows_of}
use Rattle.asm_lines.specs.Words.{texts}
use Rattle.asm_lines.proofs.RowLemmas.{onto, onto-none, key_rows-faulty, key_rows-falls, key_rows-next, key_rows-none}
use Rattle.asm_lines.proofs.ToldLemmas.{tells_fault}
use Rattle.asm_lines.proofs.operation.key_rows.Goals as goal

abbrev none : Bor (List ℕ)
none = record { ref_ptr = (0, 0); now = [] }

pub returns-in_err-key : goal.returns-in_err-key
returns-in_err-key c =
    let words = c.args.words.now in
    let at = c.loop-word.word-index in
    let left : drop at words ≡ get_or words at none ∷ drop (at + 1) words = drop_more words at none (omega arith) in
    let is = key_rows-faulty (rows_of c.loop-word.rows) c.loop-word.before (get_or words at none).now (texts (drop (at + 1) words))
    _ (sym c.in_err-key.ensures) in
    tells_fault rows_of c.from_residual.result c.in_err-key.field-0.0 _ c.from_residual.ensures
    (sym c.loop-word.invariant ∙ ap (λ left. onto (rows_of c.loop-word.rows) (key_rows c.loop-word.before (texts left))) left ∙ is)

pub returns-then-not-rises : goal.returns-then-not-rises
returns-then-not-rises c =
    let words = c.args.words.now in
    let at = c.loop-word.word-index in
    let left : drop at words ≡ get_or words at none ∷ drop (at + 1) words = drop_more words at none (omega arith) in
    let row = row_of (c.in_ok-key.key, c.in_ok-key.label) in
    let fits : FitsSigned w32 c.in_ok-key.key = search rules in
    let falls : rises c.loop-word.before row.0 ≡ false = sym (simp to_z-of_z at c.if-not-rises.ensures) in
    let is = key_rows-falls (rows_of c.loop-word.rows) c.loop-word.before (get_or words at none).now (texts (drop (at + 1) words))
    row (sym c.in_ok-key.ensures) falls in
    sym c.loop-word.invariant ∙ ap (λ left. onto (rows_of c.loop-word.rows) (key_rows c.loop-word.before (texts left))) left ∙ is

pub loop-word-preserved : goal.loop-word-preserved
loop-word-preserved c =
    let words = c.args.words.now in
    let at = c.loop-word.word-index in
    let left : drop at words ≡ get_or words at none ∷ drop (at + 1) words = drop_more words at none (omega arith) in
    let row = row_of (c.in_ok-key.key, c.in_ok-key.label) in
    let fits : FitsSigned w32 c.in_ok-key.key = search rules in
    let above : rises c.loop-word.before row.0 ≡ true = sym (simp to_z-of_z at c.if-not-rises.ensures) in
    let is = key_rows-next (rows_of c.loop-word.rows) c.loop-word.before (get_or words at none).now (texts (drop (at + 1) words))
    row (sym c.in_ok-key.ensures) above in
    let same = to_z-of_z w32 c.in_ok-key.key fits in
    let added : rows_of c.push.new.self ≡ rows_of c.loop-word.rows ++ row ∷ [] =
    ap (map row_of) (rw same at c.in_ok-push.ensures.ok) ∙ map-append row_of c.loop-word.rows.items ((c.in_ok-key.key, c.in_ok-key.label) ∷ []) in
    rw (same, added) (sym is ∙ ap (λ left. onto (rows_of c.loop-word.rows) (key_rows c.loop-word.before (texts left))) (sym left) ∙ c.loop-word.invariant)

pub returns : goal.returns
returns c =
    let words = c.args.words.now in
    let none_left : drop c.loop-word.word-index words ≡ [] = drop_all c.loop-word.word-index words (omega arith) in
    sym c.loop-word.invariant
    ∙ ap (λ left. onto (rows_of c.loop-word.rows) (key_rows c.loop-word.before (texts left))) none_left
    ∙ key_rows-none (rows_of c.loop-word.rows) c.loop-word.before
