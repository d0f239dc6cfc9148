-- The order, and what else there is.
use Rattle.std.proofs.Common.{◌++◌, ap, sym, ◌∙◌}
use Rattle.jv_model.specs.Refusal.{wrong_order}
use Rattle.jv_types.specs.Refusal.{line_kind_of}
use Rattle.text_model.specs.LineFaults.{at_line, first_fault, where_true}
use Rattle.asm_parts.specs.Faults.{either, told_by}
use Rattle.asm_code.specs.Places.{kinds_if_any}
use Rattle.asm_code.proofs.FaultLemmas.{one_noted}
use Rattle.asm_code.proofs.faults.note_own.Goals as goal

pub returns-in-Some : goal.returns-in-Some
returns-in-Some c =
    let told = told_by c.args.first.now in
    let number = c.args.here.now.line.now.number in
    let order = where_true c.args.here.now.is_out_of_order wrong_order in
    one_noted told (told_by c.note_where.new.first) _ number order (line_kind_of c.in-Some.kind) c.note_where.ensures c.note.ensures
    ∙ ap (λ fault. either told (first_fault (at_line number (order ++ kinds_if_any fault)))) (sym c.in-Some.is)
