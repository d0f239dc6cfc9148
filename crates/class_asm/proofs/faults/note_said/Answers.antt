-- A kind is noted at its line, and else nothing.
use Rattle.std.proofs.Common.{ap, sym, ◌∙◌}
use Rattle.jv_types.specs.Refusal.{line_kind_of}
use Rattle.text_model.specs.LineFaults.{first_fault}
use Rattle.assembler_model.specs.AssembledClass.{said_faults_of}
use Rattle.asm_lines.specs.NumberedLines.{numbered_of}
use Rattle.asm_lines.specs.Terms.{line_of}
use Rattle.asm_lines.specs.Told.{told}
use Rattle.asm_parts.specs.Faults.{either, told_by}
use Rattle.asm_parts.proofs.FaultLemmas.{first_fault-one}
use Rattle.asm_code.proofs.FaultLemmas.{none_noted}
use Rattle.class_asm.proofs.faults.note_said.Goals as goal

pub returns-in-Err : goal.returns-in-Err
returns-in-Err c =
    let before = told_by c.args.first.now in
    let line = numbered_of c.args.line.now in
    c.note.ensures ∙ ap (either before) (sym (first_fault-one (line.number, line_kind_of c.in-Err.kind)))
    ∙ ap (λ said. either before (first_fault (said_faults_of line (told line_of said)))) (sym c.in-Err.is)

pub returns-in_default : goal.returns-in_default
returns-in_default c =
    let before = told_by c.args.first.now in
    let line = numbered_of c.args.line.now in
    none_noted before ∙ ap (λ said. either before (first_fault (said_faults_of line (told line_of said)))) (sym c.in_default.is)
