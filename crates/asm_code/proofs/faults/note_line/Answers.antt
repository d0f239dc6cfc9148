-- What is noted, one after another.
use Rattle.std.proofs.Common.{◌≡◌, ap, sym, ◌∙◌}
use Rattle.std.specs.Prelude.{is_none}
use Rattle.std.specs.List.{list_any}
use Rattle.assembler_model.specs.CodeFaults.{label_in, named_labels}
use Rattle.asm_lines.specs.NumberedLines.{said_of}
use Rattle.asm_lines.specs.Words.{texts}
use Rattle.asm_parts.specs.Faults.{told_by}
use Rattle.asm_code.specs.Labels.{labels_in}
use Rattle.asm_code.specs.Places.{code_line_of}
use Rattle.asm_code.proofs.FaultLemmas.{line_noted}
use Rattle.asm_code.proofs.faults.note_line.Goals as goal

pub returns : goal.returns
returns c =
    let labels = labels_in c.args.labels.now.entries in
    let missing : c.are_missing-is_missing.result
    ≡ list_any (λ label. is_none (label_in labels label)) (named_labels (said_of c.args.here.now.line.now)) =
    c.are_missing-is_missing.ensures
    ∙ ap (λ names. list_any (λ label. is_none (label_in labels label)) (texts names)) c.as_slice.ensures
    ∙ ap (list_any (λ label. is_none (label_in labels label))) c.in_ok-names.ensures in
    line_noted (told_by c.args.first.now) (told_by c.note_own.new.first) (told_by c.note_where.new.first)
    (told_by c.note_where-2.new.first) (told_by c.note_where-3.new.first) labels (code_line_of c.args.here.now)
    c.are_missing-is_missing.result c.goes_too_far-is_far.result c.are_too_many-is_many.result missing
    c.goes_too_far-is_far.ensures c.are_too_many-is_many.ensures c.note_own.ensures c.note_where.ensures
    c.note_where-2.ensures c.note_where-3.ensures
