-- Line by line.
use Rattle.std.proofs.Common.{◌≡◌, ◌+◌, drop, ap, sym, ◌∙◌, arith}
use Rattle.std.specs.Prelude.{flat_map}
use Rattle.std.proofs.lemmas.List.{drop_all}
use Rattle.text_model.specs.LineFaults.{first_fault}
use Rattle.asm_parts.specs.Faults.{either, told_by}
use Rattle.asm_parts.proofs.FaultLemmas.{either-none, first_fault-none, items_left, noted}
use Rattle.asm_code.specs.Faults.{line_faults}
use Rattle.asm_code.specs.Labels.{labels_in}
use Rattle.asm_code.specs.Places.{code_line_of, lines_of}
use Rattle.asm_code.proofs.faults.note_lines.Goals as goal

pub loop-here-preserved : goal.loop-here-preserved
loop-here-preserved c =
    let lines = c.args.lines.now in
    let at = c.loop-here.here-index in
    let faults = line_faults (labels_in c.args.labels.now.entries) in
    let told = told_by c.loop-here.first in
    let rest = flat_map faults (lines_of (drop (at + 1) lines)) in
    let left = items_left lines at c.here-item.result (omega arith) c.here-item.is in
    ap (λ told. either told (first_fault rest)) c.in_ok-note_line.ensures
    ∙ sym (noted told (faults (code_line_of c.here-item.result)) rest)
    ∙ ap (λ left. either told (first_fault (flat_map faults (lines_of left)))) (sym left)
    ∙ c.loop-here.invariant

pub returns : goal.returns
returns c =
    let labels = labels_in c.args.labels.now.entries in
    let told = told_by c.loop-here.first in
    let none = drop_all c.loop-here.here-index c.args.lines.now (omega arith) in
    sym (either-none told) ∙ ap (either told) (sym first_fault-none)
    ∙ ap (λ left. either told (first_fault (flat_map (line_faults labels) (lines_of left)))) (sym none)
    ∙ c.loop-here.invariant
