-- The lists of all faults, one after another.
use Rattle.std.proofs.Common.{◌≡◌, ap, sym, ◌∙◌}
use Rattle.std.specs.Prelude.{filter_map, flat_map}
use Rattle.text_model.specs.LineFaults.{first_fault}
use Rattle.assembler_model.specs.CodeFaults.{frame_faults, frames_of, number_of_catch, too_many_of}
use Rattle.asm_parts.specs.Faults.{either, told_by}
use Rattle.asm_code.specs.Faults.{frame_numbers, line_faults, no_pc}
use Rattle.asm_code.specs.Labels.{labels_in}
use Rattle.asm_code.specs.Places.{lines_of}
use Rattle.asm_code.proofs.FaultLemmas.{all_faults}
use Rattle.asm_code.proofs.faults.note_code.Goals as goal

pub returns : goal.returns
returns c =
    let labels = labels_in c.args.code.now.labels.entries in
    let t0 = told_by c.args.first.now in
    let t1 = told_by c.note_lines.new.first in
    let t2 = told_by c.note_distances.new.first in
    let t3 = told_by c.note_frame_count.new.first in
    let same = c.as_slice-lines.ensures in
    all_faults t0 t1 t2 t3 (told_by c.note_catch_count.new.first) labels (lines_of c.args.code.now.lines.items) c.requires
    (c.in_ok-note_lines.ensures ∙ ap (λ lines. either t0 (first_fault (flat_map (line_faults labels) (lines_of lines)))) same)
    (c.note_distances.ensures ∙ ap (λ lines. either t1 (first_fault (frame_faults no_pc (frames_of (lines_of lines))))) same)
    (c.note_frame_count.ensures ∙ ap (λ lines. either t2 (first_fault (too_many_of (frame_numbers (lines_of lines))))) same)
    (c.note_catch_count.ensures ∙ ap (λ lines. either t3 (first_fault (too_many_of (filter_map number_of_catch (lines_of lines))))) same)
