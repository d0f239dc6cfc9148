-- Frame by frame.
use Rattle.std.proofs.Common.{◌≡◌, ◌+◌, ◌∷◌, true, false, drop, ap, sym, ◌∙◌, arith}
use Rattle.std.proofs.lemmas.List.{drop_all}
use Rattle.jv_model.specs.Refusal.{out_of_range}
use Rattle.text_model.specs.LineFaults.{at_line, first_fault, where_true}
use Rattle.assembler_model.specs.CodeFaults.{frame_faults, frames_of, is_above_u2, offset_delta}
use Rattle.asm_parts.specs.Faults.{either, told_by}
use Rattle.asm_parts.proofs.FaultLemmas.{either-none, first_fault-none, items_left, noted}
use Rattle.asm_code.specs.Faults.{is_frame_said, no_pc}
use Rattle.asm_code.specs.Places.{code_line_of, lines_of}
use Rattle.asm_code.proofs.FaultLemmas.{frame_next, frame_skip, frames_none}
use Rattle.asm_code.proofs.faults.note_distances.Goals.{then-is_frame, else-is_frame}
use Rattle.asm_code.proofs.faults.note_distances.Goals as goal

pub loop-here-preserved : goal.loop-here-preserved
loop-here-preserved c =
    let lines = c.args.lines.now in
    let at = c.loop-here.here-index in
    let here = code_line_of c.here-item.result in
    let rest = lines_of (drop (at + 1) lines) in
    let left = items_left lines at c.here-item.result (omega arith) c.here-item.is in
    let told = told_by c.loop-here.first in
    let pc = c.loop-here.before in
    let before : either told (first_fault (frame_faults pc (frames_of (here ∷ rest))))
    ≡ either (told_by c.args.first.now) (first_fault (frame_faults no_pc (frames_of (lines_of lines)))) =
    ap (λ left. either told (first_fault (frame_faults pc (frames_of (lines_of left))))) (sym left) ∙ c.loop-here.invariant in
    elim c.if-is_frame.branch [
      | then-is_frame w ↦
          let is : is_frame_said here.line.said ≡ true = sym c.is_frame.ensures ∙ w.if-is_frame.true in
          let number = here.line.number in
          let faults = at_line number (where_true (is_above_u2 (offset_delta pc here.pc)) out_of_range) in
          let once : told_by w.note_where.new.first ≡ either told (first_fault faults) =
          w.note_where.ensures ∙ ap (λ test. either told (first_fault (at_line number (where_true test out_of_range))))
          (w.is_above_u2-is_far.ensures ∙ ap is_above_u2 w.offset_delta.ensures) in
          rw (w.first-is, w.before-is)
          (ap (λ told. either told (first_fault (frame_faults here.pc (frames_of rest)))) once
          ∙ sym (noted told faults (frame_faults here.pc (frames_of rest)))
          ∙ ap (λ faults. either told (first_fault faults)) (sym (frame_next here pc rest is)) ∙ before)
      | else-is_frame w ↦
          let is : is_frame_said here.line.said ≡ false = sym c.is_frame.ensures ∙ w.if-is_frame.false in
          rw (w.first-is, w.before-is)
          (ap (λ frames. either told (first_fault (frame_faults pc frames))) (sym (frame_skip here rest is)) ∙ before)
    ]

pub returns : goal.returns
returns c =
    let told = told_by c.loop-here.first in
    let pc = c.loop-here.before in
    let none = drop_all c.loop-here.here-index c.args.lines.now (omega arith) in
    sym (either-none told) ∙ ap (either told) (sym first_fault-none)
    ∙ ap (λ frames. either told (first_fault (frame_faults pc frames))) (sym frames_none)
    ∙ ap (λ left. either told (first_fault (frame_faults pc (frames_of (lines_of left))))) (sym none)
    ∙ c.loop-here.invariant
