-- Line by line.
use Rattle.std.proofs.Common.{◌≡◌, ◌+◌, ◌∷◌, true, false, drop, map, ap, sym, ◌∙◌, arith}
use Rattle.std.specs.Prelude.{filter_map, nat_le}
use Rattle.std.proofs.lemmas.List.{drop_all}
use Rattle.jv_model.specs.Refusal.{too_many}
use Rattle.text_model.specs.LineFaults.{at_line, first_fault, where_true}
use Rattle.asm_code.specs.Faults.{frame_numbers, is_frame_said}
use Rattle.asm_code.proofs.FaultLemmas.{above_limit, frame_number, frame_number_skip, frame_numbers_none, nothing_above, too_many_from}
use Rattle.asm_parts.specs.Faults.{either, told_by}
use Rattle.asm_parts.proofs.FaultLemmas.{either-none, first_fault-none, items_left, noted}
use Rattle.asm_code.specs.Places.{code_line_of, lines_of}
use Rattle.asm_code.proofs.faults.note_frame_count.Goals.{then-is_frame, else-is_frame}
use Rattle.asm_code.proofs.faults.note_frame_count.Goals as goal

pub loop-here-preserved : goal.loop-here-preserved
loop-here-preserved c =
    let lines = c.args.lines.now in
    let at = c.loop-here.here-index in
    let here = code_line_of c.here-item.result in
    let rest = lines_of (drop (at + 1) lines) in
    let left = items_left lines at c.here-item.result (omega arith) c.here-item.is in
    let told = told_by c.loop-here.first in
    let count = c.loop-here.count in
    let before : either told (first_fault (too_many_from 65535 count (frame_numbers (here ∷ rest))))
    ≡ either (told_by c.args.first.now) (first_fault (too_many_from 65535 0 (frame_numbers (lines_of lines)))) =
    ap (λ left. either told (first_fault (too_many_from 65535 count (frame_numbers (lines_of left))))) (sym left)
    ∙ c.loop-here.invariant.noted in
    elim c.if-is_frame.branch [
      | then-is_frame w ↦
          let is : is_frame_said here.line.said ≡ true = sym c.is_frame.ensures ∙ w.if-is_frame.true in
          let number = here.line.number in
          let faults = at_line number (where_true (nat_le 65535 count) too_many) in
          let once : told_by w.note_where.new.first ≡ either told (first_fault faults) =
          w.note_where.ensures ∙ ap (λ most. either told (first_fault (at_line number (where_true (nat_le most count) too_many)))) w.from.ensures in
          record {
            few = omega (arith, w.count-is, c.loop-here.invariant.few);
            noted = rw (w.first-is, w.count-is)
                (ap (λ told. either told (first_fault (too_many_from 65535 (count + 1) (frame_numbers rest)))) once
                ∙ sym (noted told faults (too_many_from 65535 (count + 1) (frame_numbers rest)))
                ∙ ap (λ faults. either told (first_fault faults)) (sym (above_limit 65535 count number (frame_numbers rest)))
                ∙ ap (λ numbers. either told (first_fault (too_many_from 65535 count numbers))) (sym (frame_number here rest is))
                ∙ before);
          }
      | else-is_frame w ↦
          let is : is_frame_said here.line.said ≡ false = sym c.is_frame.ensures ∙ w.if-is_frame.false in
          record {
            few = omega (arith, w.count-is, c.loop-here.invariant.few);
            noted = rw (w.first-is, w.count-is)
                (ap (λ numbers. either told (first_fault (too_many_from 65535 count numbers))) (sym (frame_number_skip here rest is)) ∙ before);
          }
    ]

pub returns : goal.returns
returns c =
    let told = told_by c.loop-here.first in
    let count = c.loop-here.count in
    let none = drop_all c.loop-here.here-index c.args.lines.now (omega arith) in
    sym (either-none told) ∙ ap (either told) (sym first_fault-none)
    ∙ ap (λ faults. either told (first_fault faults)) (sym (nothing_above 65535 count))
    ∙ ap (λ numbers. either told (first_fault (too_many_from 65535 count numbers))) (sym frame_numbers_none)
    ∙ ap (λ left. either told (first_fault (too_many_from 65535 count (frame_numbers (lines_of left))))) (sym none)
    ∙ c.loop-here.invariant.noted
