-- Part by part.
use Rattle.std.proofs.Common.{◌≡◌, ◌∷◌, [], ◌+◌, sym, ◌∙◌, ap, drop, arith}
use Rattle.std.proofs.lemmas.List.{drop_all}
use Rattle.jv_model.specs.Refusal.{wrong_order}
use Rattle.text_model.specs.LineFaults.{at_line, first_fault, unless_true}
use Rattle.assembler_model.specs.AssemblerOrder.{outside_faults, stands, reached_by}
use Rattle.asm_parts.specs.Faults.{either, told_by}
use Rattle.asm_parts.specs.Parts.{part_of, parts_of}
use Rattle.asm_parts.specs.Sections.{section_of}
use Rattle.asm_parts.proofs.FaultLemmas.{either-none, first_fault-none, noted, items_left}
use Rattle.asm_parts.proofs.order.note_order.Goals as goal

pub loop-part-preserved : goal.loop-part-preserved
unfolding outside_faults
loop-part-preserved c =
    let parts = c.args.parts.now in
    let at = c.loop-part.part-index in
    let told = told_by c.loop-part.first in
    let reached = section_of c.loop-part.reached in
    let part = part_of c.part-item.result in
    let left = items_left parts at c.part-item.result (omega arith) c.part-item.is in
    let fault = at_line part.line.number (unless_true (stands reached part.line.form) wrong_order) in
    let rest = outside_faults (reached_by reached part.line.form) (parts_of (drop (at + 1) parts)) in
    rw (c.reached_by-reached.ensures, c.note_unless.ensures, c.stands-in_order.ensures) (sym (noted told fault rest)
    ∙ ap (λ left. either told (first_fault (outside_faults reached (parts_of left)))) (sym left) ∙ c.loop-part.invariant)

pub returns : goal.returns
unfolding outside_faults
returns c =
    let none = drop_all c.loop-part.part-index c.args.parts.now (omega arith) in
    sym (either-none (told_by c.loop-part.first)) ∙ ap (either (told_by c.loop-part.first)) (sym first_fault-none)
    ∙ ap (λ left. either (told_by c.loop-part.first) (first_fault (outside_faults (section_of c.loop-part.reached) (parts_of left)))) (sym none)
    ∙ c.loop-part.invariant
