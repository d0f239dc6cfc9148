-- Part by part.
use Rattle.std.proofs.Common.{◌+◌, drop, ap, sym, ◌∙◌, arith}
use Rattle.std.specs.Prelude.{flat_map}
use Rattle.std.proofs.lemmas.List.{drop_all}
use Rattle.text_model.specs.LineFaults.{first_fault}
use Rattle.assembler_model.specs.AssembledClass.{faults_of_part}
use Rattle.asm_parts.specs.Faults.{either, told_by}
use Rattle.asm_parts.specs.Parts.{part_of, parts_of}
use Rattle.asm_parts.specs.Pools.{entries_in}
use Rattle.asm_parts.proofs.FaultLemmas.{either-none, first_fault-none, items_left, noted}
use Rattle.class_asm.proofs.faults.note_parts.Goals as goal

pub loop-part-preserved : goal.loop-part-preserved
loop-part-preserved c =
    let parts = c.args.parts.now in
    let at = c.loop-part.part-index in
    let faults = faults_of_part (entries_in c.args.pool.now) c.args.last in
    let told = told_by c.loop-part.first in
    let rest = flat_map faults (parts_of (drop (at + 1) parts)) in
    let left = items_left parts at c.part-item.result (omega arith) c.part-item.is in
    ap (λ told. either told (first_fault rest)) c.in_ok-note_part.ensures
    ∙ sym (noted told (faults (part_of c.part-item.result)) rest)
    ∙ ap (λ left. either told (first_fault (flat_map faults (parts_of left)))) (sym left)
    ∙ c.loop-part.invariant

pub returns : goal.returns
returns c =
    let faults = faults_of_part (entries_in c.args.pool.now) c.args.last in
    let told = told_by c.loop-part.first in
    let none = drop_all c.loop-part.part-index c.args.parts.now (omega arith) in
    sym (either-none told) ∙ ap (either told) (sym first_fault-none)
    ∙ ap (λ left. either told (first_fault (flat_map faults (parts_of left)))) (sym none)
    ∙ c.loop-part.invariant
