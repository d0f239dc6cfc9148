-- The first line that tells flags.
use Rattle.std.proofs.Common.{◌+◌, drop, ap, sym, ◌∙◌, arith}
use Rattle.std.specs.Prelude.{slice_get, unwrap_or}
use Rattle.std.proofs.lemmas.List.{drop_all}
use Rattle.assembler_model.specs.AssembledClass.{all_of, default_flags, flags_of}
use Rattle.asm_parts.specs.Parts.{part_of, parts_of}
use Rattle.asm_parts.proofs.FaultLemmas.{items_left}
use Rattle.class_asm.proofs.SaidLemmas.{first_flags, later_flags}
use Rattle.class_asm.proofs.sections.class_flags.Goals as goal

pub returns-in-Some : goal.returns-in-Some
returns-in-Some c =
    let parts = c.args.parts.now in
    let at = c.loop-part.part-index in
    let left = items_left parts at c.part-item.result (omega arith) c.part-item.is in
    first_flags (part_of c.part-item.result) (parts_of (drop (at + 1) parts)) c.in-Some.flags c.in-Some.ensures
    ∙ ap (λ left. unwrap_or (slice_get (all_of (λ part. flags_of) (parts_of left)) 0) default_flags) (sym left)
    ∙ c.loop-part.invariant

pub loop-part-preserved : goal.loop-part-preserved
loop-part-preserved c =
    let parts = c.args.parts.now in
    let at = c.loop-part.part-index in
    let left = items_left parts at c.part-item.result (omega arith) c.part-item.is in
    sym (later_flags (part_of c.part-item.result) (parts_of (drop (at + 1) parts)) c.in_default.ensures)
    ∙ ap (λ left. unwrap_or (slice_get (all_of (λ part. flags_of) (parts_of left)) 0) default_flags) (sym left)
    ∙ c.loop-part.invariant

pub returns : goal.returns
returns c =
    let none = drop_all c.loop-part.part-index c.args.parts.now (omega arith) in
    ap (λ left. unwrap_or (slice_get (all_of (λ part. flags_of) (parts_of left)) 0) default_flags) (sym none)
    ∙ c.loop-part.invariant
