-- Part by part.
use Rattle.std.proofs.Common.{List, take, subst, arith}
use Rattle.assembler_model.specs.AssemblerOrder as model
use Rattle.asm_parts.specs.Parts.{parts_of}
use Rattle.asm_parts.specs.Pools.{entries_in}
use Rattle.class_asm.specs.Sections.{IsSaid}
use Rattle.class_asm.proofs.NearLemmas.{at_near}
use Rattle.class_asm.proofs.SaidLemmas.{parts_more}
use Rattle.class_asm.proofs.sections.read_sections.Goals as goal

pub push_part-requires-clause-near : goal.push_part-requires-clause-near
push_part-requires-clause-near c =
    at_near (entries_in c.args.pool.now) c.args.parts.now c.loop-part.part-index c.part-item.result (omega arith) c.part-item.is
    c.requires.near

pub loop-part-preserved : goal.loop-part-preserved
loop-part-preserved c =
    let entries = entries_in c.args.pool.now in
    let parts = c.args.parts.now in
    let at = c.loop-part.part-index in
    subst (λ (parts : List model.Part). IsSaid entries parts c.push_part.new.sections)
    (parts_more parts at c.part-item.result (omega arith) c.part-item.is)
    (c.in_ok-push_part.ensures (parts_of (take at parts)) c.loop-part.invariant)
