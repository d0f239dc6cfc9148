-- The needs make the pool.
use Rattle.std.proofs.Common.{◌≡◌, [], Result, subst, ap, ◌∙◌}
use Rattle.jv_model.specs.ClassData.{ClassData}
use Rattle.jv_model.specs.Utf16.{units_of_utf8}
use Rattle.text_model.specs.LineFaults.{Fault}
use Rattle.assembler_model.specs.AssemblerPool.{entries_of}
use Rattle.assembler_model.specs.PoolNeeds.{all_needs}
use Rattle.assembler_model.specs.AssembledClass.{class_unless}
use Rattle.asm_parts.specs.Parts.{parts_of}
use Rattle.asm_parts.specs.Pools.{entries_in}
use Rattle.class_asm.specs.Assembles.{Assembles}
use Rattle.class_asm.proofs.assembler.assemble_filled.Goals as goal

pub returns : goal.returns
returns c =
    let this = units_of_utf8 c.args.names.this.now in
    let super = units_of_utf8 c.args.names.super_class.now in
    let parts = parts_of c.args.parts.now in
    let entries = entries_in c.in_ok-pool.pool in
    let pool : entries ≡ entries_of (all_needs this super parts) =
    c.in_ok-pool.ensures.entries ∙ ap entries_of c.requires in
    subst (λ (said : Result ClassData Fault). Assembles c.assemble_needed.result said)
    (ap (class_unless this super [] c.args.last parts) pool) c.assemble_needed.ensures
