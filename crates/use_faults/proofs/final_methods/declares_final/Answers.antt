use Rattle.std.proofs.Common.{◌∙◌, ◌&&◌, Bool, sym, ap, refl}
use Rattle.world_model.specs.World.{has_flag, acc_final}
use Rattle.use_faults.proofs.Finals.{final_declared}
use Rattle.use_faults.proofs.final_methods.declares_final.Goals as goal

pub returns-then-is_virtual : goal.returns-then-is_virtual
returns-then-is_virtual c =
    let told = c.in-Some.ensures in (
      told.0,
      told.1,
      ap (λ (v : Bool). v && c.has_flag.result) (sym c.if-is_virtual.true)
          ∙ final_declared c.args.name.now c.args.descriptor.now told.0 c.in-Some.flags c.is_virtual.result c.has_flag.result
          told.2 c.is_virtual.ensures c.has_flag.ensures,
    )

pub returns-else-is_virtual : goal.returns-else-is_virtual
returns-else-is_virtual c =
    let told = c.in-Some.ensures in
    let final = has_flag acc_final c.in-Some.flags in (
      told.0,
      told.1,
      c.if-is_virtual.false ∙ ap (λ (v : Bool). v && final) (sym c.if-is_virtual.false)
          ∙ final_declared c.args.name.now c.args.descriptor.now told.0 c.in-Some.flags c.is_virtual.result final
          told.2 c.is_virtual.ensures refl,
    )
