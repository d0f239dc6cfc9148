use Rattle.std.proofs.Common.{refl, sym, ap, ◌∙◌}
use Rattle.std.specs.Prelude.{is_some}
use Rattle.jv_model.specs.ConstantPool.{const_at}
use Rattle.jv_types.specs.ClassData.{pool_of}
use Rattle.look_up_cache.proofs.Standing.{name_target, string_leads}
use Rattle.look_up_cache.proofs.slots.is_target.Goals as goal

pub returns-in-Some-clause-target : goal.returns-in-Some-clause-target
returns-in-Some-clause-target g c =
    let pool = pool_of c.args.pool.now in
    string_leads c.args.world.now pool c.args.index (const_at pool c.args.index) _ c.in-Some.ensures refl

pub returns-in-None-clause-target : goal.returns-in-None-clause-target
returns-in-None-clause-target g c =
    let pool = pool_of c.args.pool.now in
    c.is_named.ensures.named ∙ sym (ap is_some (name_target c.args.world.now pool c.args.index (const_at pool c.args.index) (sym c.in-None.ensures)))
