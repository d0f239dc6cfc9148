use Rattle.std.proofs.Common.{List, ap, ◌∙◌, arith}
use Rattle.std.specs.Prelude.{is_some}
use Rattle.jv_model.specs.ClassData.{Const}
use Rattle.class_world.specs.World.{names_of}
use Rattle.look_up_cache.specs.Targets.{most_steps, target_of}
use Rattle.look_up_cache.proofs.Kept.{pool_here}
use Rattle.look_up_cache.proofs.cache.leads.Goals as goal

pub returns-clause-leads : goal.returns-clause-leads
returns-clause-leads g c =
    let world = c.args.world.now in
    let pool = pool_here world c.args.class c.class.ensures.0 (names_of world) c.class.result.now.origin c.pool_in-pool.result.now c.class.ensures.1 c.class.ensures.2.origin c.pool_in-pool.ensures in
    c.is_target.ensures.target ∙ ap (λ (p : List Const). is_some (target_of world p c.args.index)) pool.1

pub returns-clause-steps : goal.returns-clause-steps
returns-clause-steps g c =
    let world = c.args.world.now in
    let pool = pool_here world c.args.class c.class.ensures.0 (names_of world) c.class.result.now.origin c.pool_in-pool.result.now c.class.ensures.1 c.class.ensures.2.origin c.pool_in-pool.ensures in
    omega (arith, c.is_target.ensures.steps, ap (λ (p : List Const). most_steps world p c.args.index) pool.1)
