use Rattle.std.proofs.Common.{◌==◌, length, ap, ◌∙◌, arith}
use Rattle.std.specs.List.{list_any}
use Rattle.jv_types.specs.declared.number.ClassNo.{ClassNo}
use Rattle.class_world.proofs.Worlds.{is_sub_by_number, field_steps}
use Rattle.class_world.proofs.world.World.is_sub.Goals as goal

pub returns-clause-found : goal.returns-clause-found
returns-clause-found g c =
    c.is_among.ensures.found ∙ ap (list_any (λ (k : ClassNo). c.args.above.0 == k.0)) c.order.ensures
    ∙ is_sub_by_number _ _ _ _ _ c.self.invariant _ c.self.view_is c.args.below c.requires.below c.args.above c.requires.above

pub returns-clause-steps : goal.returns-clause-steps
returns-clause-steps g c =
    omega (arith, c.is_among.ensures.steps, ap length c.order.ensures, field_steps _ _ _ _ _ c.self.invariant _ c.self.view_is c.args.below c.requires.below)
