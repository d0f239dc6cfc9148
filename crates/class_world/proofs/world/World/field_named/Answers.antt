use Rattle.std.proofs.Common.{option_map, ap, ◌∙◌, arith}
use Rattle.class_world.specs.World.{field_at}
use Rattle.class_world.proofs.Worlds.{field_by_number, no_field, field_steps}
use Rattle.class_world.proofs.world.World.field_named.Goals as goal

pub returns-in_err-signature-clause-found : goal.returns-in_err-signature-clause-found
returns-in_err-signature-clause-found g c =
    ap (option_map (field_at c.args.self.now)) c.from_residual.ensures
    ∙ no_field _ _ _ _ _ c.self.invariant _ c.self.view_is c.args.class c.requires _ _ c.in_err-signature.ensures

pub returns-in_err-class-clause-found : goal.returns-in_err-class-clause-found
returns-in_err-class-clause-found g c =
    ap (option_map (field_at c.args.self.now)) c.from_residual-in_err-class.ensures
    ∙ field_by_number _ _ _ _ _ c.self.invariant _ c.self.view_is c.args.class c.requires _ _ _ _ c.in_ok-signature.ensures c.in_err-class.ensures.found

pub returns-in_err-class-clause-steps : goal.returns-in_err-class-clause-steps
returns-in_err-class-clause-steps g c =
    omega (arith, c.find.ensures.steps, field_steps _ _ _ _ _ c.self.invariant _ c.self.view_is c.args.class c.requires)

pub returns-clause-found : goal.returns-clause-found
returns-clause-found g c =
    field_by_number _ _ _ _ _ c.self.invariant _ c.self.view_is c.args.class c.requires _ _ _ _ c.in_ok-signature.ensures c.in_ok-class.ensures.found

pub returns-clause-steps : goal.returns-clause-steps
returns-clause-steps g c =
    omega (arith, c.find.ensures.steps, field_steps _ _ _ _ _ c.self.invariant _ c.self.view_is c.args.class c.requires)
