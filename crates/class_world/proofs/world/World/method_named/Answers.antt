use Rattle.std.proofs.Common.{option_map, ap, ◌∙◌, arith}
use Rattle.class_world.specs.World.{method_at}
use Rattle.class_world.proofs.Worlds.{method_by_number, no_method, method_steps}
use Rattle.class_world.proofs.world.World.method_named.Goals as goal

pub returns-in_err-signature-clause-found : goal.returns-in_err-signature-clause-found
returns-in_err-signature-clause-found g c =
    ap (option_map (method_at c.args.self.now)) c.from_residual.ensures
    ∙ no_method _ _ _ _ _ c.self.invariant _ c.self.view_is c.args.class c.requires _ _ c.in_err-signature.ensures

pub returns-in_err-class-clause-found : goal.returns-in_err-class-clause-found
returns-in_err-class-clause-found g c =
    ap (option_map (method_at c.args.self.now)) c.from_residual-in_err-class.ensures
    ∙ method_by_number _ _ _ _ _ c.self.invariant _ c.self.view_is c.args.class c.requires _ _ _ _ c.in_ok-signature.ensures c.in_err-class.ensures.found

pub returns-in_err-class-clause-steps : goal.returns-in_err-class-clause-steps
returns-in_err-class-clause-steps g c =
    omega (arith, c.find.ensures.steps, method_steps _ _ _ _ _ c.self.invariant _ c.self.view_is c.args.class c.requires)

pub returns-clause-found : goal.returns-clause-found
returns-clause-found g c =
    method_by_number _ _ _ _ _ c.self.invariant _ c.self.view_is c.args.class c.requires _ _ _ _ c.in_ok-signature.ensures c.in_ok-class.ensures.found

pub returns-clause-steps : goal.returns-clause-steps
returns-clause-steps g c =
    omega (arith, c.find.ensures.steps, method_steps _ _ _ _ _ c.self.invariant _ c.self.view_is c.args.class c.requires)
