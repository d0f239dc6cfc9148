use Rattle.class_world.proofs.Worlds.{own_by_number, none_own, tables_there}
use Rattle.class_world.proofs.world.World.own_method.Goals as goal

pub own-requires : goal.own-requires
own-requires c = tables_there _ _ _ _ _ c.self.invariant _ c.self.view_is c.args.class c.requires

pub returns-in_err-signature : goal.returns-in_err-signature
returns-in_err-signature c = none_own _ _ _ _ _ c.self.invariant _ c.self.view_is c.args.class c.requires _ _ c.in_err-signature.ensures _ c.from_residual.ensures

pub returns : goal.returns
returns c = own_by_number _ _ _ _ _ c.self.invariant _ c.self.view_is c.args.class c.requires _ _ _ c.in_ok-signature.ensures _ c.own.ensures
