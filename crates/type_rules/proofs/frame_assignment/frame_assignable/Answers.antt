use Rattle.type_rules.proofs.Assigned.{All-reverse}
use Rattle.type_rules.specs.Types.{IsKnownType}
use Rattle.type_rules.proofs.frame_assignment.frame_assignable.Goals as goal

pub types_assignable-requires-clause-operands : goal.types_assignable-requires-clause-operands
types_assignable-requires-clause-operands g c =
    All-reverse (IsKnownType c.args.world.now) c.operands.result.now _ c.operands.ensures c.requires.from.stack
