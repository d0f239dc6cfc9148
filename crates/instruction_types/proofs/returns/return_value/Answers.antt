use Rattle.std.proofs.Common.{Option, [], subst}
use Rattle.std.specs.Option.{IfSome}
use Rattle.std.proofs.lemmas.List.Elements.{All-nil, All-cons}
use Rattle.type_rules.specs.declared.types.VerificationType.{VerificationType}
use Rattle.type_rules.specs.Types.{IsKnownType}
use Rattle.instruction_types.specs.declared.operands.Wanted.TheVariants.{To}
use Rattle.instruction_types.specs.Wanted.{IsKnownWanted}
use Rattle.instruction_types.proofs.returns.return_value.Goals as goal

pub pop_all-requires-clause-wanted : goal.pop_all-requires-clause-wanted
pop_all-requires-clause-wanted g c =
    let w = c.args.world.now in
    let there = subst (λ (o : Option VerificationType). IfSome o (IsKnownType w)) c.in-Some.is c.requires.here.result_there in
    All-cons (IsKnownWanted w) (To c.in-Some.wanted) [] there (All-nil (IsKnownWanted w))
