use Rattle.std.proofs.Common.{[]}
use Rattle.std.proofs.lemmas.List.Elements.{All-nil, All-cons}
use Rattle.type_rules.specs.declared.types.VerificationType.TheVariants.{Array}
use Rattle.type_rules.specs.Types.{IsKnownType}
use Rattle.member_types.proofs.objects.newarray.Goals as goal

pub change-requires-clause-types : goal.change-requires-clause-types
change-requires-clause-types g c =
    let w = c.args.world.now in
    All-cons (IsKnownType w) (Array c.primitive_type.result) [] (c.primitive_type.ensures.known w) (All-nil (IsKnownType w))
