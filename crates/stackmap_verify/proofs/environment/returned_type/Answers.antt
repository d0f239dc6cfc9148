use Rattle.std.proofs.Common.{Option, subst}
use Rattle.std.specs.Option.{IfSome}
use Rattle.type_rules.specs.declared.types.FieldType.{FieldType}
use Rattle.type_rules.specs.Types.{IsKnownElement}
use Rattle.stackmap_verify.proofs.environment.returned_type.Goals as goal

pub returns-in-Some-clause-known : goal.returns-in-Some-clause-known
returns-in-Some-clause-known c = λ world known.
    c.verification_type.ensures.known world
    (subst (λ (o : Option FieldType). IfSome o (λ (t : FieldType). IsKnownElement world t.element)) c.in-Some.is known)
