use Rattle.std.proofs.Common.{Option, subst}
use Rattle.std.specs.Option.{IfSome}
use Rattle.type_rules.specs.declared.types.FieldType.{FieldType}
use Rattle.type_rules.specs.Types.{IsKnownElement}
use Rattle.member_types.proofs.signatures.result_type.Goals as goal

pub returns-in-Some-clause-known : goal.returns-in-Some-clause-known
returns-in-Some-clause-known c = λ w known.
    c.verification_type.ensures.known w
    (subst (λ (o : Option FieldType). IfSome o (λ type. IsKnownElement w type.element)) c.in-Some.is known)
