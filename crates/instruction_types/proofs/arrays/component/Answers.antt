use Rattle.std.proofs.Common.{subst}
use Rattle.type_rules.specs.Types.{IsKnownType}
use Rattle.instruction_types.proofs.arrays.component.Goals as goal

pub returns-in-Array-clause-known : goal.returns-in-Array-clause-known
returns-in-Array-clause-known c = λ w known.
    c.verification_type.ensures.known w (subst (IsKnownType w) c.in-Array.is known)
