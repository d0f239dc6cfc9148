use Rattle.std.proofs.Common.{subst}
use Rattle.type_rules.specs.Frames.{AreKnown}
use Rattle.instruction_types.specs.declared.stack_forms.Group.{Group}
use Rattle.instruction_types.specs.Groups.{types_in}
use Rattle.instruction_types.proofs.stack_forms.push_group.Goals as goal

pub returns-in-Two-clause-known : goal.returns-in-Two-clause-known
returns-in-Two-clause-known c = λ w known types_known.
    c.push_all-in-Two.ensures.known w known (subst (λ (g : Group). AreKnown w (types_in g)) c.in-Two.is types_known)
