use Rattle.std.proofs.Common.{sym, ◌∙◌, ap}
use Rattle.world_model.specs.BootNames.{java_object}
use Rattle.typing_model.specs.VerificationType.{class}
use Rattle.typing_model.specs.Transition.{to}
use Rattle.typing_model.specs.ArrayTypes.{is_element}
use Rattle.jv_types.specs.declared.instruction.ElementKind.{ElementKind}
use Rattle.jv_types.specs.Instruction.{element_kind_of}
use Rattle.instruction_types.proofs.Found.{found-name, found-known}
use Rattle.instruction_types.proofs.arrays.element_wanted.Goals as goal

pub returns-in-Reference-clause-same : goal.returns-in-Reference-clause-same
returns-in-Reference-clause-same c = λ w e ready.
    (λ i. to e (class (found-name w java_object c.args.here.now.object ready.object i)))
    ∙ ap (λ (k : ElementKind). is_element e (element_kind_of k)) (sym c.in-Reference.is)

pub returns-in-Reference-clause-known : goal.returns-in-Reference-clause-known
returns-in-Reference-clause-known c = λ w ready. found-known w java_object c.args.here.now.object ready.object
