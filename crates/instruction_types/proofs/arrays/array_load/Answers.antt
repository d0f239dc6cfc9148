use Rattle.std.proofs.Common.{[], ◌∷◌, Some, Option, sym, subst, ◌∙◌, ap}
use Rattle.std.proofs.lemmas.List.Elements.{All-nil, All-cons}
use Rattle.typing_model.specs.VerificationType as model
use Rattle.typing_model.specs.VerificationType.{TypeFrame, is_int}
use Rattle.typing_model.specs.Transition.{changed}
use Rattle.typing_model.specs.ArrayTypes.{is_array_of, element_type}
use Rattle.jv_types.specs.Instruction.{element_kind_of}
use Rattle.type_rules.specs.Types.{IsKnownType}
use Rattle.type_rules.specs.Frames.{frame_of}
use Rattle.instruction_types.specs.Outcome.{Gives}
use Rattle.instruction_types.proofs.FirstReads.{read-first, known-at}
use Rattle.instruction_types.proofs.arrays.array_load.Goals as goal

pub change-requires-clause-types : goal.change-requires-clause-types
change-requires-clause-types g c =
    let w = c.args.world.now in
    let x = c.in-Some.array in
    All-cons (IsKnownType w) c.element.result []
    (c.element.ensures.known w (known-at w c.args.frame.now.stack 1 x c.requires.frame.stack (sym c.operand.ensures ∙ c.in-Some.is)))
    (All-nil (IsKnownType w))

pub returns-clause-typed : goal.returns-clause-typed
returns-clause-typed g c = λ e is.
    let w = c.args.world.now in
    let old = c.args.frame.now in
    let kind = element_kind_of c.args.kind in
    let x = c.in-Some.array in
    let with : model.VerificationType → Option TypeFrame = λ (type : model.VerificationType). changed e (is_int ∷ is_array_of e kind ∷ []) (type ∷ []) (frame_of w old) in
    let rule =
    read-first w old.stack 1 (Some x) (λ (type : model.VerificationType). with (element_type kind type)) (sym c.in-Some.is ∙ c.operand.ensures)
    ∙ ap with (sym (c.element.ensures.same w)) in
    subst (λ (o : Option TypeFrame). Gives {X = Unit {0}} c.change.result o (frame_of w c.change.new.frame)) (sym rule)
    (c.change.ensures.typed e is)
