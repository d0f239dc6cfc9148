use Rattle.std.proofs.Common.{◌++◌, List, Option, map, reverse, option_to_list, sym, subst, ap, ◌∙◌}
use Rattle.jv_model.specs.Descriptors.{MethodType}
use Rattle.typing_model.specs.VerificationType.{TypeFrame}
use Rattle.typing_model.specs.Transition.{changed}
use Rattle.type_rules.specs.declared.types.VerificationType.{VerificationType}
use Rattle.type_rules.specs.Frames.{frame_of}
use Rattle.instruction_types.specs.declared.operands.Wanted.TheVariants.{To}
use Rattle.instruction_types.specs.Outcome.{Gives}
use Rattle.instruction_types.specs.Wanted.{AreKnownWanted}
use Rattle.member_types.specs.Calls.{receiver_tests, called}
use Rattle.member_types.proofs.Called.{wanted-known, call-tests, call-results}
use Rattle.member_types.proofs.calls.call.Goals as goal

pub change_to-requires-clause-wanted : goal.change_to-requires-clause-wanted
change_to-requires-clause-wanted g c =
    let w = c.args.world.now in
    let items = c.as_slice-2.ensures.value ∙ c.in_ok-wanted.ensures
    ∙ ap (λ (ts : List VerificationType). map To (reverse ts) ++ option_to_list c.args.receiver) c.as_slice.ensures in
    subst (AreKnownWanted w) (sym items)
    (wanted-known w c.in_ok-signature.signature.parameters.items c.args.receiver c.in_ok-signature.ensures.parameters_there c.requires.receiver)

pub returns-clause-typed : goal.returns-clause-typed
returns-clause-typed g c = λ e is.
    let w = c.args.world.now in
    let old = frame_of w c.args.frame.now in
    let spelled = c.in_ok-signature.ensures in
    let receiver = receiver_tests w e c.args.receiver in
    let items = c.as_slice-2.ensures.value ∙ c.in_ok-wanted.ensures
    ∙ ap (λ (ts : List VerificationType). map To (reverse ts) ++ option_to_list c.args.receiver) c.as_slice.ensures in
    let tests = call-tests w e c.in_ok-signature.signature.parameters.items spelled.type c.args.receiver c.as_slice-2.result.now spelled.parameters items in
    let given = call-results w e c.in_ok-signature.signature.result spelled.type spelled.result in
    let rule =
    ap (λ (o : Option MethodType). called e o receiver old) spelled.is_type ∙ (λ i. changed e (sym tests i) (sym given i) old) in
    subst (λ (o : Option TypeFrame). Gives {X = Unit {0}} c.change_to.result o (frame_of w c.change_to.new.frame)) (sym rule)
    (c.change_to.ensures.typed e is)
