use Rattle.std.proofs.Common.{◌++◌, [], ◌∷◌, not, List, Option, Some, map, reverse, option_to_list, sym, subst, ap, ◌∙◌}
use Rattle.jv_model.specs.Partial.{◌>>=◌}
use Rattle.jv_model.specs.Descriptors.{MethodType}
use Rattle.typing_model.specs.VerificationType.{TypeFrame}
use Rattle.typing_model.specs.Transition.{Test}
use Rattle.typing_model.specs.CallTypes.{are_arguments, constructor_called}
use Rattle.type_rules.specs.declared.types.VerificationType.{VerificationType}
use Rattle.type_rules.specs.Types.{type_of}
use Rattle.type_rules.specs.Frames.{frame_of}
use Rattle.instruction_types.specs.declared.operands.Wanted.TheVariants.{To}
use Rattle.instruction_types.specs.Outcome.{Gives}
use Rattle.instruction_types.specs.Wanted.{test_of, IsKnownWanted, AreKnownWanted}
use Rattle.member_types.specs.Names.{reference_of}
use Rattle.member_types.specs.Replacements.{type_of_uninitialized}
use Rattle.member_types.specs.Constructors.{taken_and_replaced}
use Rattle.member_types.proofs.Called.{wanted-known, call-tests}
use Rattle.member_types.proofs.ConstructorCalls.{uninitialized-some, uninitialized-none, wanted-test, wanted-there, receiver-at, result-none, no-object, with-result, without-result}
use Rattle.member_types.proofs.constructors.call_constructor.Goals as goal

pub returns-in_default-uninitialized_type-clause-typed : goal.returns-in_default-uninitialized_type-clause-typed
returns-in_default-uninitialized_type-clause-typed g c = λ e is has.
    let w = c.args.world.now in
    let old = frame_of w c.args.frame.now in
    let method = reference_of c.args.method.now in
    let spelled = c.in_ok-signature.ensures in
    let at = receiver-at w c.in_ok-signature.signature.parameters.items c.args.frame.now.stack spelled.type c.len.result c.in-Some.receiver
    spelled.parameters c.len.ensures (sym c.in-Some.ensures) in
    ap (λ (o : Option MethodType). o >>= λ (t : MethodType). constructor_called e method t old) spelled.is_type
    ∙ no-object e method spelled.type old (type_of w c.in-Some.receiver) at
    (uninitialized-none w e method.class c.in-Some.receiver (sym c.in_default-uninitialized_type.ensures))

pub returns-in_default-initialized-clause-typed : goal.returns-in_default-initialized-clause-typed
returns-in_default-initialized-clause-typed g c = λ e is has.
    let w = c.args.world.now in
    let old = frame_of w c.args.frame.now in
    let method = reference_of c.args.method.now in
    let spelled = c.in_ok-signature.ensures in
    let receiver = uninitialized-some c.in-Some.receiver c.in-Some-uninitialized_type.old (sym c.in-Some-uninitialized_type.ensures) in
    let at = receiver-at w c.in_ok-signature.signature.parameters.items c.args.frame.now.stack spelled.type c.len.result c.in-Some.receiver
    spelled.parameters c.len.ensures (sym c.in-Some.ensures)
    ∙ ap (λ (t : VerificationType). Some (type_of w t)) receiver in
    ap (λ (o : Option MethodType). o >>= λ (t : MethodType). constructor_called e method t old) spelled.is_type
    ∙ no-object e method spelled.type old (type_of w (type_of_uninitialized c.in-Some-uninitialized_type.old)) at
    (sym (c.in_default-initialized.ensures.same e is has))

pub returns-then-is_some-clause-typed : goal.returns-then-is_some-clause-typed
returns-then-is_some-clause-typed g c = λ e is has.
    let w = c.args.world.now in
    let old = frame_of w c.args.frame.now in
    let method = reference_of c.args.method.now in
    let spelled = c.in_ok-signature.ensures in
    let receiver = uninitialized-some c.in-Some.receiver c.in-Some-uninitialized_type.old (sym c.in-Some-uninitialized_type.ensures) in
    let at = receiver-at w c.in_ok-signature.signature.parameters.items c.args.frame.now.stack spelled.type c.len.result c.in-Some.receiver
    spelled.parameters c.len.ensures (sym c.in-Some.ensures)
    ∙ ap (λ (t : VerificationType). Some (type_of w t)) receiver in
    let returns = result-none w c.in_ok-signature.signature.result spelled.type spelled.result ∙ ap not (sym c.is_some.ensures ∙ c.if-is_some.true) in
    ap (λ (o : Option MethodType). o >>= λ (t : MethodType). constructor_called e method t old) spelled.is_type
    ∙ with-result e method spelled.type old (type_of w (type_of_uninitialized c.in-Some-uninitialized_type.old)) (type_of w c.in-Some-initialized.object) at
    (sym (c.in-Some-initialized.ensures.same e is has)) returns

pub initialize-requires-clause-wanted : goal.initialize-requires-clause-wanted
initialize-requires-clause-wanted g c =
    let w = c.args.world.now in
    let wanted = c.wanted_uninitialized.result in
    let items = c.as_slice-2.ensures.value ∙ c.in_ok-wanted.ensures
    ∙ ap (λ (ts : List VerificationType). map To (reverse ts) ++ option_to_list (Some wanted)) c.as_slice.ensures in
    subst (AreKnownWanted w) (sym items)
    (wanted-known w c.in_ok-signature.signature.parameters.items (Some wanted) c.in_ok-signature.ensures.parameters_there
    (subst (IsKnownWanted w) (sym c.wanted_uninitialized.ensures) (wanted-there w c.in-Some-uninitialized_type.old)))

pub returns-clause-typed : goal.returns-clause-typed
returns-clause-typed g c = λ e is has.
    let w = c.args.world.now in
    let old = frame_of w c.args.frame.now in
    let method = reference_of c.args.method.now in
    let spelled = c.in_ok-signature.ensures in
    let wanted = c.wanted_uninitialized.result in
    let receiver = uninitialized-some c.in-Some.receiver c.in-Some-uninitialized_type.old (sym c.in-Some-uninitialized_type.ensures) in
    let there = type_of w (type_of_uninitialized c.in-Some-uninitialized_type.old) in
    let object = type_of w c.in-Some-initialized.object in
    let at = receiver-at w c.in_ok-signature.signature.parameters.items c.args.frame.now.stack spelled.type c.len.result c.in-Some.receiver
    spelled.parameters c.len.ensures (sym c.in-Some.ensures)
    ∙ ap (λ (t : VerificationType). Some (type_of w t)) receiver in
    let returns = result-none w c.in_ok-signature.signature.result spelled.type spelled.result ∙ ap not (sym c.is_some.ensures ∙ c.if-is_some.false) in
    let items = c.as_slice-2.ensures.value ∙ c.in_ok-wanted.ensures
    ∙ ap (λ (ts : List VerificationType). map To (reverse ts) ++ option_to_list (Some wanted)) c.as_slice.ensures in
    let tests = call-tests w e c.in_ok-signature.signature.parameters.items spelled.type (Some wanted) c.as_slice-2.result.now spelled.parameters items
    ∙ ap (λ (t : Test). are_arguments e spelled.type ++ t ∷ [])
    (ap (test_of w e) c.wanted_uninitialized.ensures ∙ wanted-test w e c.in-Some-uninitialized_type.old) in
    let rule =
    ap (λ (o : Option MethodType). o >>= λ (t : MethodType). constructor_called e method t old) spelled.is_type
    ∙ without-result e method spelled.type old there object at (sym (c.in-Some-initialized.ensures.same e is has)) returns
    ∙ sym (λ i. taken_and_replaced (tests i) there object old) in
    subst (λ (o : Option TypeFrame). Gives {X = Unit {0}} c.initialize.result o (frame_of w c.initialize.new.frame)) (sym rule)
    (c.initialize.ensures.typed e is)
