use Rattle.std.proofs.Common.{◌||◌, ◌++◌, [], ◌∷◌, List, ℕ, Option, None, if◌then◌else◌, sym, subst, ap, ◌∙◌, refl}
use Rattle.std.specs.Prelude.{IsSome}
use Rattle.jv_model.specs.Partial.{◌>>=◌}
use Rattle.jv_model.specs.Descriptors.{MethodType}
use Rattle.jv_model.specs.Operand.{MemberReference}
use Rattle.world_model.specs.BootNames.{is_constructor_name, is_initializer_name}
use Rattle.code_model.specs.TypeReading.{method_type_of}
use Rattle.code_model.specs.Names.{operand_at}
use Rattle.typing_model.specs.VerificationType as model
use Rattle.typing_model.specs.VerificationType.{TypeFrame}
use Rattle.typing_model.specs.Transition.{to, changed}
use Rattle.typing_model.specs.CallTypes.{are_arguments, results}
use Rattle.jv_types.specs.ClassData.{pool_of}
use Rattle.jv_types.specs.declared.number.ClassNo.{ClassNo}
use Rattle.type_rules.specs.Frames.{frame_of}
use Rattle.instruction_types.specs.Outcome.{Gives}
use Rattle.instruction_types.proofs.Found.{found-name, found-known}
use Rattle.member_types.specs.Names.{reference_of}
use Rattle.member_types.specs.Calls.{called}
use Rattle.member_types.proofs.LinkedTypes.{linked-method, class-number}
use Rattle.member_types.proofs.Rules.{member-rule}
use Rattle.member_types.proofs.Called.{named-called}
use Rattle.member_types.proofs.calls.invokevirtual.Goals as goal

pub unwrap-class-requires : goal.unwrap-class-requires
unwrap-class-requires g c =
    let w = c.args.world.now in
    let method = reference_of c.in-Some.method in
    let linked = linked-method w (operand_at (pool_of c.args.pool.now) c.args.index) method (sym c.in-Some.ensures) c.requires.linked in
    subst (λ (o : Option ClassNo). IsSome o) (sym (c.class_named.ensures ∙ (class-number w method.class linked.class_there).1)) refl

pub call-requires-clause-receiver : goal.call-requires-clause-receiver
call-requires-clause-receiver g c =
    found-known c.args.world.now c.in-Some.method.class.now c.unwrap-class.result (sym c.class_named.ensures ∙ c.unwrap-class.ensures)

pub returns-clause-typed : goal.returns-clause-typed
returns-clause-typed g c = λ e is.
    let w = c.args.world.now in
    let old = frame_of w c.args.frame.now in
    let method = reference_of c.in-Some.method in
    let no_constructor = sym c.is_constructor.ensures ∙ c.if-is_constructor.false in
    let no_initializer = sym c.is_initializer.ensures ∙ c.if-is_initializer.false in
    let class = found-name w method.class c.unwrap-class.result (sym c.class_named.ensures ∙ c.unwrap-class.ensures) in
    let rule =
    member-rule (λ (m : MemberReference). method_type_of m.descriptor >>= λ (type : MethodType).
    if is_constructor_name m.name || is_initializer_name m.name then None
    else changed e (are_arguments e type ++ to e (model.class m.class) ∷ []) (results type) old)
    (operand_at (pool_of c.args.pool.now) c.args.index) method (sym c.in-Some.ensures)
    ∙ named-called e (to e (model.class method.class) ∷ []) old (method_type_of method.descriptor)
    (is_constructor_name method.name || is_initializer_name method.name) (λ i. no_constructor i || no_initializer i)
    ∙ ap (λ (name : List ℕ). called e (method_type_of method.descriptor) (to e (model.class name) ∷ []) old) (sym class) in
    subst (λ (o : Option TypeFrame). Gives {X = Unit {0}} c.call.result o (frame_of w c.call.new.frame)) (sym rule) (c.call.ensures.typed e is)
