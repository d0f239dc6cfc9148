use Rattle.std.proofs.Common.{Bool, [], ◌∷◌, List, ℕ, Option, if◌then◌else◌, sym, subst, ◌∙◌}
use Rattle.jv_model.specs.Operand.{MemberReference}
use Rattle.code_model.specs.Names.{operand_at}
use Rattle.typing_model.specs.VerificationType.{VerificationType, class, TypeFrame, is_this}
use Rattle.typing_model.specs.Transition.{to, popped}
use Rattle.typing_model.specs.MemberTypes.{is_owner}
use Rattle.jv_types.specs.ClassData.{pool_of}
use Rattle.type_rules.specs.Types.{type_of}
use Rattle.type_rules.specs.Frames.{frame_of}
use Rattle.instruction_types.specs.Outcome.{Gives}
use Rattle.member_types.proofs.Rules.{field-rule}
use Rattle.member_types.proofs.fields.putfield.Goals as goal

pub returns-clause-typed : goal.returns-clause-typed
returns-clause-typed g c = λ e is.
    let w = c.args.world.now in
    let old = frame_of w c.args.frame.now in
    let operand = operand_at (pool_of c.args.pool.now) c.args.index in
    let field = c.in-Some.ensures in
    let owner : Bool → List ℕ → VerificationType → Bool =
    λ (takes_this : Bool) (name : List ℕ) (type : VerificationType). if is_this type then takes_this else to e (class name) type in
    let put : Bool → List ℕ → Option TypeFrame =
    λ (takes_this : Bool) (name : List ℕ). popped (to e (type_of w c.in-Some.field.field_type) ∷ owner takes_this name ∷ []) old in
    let rule =
    field-rule (λ (m : MemberReference) (type : VerificationType). popped (to e type ∷ is_owner e m ∷ []) old) operand
    field.member (type_of w c.in-Some.field.field_type) field.is_member field.is_type
    ∙ (λ i. put (sym (c.goes_into_this-takes_this.ensures e is operand field) i) (sym field.class_name i)) in
    subst (λ (o : Option TypeFrame). Gives {X = Unit {0}} c.pop_all.result o (frame_of w c.pop_all.new.frame)) (sym rule)
    (c.pop_all.ensures.typed e is)
