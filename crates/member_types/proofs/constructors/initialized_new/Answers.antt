use Rattle.std.proofs.Common.{ℕ, List, Option, Some, None, if◌then◌else◌, ap, sym, subst, ◌∙◌, refl}
use Rattle.std.specs.Prelude.{IsSome}
use Rattle.typing_model.specs.VerificationType as model
use Rattle.jv_types.specs.ClassData.{pool_of}
use Rattle.jv_types.specs.declared.number.ClassNo.{ClassNo}
use Rattle.instruction_types.proofs.Found.{found-name, found-known}
use Rattle.member_types.proofs.LinkedTypes.{class-number}
use Rattle.member_types.proofs.ConstructorCalls.{made-at}
use Rattle.member_types.proofs.constructors.initialized_new.Goals as goal

pub unwrap-made-requires : goal.unwrap-made-requires
unwrap-made-requires c =
    subst (λ (o : Option ClassNo). IsSome o)
    (sym (c.class_named.ensures ∙ (class-number c.args.world.now c.args.class.now c.requires.class).1)) refl

pub returns-then-is_made_at-clause-same : goal.returns-then-is_made_at-clause-same
returns-then-is_made_at-clause-same c = λ e has.
    let name = c.args.class.now in
    let class = found-name c.args.world.now name c.unwrap-made.result (sym c.class_named.ensures ∙ c.unwrap-made.ensures) in
    let made = made-at e name c.args.pc (pool_of c.args.code.now.pool.now) _ has
    ∙ sym c.is_made_at.ensures ∙ c.if-is_made_at.true in
    ap (λ (n : List ℕ). Some (model.class n)) class ∙ sym (λ i. if made i then Some (model.class name) else None)

pub returns-then-is_made_at-clause-known : goal.returns-then-is_made_at-clause-known
returns-then-is_made_at-clause-known c =
    found-known c.args.world.now c.args.class.now c.unwrap-made.result (sym c.class_named.ensures ∙ c.unwrap-made.ensures)

pub returns-else-is_made_at-clause-same : goal.returns-else-is_made_at-clause-same
returns-else-is_made_at-clause-same c = λ e has.
    let name = c.args.class.now in
    let made = made-at e name c.args.pc (pool_of c.args.code.now.pool.now) _ has
    ∙ sym c.is_made_at.ensures ∙ c.if-is_made_at.false in
    sym (λ i. if made i then Some (model.class name) else None)
