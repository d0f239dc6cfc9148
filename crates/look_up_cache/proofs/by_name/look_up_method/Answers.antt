use Rattle.std.proofs.Common.{length, sym, ap, ◌∙◌, arith}
use Rattle.std.specs.Prelude.{Some, None, option_map}
use Rattle.jv_model.specs.Operand.{MemberReference}
use Rattle.world_model.specs.Resolution.{class_with_methods}
use Rattle.world_model.specs.Supertypes.{method_order}
use Rattle.class_world.specs.World.{number_of}
use Rattle.look_up_cache.specs.Found.{found_in}
use Rattle.look_up_cache.proofs.Named.{name_is, method_is, no_method}
use Rattle.look_up_cache.proofs.by_name.look_up_method.Goals as goal

pub returns-in_err-class-clause-found : goal.returns-in_err-class-clause-found
returns-in_err-class-clause-found g c =
    let a = c.args in
    let member : MemberReference = record { class = a.member.now.class.now; name = a.member.now.name.now; descriptor = a.member.now.descriptor.now } in
    ap (option_map (found_in a.world.now)) c.from_residual.ensures
    ∙ no_method a.world.now member (ap (number_of a.world.now) (sym c.class_with_methods.ensures) ∙ sym c.class_named.ensures ∙ c.in_err-class.was)

pub returns-in_err-method-clause-found : goal.returns-in_err-method-clause-found
returns-in_err-method-clause-found g c =
    let a = c.args in
    let member : MemberReference = record { class = a.member.now.class.now; name = a.member.now.name.now; descriptor = a.member.now.descriptor.now } in
    let number = ap (number_of a.world.now) (sym c.class_with_methods.ensures) ∙ sym c.class_named.ensures ∙ c.in_ok-class.was in
    ap (option_map (found_in a.world.now)) c.from_residual-in_err-method.ensures
    ∙ method_is a.world.now member c.in_ok-class.class None number c.in_err-method.ensures.found

pub returns-in_err-method-clause-steps : goal.returns-in_err-method-clause-steps
returns-in_err-method-clause-steps g c =
    let a = c.args in
    let number = ap (number_of a.world.now) (sym c.class_with_methods.ensures) ∙ sym c.class_named.ensures ∙ c.in_ok-class.was in
    let name = name_is a.world.now (class_with_methods a.member.now.class.now) c.in_ok-class.class number in
    omega (arith, c.method_named.ensures.steps, ap (λ n. length (method_order a.world.now n)) name)

pub returns-clause-found : goal.returns-clause-found
returns-clause-found g c =
    let a = c.args in
    let member : MemberReference = record { class = a.member.now.class.now; name = a.member.now.name.now; descriptor = a.member.now.descriptor.now } in
    let number = ap (number_of a.world.now) (sym c.class_with_methods.ensures) ∙ sym c.class_named.ensures ∙ c.in_ok-class.was in
    method_is a.world.now member c.in_ok-class.class (Some c.in_ok-method.method) number c.in_ok-method.ensures.found

pub returns-clause-steps : goal.returns-clause-steps
returns-clause-steps g c =
    let a = c.args in
    let number = ap (number_of a.world.now) (sym c.class_with_methods.ensures) ∙ sym c.class_named.ensures ∙ c.in_ok-class.was in
    let name = name_is a.world.now (class_with_methods a.member.now.class.now) c.in_ok-class.class number in
    omega (arith, c.method_named.ensures.steps, ap (λ n. length (method_order a.world.now n)) name)
