use Rattle.std.proofs.Common.{length, sym, ap, ◌∙◌, arith}
use Rattle.std.specs.Prelude.{Some, None, option_map}
use Rattle.jv_model.specs.Operand.{MemberReference}
use Rattle.world_model.specs.Supertypes.{field_order}
use Rattle.look_up_cache.specs.Found.{found_in}
use Rattle.look_up_cache.proofs.Named.{name_is, field_is, no_field}
use Rattle.look_up_cache.proofs.by_name.look_up_field.Goals as goal

pub returns-in_err-class-clause-found : goal.returns-in_err-class-clause-found
returns-in_err-class-clause-found g c =
    let a = c.args in
    let member : MemberReference = record { class = a.member.now.class.now; name = a.member.now.name.now; descriptor = a.member.now.descriptor.now } in
    ap (option_map (found_in a.world.now)) c.from_residual.ensures
    ∙ no_field a.world.now member (sym c.class_named.ensures ∙ c.in_err-class.was)

pub returns-in_err-place-clause-found : goal.returns-in_err-place-clause-found
returns-in_err-place-clause-found g c =
    let a = c.args in
    let member : MemberReference = record { class = a.member.now.class.now; name = a.member.now.name.now; descriptor = a.member.now.descriptor.now } in
    ap (option_map (found_in a.world.now)) c.from_residual-in_err-place.ensures
    ∙ field_is a.world.now member c.in_ok-class.class None (sym c.class_named.ensures ∙ c.in_ok-class.was) c.in_err-place.ensures.found

pub returns-in_err-place-clause-steps : goal.returns-in_err-place-clause-steps
returns-in_err-place-clause-steps g c =
    let a = c.args in
    let name = name_is a.world.now a.member.now.class.now c.in_ok-class.class (sym c.class_named.ensures ∙ c.in_ok-class.was) in
    omega (arith, c.field_named.ensures.steps, ap (λ n. length (field_order a.world.now n)) name)

pub returns-clause-found : goal.returns-clause-found
returns-clause-found g c =
    let a = c.args in
    let member : MemberReference = record { class = a.member.now.class.now; name = a.member.now.name.now; descriptor = a.member.now.descriptor.now } in
    field_is a.world.now member c.in_ok-class.class (Some c.in_ok-place.place) (sym c.class_named.ensures ∙ c.in_ok-class.was) c.in_ok-place.ensures.found

pub returns-clause-steps : goal.returns-clause-steps
returns-clause-steps g c =
    let a = c.args in
    let name = name_is a.world.now a.member.now.class.now c.in_ok-class.class (sym c.class_named.ensures ∙ c.in_ok-class.was) in
    omega (arith, c.field_named.ensures.steps, ap (λ n. length (field_order a.world.now n)) name)
