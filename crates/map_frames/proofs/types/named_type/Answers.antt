use Rattle.std.proofs.Common.{◌≡◌, true, false, Option, option_and_then, sym, subst, ap, ◌∙◌, refl}
use Rattle.std.specs.Prelude.{IsSome}
use Rattle.jv_model.specs.Operand.{is_array_name}
use Rattle.code_model.specs.TypeReading.{field_type_of}
use Rattle.typing_model.specs.VerificationType as model
use Rattle.jv_types.specs.declared.number.ClassNo.{ClassNo}
use Rattle.type_rules.specs.declared.types.FieldType.{FieldType}
use Rattle.type_rules.specs.Types.{field_type_of as type_by_number, IsKnownElement}
use Rattle.instruction_types.proofs.Found.{found-name, found-known}
use Rattle.numbered_types.specs.Numbered.{number_of_type}
use Rattle.member_types.proofs.LinkedTypes.{class-number, read-number}
use Rattle.member_types.proofs.NamedTypes.{array-there, class-there, array-named, class-named}
use Rattle.map_frames.proofs.Arguments.{begins-array}
use Rattle.map_frames.proofs.types.named_type.Goals as goal

pub unwrap-requires : goal.unwrap-requires
unwrap-requires c =
    let w = c.args.world.now in
    let name = c.args.name.now in
    let begins : is_array_name name ≡ true = sym (begins-array name) ∙ sym c.starts_with.ensures.value ∙ c.if-starts_with.true in
    let read = read-number w (field_type_of name) (array-there w name c.requires begins) in
    subst (λ (o : Option FieldType). IsSome o)
    (sym (c.field_type.ensures ∙ ap (option_and_then (number_of_type w)) read.1 ∙ read.2.is_number)) refl

pub returns-then-starts_with-clause-same : goal.returns-then-starts_with-clause-same
returns-then-starts_with-clause-same c =
    let w = c.args.world.now in
    let name = c.args.name.now in
    let begins : is_array_name name ≡ true = sym (begins-array name) ∙ sym c.starts_with.ensures.value ∙ c.if-starts_with.true in
    let read = read-number w (field_type_of name) (array-there w name c.requires begins) in
    let number : read.2.number ≡ c.unwrap.result =
    let there = c.field_type.ensures ∙ ap (option_and_then (number_of_type w)) read.1 ∙ read.2.is_number in
    let made = c.unwrap.ensures in cc in
    c.verification_type.ensures.same w
    ∙ ap model.type_of (ap (type_by_number w) (sym number) ∙ read.2.same ∙ array-named name read.0 begins read.1)

pub returns-then-starts_with-clause-known : goal.returns-then-starts_with-clause-known
returns-then-starts_with-clause-known c =
    let w = c.args.world.now in
    let name = c.args.name.now in
    let begins : is_array_name name ≡ true = sym (begins-array name) ∙ sym c.starts_with.ensures.value ∙ c.if-starts_with.true in
    let read = read-number w (field_type_of name) (array-there w name c.requires begins) in
    let number : read.2.number ≡ c.unwrap.result =
    let there = c.field_type.ensures ∙ ap (option_and_then (number_of_type w)) read.1 ∙ read.2.is_number in
    let made = c.unwrap.ensures in cc in
    c.verification_type.ensures.known w (subst (λ (t : FieldType). IsKnownElement w t.element) number read.2.known)

pub unwrap-requires-2 : goal.unwrap-requires-2
unwrap-requires-2 c =
    let w = c.args.world.now in
    let name = c.args.name.now in
    let begins : is_array_name name ≡ false = sym (begins-array name) ∙ sym c.starts_with.ensures.value ∙ c.if-starts_with.false in
    subst (λ (o : Option ClassNo). IsSome o) (sym (c.class_named.ensures ∙ (class-number w name (class-there w name c.requires begins)).1)) refl

pub returns-clause-same : goal.returns-clause-same
unfolding model.type_of
returns-clause-same c =
    let w = c.args.world.now in
    let name = c.args.name.now in
    let begins : is_array_name name ≡ false = sym (begins-array name) ∙ sym c.starts_with.ensures.value ∙ c.if-starts_with.false in
    ap model.class (found-name w name c.unwrap-2.result (sym c.class_named.ensures ∙ c.unwrap-2.ensures))
    ∙ ap model.type_of (sym (class-named name begins))

pub returns-clause-known : goal.returns-clause-known
returns-clause-known c = found-known c.args.world.now c.args.name.now c.unwrap-2.result (sym c.class_named.ensures ∙ c.unwrap-2.ensures)
