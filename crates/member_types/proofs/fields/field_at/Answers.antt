use Rattle.std.proofs.Common.{◌≡◌, Option, Some, option_map, option_and_then, sym, subst, ap, ◌∙◌, refl}
use Rattle.std.specs.Prelude.{IsSome}
use Rattle.code_model.specs.TypeReading.{field_type_of}
use Rattle.code_model.specs.Names.{operand_at}
use Rattle.typing_model.specs.VerificationType as model
use Rattle.jv_types.specs.ClassData.{pool_of}
use Rattle.jv_types.specs.declared.number.ClassNo.{ClassNo}
use Rattle.type_rules.specs.declared.types.FieldType.{FieldType}
use Rattle.type_rules.specs.Types.{field_type_of as type_by_number, IsKnownElement}
use Rattle.instruction_types.proofs.Found.{found-name, found-known}
use Rattle.numbered_types.specs.Numbered.{number_of_type}
use Rattle.member_types.specs.Names.{reference_of}
use Rattle.member_types.proofs.LinkedTypes.{linked-field, class-number, read-number}
use Rattle.member_types.proofs.fields.field_at.Goals as goal

pub unwrap-class-requires : goal.unwrap-class-requires
unwrap-class-requires c =
    let w = c.args.world.now in
    let field = reference_of c.in-Some.member in
    let linked = linked-field w (operand_at (pool_of c.args.pool.now) c.args.index) field (sym c.in-Some.ensures) c.requires in
    subst (λ (o : Option ClassNo). IsSome o) (sym (c.class_named.ensures ∙ (class-number w field.class linked.class_there).1)) refl

pub unwrap-field_type-requires : goal.unwrap-field_type-requires
unwrap-field_type-requires c =
    let w = c.args.world.now in
    let field = reference_of c.in-Some.member in
    let linked = linked-field w (operand_at (pool_of c.args.pool.now) c.args.index) field (sym c.in-Some.ensures) c.requires in
    let read = read-number w (field_type_of field.descriptor) linked.type_there in
    subst (λ (o : Option FieldType). IsSome o)
    (sym (c.field_type.ensures ∙ ap (option_and_then (number_of_type w)) read.1 ∙ read.2.is_number)) refl

pub returns : goal.returns
returns c =
    let w = c.args.world.now in
    let field = reference_of c.in-Some.member in
    let linked = linked-field w (operand_at (pool_of c.args.pool.now) c.args.index) field (sym c.in-Some.ensures) c.requires in
    let read = read-number w (field_type_of field.descriptor) linked.type_there in
    let number : read.2.number ≡ c.unwrap-field_type.result =
    let there = c.field_type.ensures ∙ ap (option_and_then (number_of_type w)) read.1 ∙ read.2.is_number in
    let made = c.unwrap-field_type.ensures in cc in
    let found = sym c.class_named.ensures ∙ c.unwrap-class.ensures in
    record {
      member = field;
      is_member = sym c.in-Some.ensures;
      is_type = ap (option_map model.type_of) read.1
          ∙ ap (λ t. Some (model.type_of t)) (sym read.2.same ∙ ap (type_by_number w) number)
          ∙ ap Some (sym (c.verification_type.ensures.same w));
      class_name = found-name w field.class c.unwrap-class.result found;
      name = refl;
      descriptor = refl;
      class_there = found-known w field.class c.unwrap-class.result found;
      type_there = c.verification_type.ensures.known w (subst (λ (t : FieldType). IsKnownElement w t.element) number read.2.known);
    }
