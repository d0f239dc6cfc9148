use Rattle.std.proofs.Common.{◌≡◌, Option, option_and_then, sym, subst, ap, ◌∙◌, refl}
use Rattle.std.specs.Prelude.{IsSome}
use Rattle.jv_model.specs.Descriptors.{class_type}
use Rattle.code_model.specs.TypeReading.{field_type_of}
use Rattle.code_model.specs.Names.{operand_at}
use Rattle.jv_types.specs.ClassData.{pool_of}
use Rattle.jv_types.specs.declared.number.ClassNo.{ClassNo}
use Rattle.type_rules.specs.declared.types.FieldType.{FieldType}
use Rattle.type_rules.specs.Types.{field_type_of as type_by_number, IsKnownElement}
use Rattle.instruction_types.proofs.Found.{found-name, found-known}
use Rattle.numbered_types.specs.Numbered.{number_of_type}
use Rattle.member_types.proofs.LinkedTypes.{class-number, read-number}
use Rattle.member_types.proofs.NamedTypes.{linked-class, array-there, class-there, array-named, class-named}
use Rattle.member_types.proofs.objects.named_type.Goals as goal

pub unwrap-requires : goal.unwrap-requires
unwrap-requires c =
    let w = c.args.world.now in
    let name = c.in-Some.name.now in
    let linked = linked-class w (operand_at (pool_of c.args.pool.now) c.args.index) name (sym c.in-Some.ensures) c.requires in
    let read = read-number w (field_type_of name) (array-there w name linked (sym c.is_array_name.ensures ∙ c.if-is_array_name.true)) in
    subst (λ (o : Option FieldType). IsSome o)
    (sym (c.field_type.ensures ∙ ap (option_and_then (number_of_type w)) read.1 ∙ read.2.is_number)) refl

pub returns-then-is_array_name : goal.returns-then-is_array_name
returns-then-is_array_name c =
    let w = c.args.world.now in
    let name = c.in-Some.name.now in
    let begins = sym c.is_array_name.ensures ∙ c.if-is_array_name.true in
    let linked = linked-class w (operand_at (pool_of c.args.pool.now) c.args.index) name (sym c.in-Some.ensures) c.requires in
    let read = read-number w (field_type_of name) (array-there w name linked begins) in
    let number : read.2.number ≡ c.unwrap.result =
    let there = c.field_type.ensures ∙ ap (option_and_then (number_of_type w)) read.1 ∙ read.2.is_number in
    let made = c.unwrap.ensures in cc in
    record {
      name = name;
      is_name = sym c.in-Some.ensures;
      is_type = ap (type_by_number w) (sym number) ∙ read.2.same ∙ array-named name read.0 begins read.1;
      known = subst (λ (t : FieldType). IsKnownElement w t.element) number read.2.known;
    }

pub unwrap-class-requires : goal.unwrap-class-requires
unwrap-class-requires c =
    let w = c.args.world.now in
    let name = c.in-Some.name.now in
    let linked = linked-class w (operand_at (pool_of c.args.pool.now) c.args.index) name (sym c.in-Some.ensures) c.requires in
    let there = class-there w name linked (sym c.is_array_name.ensures ∙ c.if-is_array_name.false) in
    subst (λ (o : Option ClassNo). IsSome o) (sym (c.class_named.ensures ∙ (class-number w name there).1)) refl

pub returns : goal.returns
returns c =
    let w = c.args.world.now in
    let name = c.in-Some.name.now in
    let found = sym c.class_named.ensures ∙ c.unwrap-class.ensures in
    record {
      name = name;
      is_name = sym c.in-Some.ensures;
      is_type = ap class_type (found-name w name c.unwrap-class.result found)
          ∙ sym (class-named name (sym c.is_array_name.ensures ∙ c.if-is_array_name.false));
      known = found-known w name c.unwrap-class.result found;
    }
