use Rattle.std.proofs.Common.{◌≡◌, List, [], ◌∷◌, Option, Some, None, map, option_map, sym, subst, ap, ◌∙◌, refl}
use Rattle.std.specs.Option.{IfSome}
use Rattle.std.specs.List.{All}
use Rattle.code_model.specs.TypeReading.{method_type_of}
use Rattle.typing_model.specs.VerificationType as model
use Rattle.type_rules.specs.declared.types.FieldType.{FieldType}
use Rattle.type_rules.specs.Types.{field_type_of}
use Rattle.numbered_types.specs.Methods.{Types}
use Rattle.member_types.proofs.LinkedMethods.{IsKnownField, method-number, method-shown, shown-some, shown-is}
use Rattle.member_types.proofs.signatures.read_signature.Goals as goal

pub unwrap-types-requires : goal.unwrap-types-requires
unwrap-types-requires c =
    let w = c.args.world.now in
    let has = method-number w (method_type_of c.args.descriptor.now) c.requires in
    shown-some c.in_ok-method_type.field-0 (has.parameters.numbers, has.result.number)
    (c.in_ok-method_type.ensures ∙ method-shown w (method_type_of c.args.descriptor.now) has)

pub returns : goal.returns
returns c =
    let w = c.args.world.now in
    let has = method-number w (method_type_of c.args.descriptor.now) c.requires in
    let shown =
    shown-is c.in_ok-method_type.field-0 c.unwrap-types.result (has.parameters.numbers, has.result.number)
    (c.in_ok-method_type.ensures ∙ method-shown w (method_type_of c.args.descriptor.now) has) c.unwrap-types.ensures in
    let numbers = c.as_slice.ensures ∙ ap (λ (t : Types). t.0) shown in
    let number = ap (λ (t : Types). t.1) shown in
    record {
      type = has.type;
      is_type = has.is_type;
      parameters = c.in_ok-verification_types.ensures.same w
          ∙ ap (map (λ (t : FieldType). model.type_of (field_type_of w t))) numbers
          ∙ map-map has.parameters.numbers ∙ ap (map model.type_of) has.parameters.same;
      result = c.result_type.ensures.same w
          ∙ ap (option_map (λ (t : FieldType). model.type_of (field_type_of w t))) number
          ∙ option-map has.result.number ∙ ap (option_map model.type_of) has.result.same;
      parameters_there = c.in_ok-verification_types.ensures.known w (subst (All (IsKnownField w)) (sym numbers) has.parameters.known);
      result_there = c.result_type.ensures.known w (subst (λ (o : Option FieldType). IfSome o (IsKnownField w)) (sym number) has.result.known);
    }
  where
    map-map : (types : List FieldType) → map (λ (t : FieldType). model.type_of (field_type_of c.args.world.now t)) types
        ≡ map model.type_of (map (field_type_of c.args.world.now) types)
    map-map [] = refl
    map-map (type ∷ types) = ap (λ (ts : List model.VerificationType). model.type_of (field_type_of c.args.world.now type) ∷ ts) (map-map types)

    option-map : (type : Option FieldType) → option_map (λ (t : FieldType). model.type_of (field_type_of c.args.world.now t)) type
        ≡ option_map model.type_of (option_map (field_type_of c.args.world.now) type)
    option-map None = refl
    option-map (Some type) = refl
