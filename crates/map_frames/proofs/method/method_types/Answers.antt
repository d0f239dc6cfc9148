use Rattle.std.proofs.Common.{Option, map, option_map, sym, subst, ap, ◌∙◌}
use Rattle.std.specs.Option.{IfSome}
use Rattle.std.specs.List.{All}
use Rattle.code_model.specs.TypeReading.{method_type_of}
use Rattle.type_rules.specs.declared.types.FieldType.{FieldType}
use Rattle.type_rules.specs.Types.{field_type_of}
use Rattle.numbered_types.specs.Methods.{Types}
use Rattle.member_types.proofs.LinkedMethods.{IsKnownField, method-number, method-shown, shown-some, shown-is}
use Rattle.map_frames.proofs.method.method_types.Goals as goal

pub unwrap-requires : goal.unwrap-requires
unwrap-requires c =
    let w = c.args.world.now in
    let has = method-number w (method_type_of c.args.descriptor.now) c.requires in
    shown-some c.in_ok-method_type.field-0 (has.parameters.numbers, has.result.number)
    (c.in_ok-method_type.ensures ∙ method-shown w (method_type_of c.args.descriptor.now) has)

pub returns : goal.returns
returns c =
    let w = c.args.world.now in
    let has = method-number w (method_type_of c.args.descriptor.now) c.requires in
    let shown =
    shown-is c.in_ok-method_type.field-0 c.unwrap.result (has.parameters.numbers, has.result.number)
    (c.in_ok-method_type.ensures ∙ method-shown w (method_type_of c.args.descriptor.now) has) c.unwrap.ensures in
    let numbers = ap (λ (t : Types). t.0) shown in
    let number = ap (λ (t : Types). t.1) shown in
    record {
      type = has.type;
      is_type = has.is_type;
      parameters = ap (map (field_type_of w)) numbers ∙ has.parameters.same;
      result = ap (option_map (field_type_of w)) number ∙ has.result.same;
      parameters_there = subst (All (IsKnownField w)) (sym numbers) has.parameters.known;
      result_there = subst (λ (o : Option FieldType). IfSome o (IsKnownField w)) (sym number) has.result.known;
    }
