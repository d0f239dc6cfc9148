use Rattle.std.proofs.Common.{◌≡◌, Some, slice_get, option_map, sym, ap, ◌∙◌}
use Rattle.code_model.specs.Names.{named_type}
use Rattle.linked_laws.proofs.Lists.{all_at}
use Rattle.code_model.specs.Laws.{IsFieldType}
use Rattle.typing_model.specs.DescriptorFrame.{map_type as model_map_type}
use Rattle.jv_types.specs.ClassData.{pool_of}
use Rattle.jv_types.specs.Code.{map_type_of}
use Rattle.type_rules.specs.declared.types.FieldType.{FieldType}
use Rattle.type_rules.specs.Types.{field_type_of, IsKnownElement}
use Rattle.map_frames.proofs.Arguments.{all-at, parameters-right, argument-some, argument-none, parameter-named}
use Rattle.map_frames.proofs.types.map_type.Goals as goal

pub returns-in-Some-clause-same : goal.returns-in-Some-clause-same
returns-in-Some-clause-same c = λ e has.
    let w = c.args.world.now in
    let number = c.in-Argument.number in
    let p = c.in-Some.parameter in
    let named = parameter-named w c.args.code.now.parameters.now e.type.parameters number c.parameter.result has.parameters c.parameter.ensures
    ∙ ap (option_map (field_type_of w)) c.in-Some.is in
    let is = all_at IsFieldType e.type.parameters number (field_type_of w p) (parameters-right e.method.descriptor e.type has.is_type) named in
    c.argument_type.ensures.same w e is
    ∙ sym (ap (λ t. model_map_type e (named_type (pool_of c.args.code.now.pool.now) (Some e.type) (map_type_of t))) c.in-Argument.is
    ∙ argument-some e e.type number (field_type_of w p) named)

pub returns-in-Some-clause-known : goal.returns-in-Some-clause-known
returns-in-Some-clause-known c =
    let parameters = c.args.code.now.parameters.now in
    let is : slice_get parameters c.in-Argument.number ≡ Some c.in-Some.parameter = sym c.parameter.ensures ∙ c.in-Some.is in
    c.argument_type.ensures.known c.args.world.now
    (all-at (λ (type : FieldType). IsKnownElement c.args.world.now type.element) parameters c.in-Argument.number c.in-Some.parameter c.requires.parameters is)

pub returns-in-None-clause-same : goal.returns-in-None-clause-same
returns-in-None-clause-same c = λ e has.
    let w = c.args.world.now in
    let number = c.in-Argument.number in
    let named = parameter-named w c.args.code.now.parameters.now e.type.parameters number c.parameter.result has.parameters c.parameter.ensures
    ∙ ap (option_map (field_type_of w)) c.in-None.is in
    sym (ap (λ t. model_map_type e (named_type (pool_of c.args.code.now.pool.now) (Some e.type) (map_type_of t))) c.in-Argument.is
    ∙ argument-none e e.type number named)
