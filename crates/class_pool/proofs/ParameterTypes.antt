-- The locals that a call of a method fills.
use Rattle.std.proofs.Common.{◌≡◌, ℕ, ◌+◌, List, [], ◌∷◌, ◌++◌, Option, Some, None, option_map, refl, sym, ap, ◌∙◌}
use Rattle.jv_model.specs.Descriptors.{FieldType, MethodType, byte_type, char_type, double_type, float_type, int_type, long_type, short_type, boolean_type, class_type, array_of}
use Rattle.jv_model.specs.ClassData.{ClassData, Member}
use Rattle.jv_model.specs.Code as model
use Rattle.code_model.specs.FirstLocals.{parameter_type, parameter_types, receiver_types, locals_of_type}
use Rattle.method_descriptors.specs.declared.descriptor.ParameterKind.{ParameterKind}
use Rattle.method_descriptors.specs.Parameters.{kind_of_type, kinds_of}
use Rattle.class_pool.specs.ParameterTypes.{type_of_kind, types_from}

type_is : (number : ℕ) (type : FieldType)
    → parameter_type number type ≡ type_of_kind number (kind_of_type type)
type_is number byte_type = refl
type_is number char_type = refl
type_is number double_type = refl
type_is number float_type = refl
type_is number int_type = refl
type_is number long_type = refl
type_is number short_type = refl
type_is number boolean_type = refl
type_is number (class_type name) = refl
type_is number (array_of component) = refl

pub types_are : (number : ℕ) (types : List FieldType)
    → parameter_types number types ≡ types_from number (kinds_of types)
unfolding parameter_types
types_are number [] = refl
types_are number (type ∷ types) = rw (type_is number type, types_are (number + 1) types) refl

pub locals_are : (file : ClassData) (member : Member) (type : Option MethodType)
    (kinds : List ParameterKind) → Some kinds ≡ option_map (λ (t : MethodType). kinds_of t.parameters) type
    → receiver_types file member ++ types_from 0 kinds ≡ locals_of_type file member type
locals_are file member None kinds is = absurd cc
locals_are file member (Some type) kinds is =
    let same : kinds ≡ kinds_of type.parameters = cc in
    ap (λ (types : List (model.MapType ℕ)). receiver_types file member ++ types)
    (ap (types_from 0) same ∙ sym (types_are 0 type.parameters))
