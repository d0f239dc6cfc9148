-- What a descriptor says of parameters, as far as frames tell their types apart.
use Rattle.std.specs.Prelude.{ℕ, zero, suc, List, [], ◌∷◌, Bool, false, ◌==◌, option_map, map, Option}
use Rattle.std.specs.Borrow.{Bor}
use Rattle.jv_model.specs.Descriptors.{FieldType, double_type, float_type, long_type, class_type, array_of}
use Rattle.code_model.specs.TypeReading.{Front}
use Rattle.method_descriptors.specs.declared.descriptor.ParameterKind.{ParameterKind}
use Rattle.method_descriptors.specs.declared.descriptor.ParameterKind.TheVariants.{Int, Long, Float, Double, Reference}

-- what a type is in a frame
abbrev pub kind_of_type : FieldType → ParameterKind
kind_of_type (class_type name) = Reference
kind_of_type (array_of component) = Reference
kind_of_type long_type = Long
kind_of_type double_type = Double
kind_of_type float_type = Float
kind_of_type other = Int

abbrev pub kinds_of : List FieldType → List ParameterKind
kinds_of types = map kind_of_type types

abbrev pub kind_front : Front FieldType → Front ParameterKind
kind_front front = option_map (λ read. (kind_of_type read.0, read.1)) front

abbrev pub kinds_front : Front (List FieldType) → Front (List ParameterKind)
kinds_front front = option_map (λ read. (kinds_of read.0, read.1)) front

-- these parameters, where there are units behind them
abbrev pub behind_kinds : List ParameterKind → Option (Bor (List ℕ)) → Front (List ParameterKind)
behind_kinds kinds behind = option_map (λ (rest : Bor (List ℕ)). (kinds, rest.now)) behind

abbrev pub words_of_kind : ParameterKind → ℕ
words_of_kind Long = 2
words_of_kind Double = 2
words_of_kind other = 1

-- a unit stands first
abbrev pub is_there : ℕ → List ℕ → Bool
is_there unit [] = false
is_there unit (first ∷ others) = first == unit

-- ---- arrays

-- an array of so many dimensions more
abbrev pub nested : ℕ → FieldType → FieldType
nested zero type = type
nested (suc dimensions) type = nested dimensions (array_of type)

-- a type behind so many brackets
abbrev pub arrays : ℕ → Front FieldType → Front FieldType
arrays dimensions front = option_map (λ read. (nested dimensions read.0, read.1)) front
