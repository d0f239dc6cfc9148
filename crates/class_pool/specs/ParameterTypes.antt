-- The types of a method's parameters in a frame.
use Rattle.std.specs.Prelude.{ℕ, ◌+◌, List, [], ◌∷◌}
use Rattle.jv_model.specs.Code as model
use Rattle.method_descriptors.specs.declared.descriptor.ParameterKind.{ParameterKind}
use Rattle.method_descriptors.specs.declared.descriptor.ParameterKind.TheVariants.{Int, Long, Float, Double, Reference}

-- the type of the parameter with that number, in a frame
abbrev pub type_of_kind : ℕ → ParameterKind → model.MapType ℕ
type_of_kind number Reference = model.map_argument number
type_of_kind number Long = model.map_long
type_of_kind number Double = model.map_long
type_of_kind number Float = model.map_top
type_of_kind number Int = model.map_int

-- those of parameters from that number on
abbrev pub types_from : ℕ → List ParameterKind → List (model.MapType ℕ)
types_from number [] = []
types_from number (kind ∷ kinds) = type_of_kind number kind ∷ types_from (number + 1) kinds
