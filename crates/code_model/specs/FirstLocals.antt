-- The locals that a call of a method fills (JVMS 4.10.1.6), as frames keep them.
use Rattle.std.specs.Prelude.{ℕ, ◌+◌, List, [], ◌∷◌, ◌++◌, Bool, not, if◌then◌else◌, ◌==◌, Option, Some, None, bytes_eq, codes, bit_and}
use Rattle.jv_model.specs.ClassData.{ClassData, Member}
use Rattle.jv_model.specs.Descriptors.{FieldType, double_type, float_type, long_type, class_type, array_of, MethodType}
use Rattle.jv_model.specs.Code.{MapType, map_top, map_int, map_long, map_this, map_object, map_argument}
use Rattle.code_model.specs.TypeReading.{method_type_of}
use Rattle.jv_model.specs.ConstantPool.{units_at}

-- The type that the parameter with that number has in a frame. A double takes its two words, a
-- float its one.
abbrev pub parameter_type : ℕ → FieldType → MapType ℕ
parameter_type index (class_type name) = map_argument index
parameter_type index (array_of component) = map_argument index
parameter_type index long_type = map_long
parameter_type index double_type = map_long
parameter_type index float_type = map_top
parameter_type index other = map_int

unfoldable pub parameter_types : ℕ → List FieldType → List (MapType ℕ)
parameter_types index [] = []
parameter_types index (type ∷ types) =
    parameter_type index type ∷ parameter_types (index + 1) types

abbrev pub is_static : Member → Bool
is_static method = not (bit_and method.flags 0x0008 == 0)

abbrev pub is_constructor : ClassData → Member → Bool
is_constructor file method = bytes_eq (units_at file.pool method.name) (codes "<init>")

abbrev pub receiver_types : ClassData → Member → List (MapType ℕ)
receiver_types file method =
    if is_static method then []
    else if is_constructor file method then map_this ∷ []
    else map_object file.this_class ∷ []

abbrev pub locals_of_type : ClassData → Member → Option MethodType → List (MapType ℕ)
locals_of_type file method None = []
locals_of_type file method (Some type) =
    receiver_types file method ++ parameter_types 0 type.parameters

-- the locals of the method; none, where its descriptor isn't well formed
abbrev pub first_locals : ClassData → Member → List (MapType ℕ)
first_locals file method =
    locals_of_type file method (method_type_of (units_at file.pool method.descriptor))
