-- Types by number, where the classes in them are there.
use Rattle.std.specs.Prelude.{ℕ, ◌+◌, List, [], ◌∷◌, Option, Some, None, option_map}
use Rattle.jv_model.specs.Partial.{◌>>=◌}
use Rattle.jv_model.specs.Descriptors as descriptors
use Rattle.jv_model.specs.Descriptors.{byte_type, char_type, double_type, float_type, int_type, long_type, short_type, boolean_type, class_type, array_of}
use Rattle.world_model.specs.World.{World}
use Rattle.code_model.specs.TypeReading.{Front}
use Rattle.class_world.specs.World.{number_of}
use Rattle.type_rules.specs.declared.types.ElementType.{ElementType}
use Rattle.type_rules.specs.declared.types.ElementType.TheVariants as elements
use Rattle.type_rules.specs.declared.types.FieldType.{FieldType}

-- a type that is no array
abbrev pub plain : ElementType → FieldType
plain element = record { dimensions = 0; element = element }

-- an array of so many dimensions more
abbrev pub in_array : ℕ → FieldType → FieldType
in_array more type = record { dimensions = type.dimensions + more; element = type.element }

abbrev pub number_of_type : World → descriptors.FieldType → Option FieldType
number_of_type world byte_type = Some (plain elements.Byte)
number_of_type world char_type = Some (plain elements.Char)
number_of_type world double_type = Some (plain elements.Double)
number_of_type world float_type = Some (plain elements.Float)
number_of_type world int_type = Some (plain elements.Int)
number_of_type world long_type = Some (plain elements.Long)
number_of_type world short_type = Some (plain elements.Short)
number_of_type world boolean_type = Some (plain elements.Boolean)
number_of_type world (class_type name) = option_map (λ class. plain (elements.Class class)) (number_of world name)
number_of_type world (array_of component) = option_map (in_array 1) (number_of_type world component)

-- a type, and the units after it
abbrev pub numbered : World → Front descriptors.FieldType → Front FieldType
numbered world front = front >>= λ read. option_map (λ type. (type, read.1)) (number_of_type world read.0)

-- all of some types
abbrev pub numbers_of_types : World → List descriptors.FieldType → Option (List FieldType)
numbers_of_types world [] = Some []
numbers_of_types world (type ∷ types) = do
  first ← number_of_type world type
  others ← numbers_of_types world types
  Some (first ∷ others)

abbrev pub all_numbered : World → Front (List descriptors.FieldType) → Front (List FieldType)
all_numbered world front = front >>= λ read. option_map (λ types. (types, read.1)) (numbers_of_types world read.0)

-- what a method returns
abbrev pub number_of_result : World → Option descriptors.FieldType → Option (Option FieldType)
number_of_result world None = Some None
number_of_result world (Some type) = option_map Some (number_of_type world type)
