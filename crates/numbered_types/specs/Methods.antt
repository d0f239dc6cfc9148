-- Types of methods by number, where the classes in them are there.
use Rattle.std.specs.Prelude.{ℕ, List, Option, Some, option_map}
use Rattle.std.specs.Borrow.{Bor}
use Rattle.jv_model.specs.Partial.{◌>>=◌}
use Rattle.jv_model.specs.Descriptors as descriptors
use Rattle.world_model.specs.World.{World}
use Rattle.code_model.specs.TypeReading.{Front}
use Rattle.type_rules.specs.declared.types.FieldType.{FieldType}
use Rattle.numbered_types.specs.declared.method_types.MethodType.{MethodType}
use Rattle.numbered_types.specs.Numbered.{numbers_of_types, number_of_result}

-- the types of the parameters, and of the result where there is one
abbrev pub Types : Type 0
Types = List FieldType × Option FieldType

abbrev pub method_shown : MethodType → Types
method_shown type = (type.parameters.items, type.result)

abbrev pub number_of_method : World → descriptors.MethodType → Option Types
number_of_method world type = do
  parameters ← numbers_of_types world type.parameters
  result ← number_of_result world type.result
  Some (parameters, result)

-- these types, where there are units after them
abbrev pub types_before : List FieldType → Option (Bor (List ℕ)) → Front (List FieldType)
types_before types behind = option_map (λ (rest : Bor (List ℕ)). (types, rest.now)) behind
