-- Which method type of the definitions a `Signature` is.
use Rattle.std.specs.Prelude.{◌≡◌, ℕ, List, Some, option_map, map}
use Rattle.std.specs.List.{All}
use Rattle.std.specs.Option.{IfSome}
use Rattle.jv_model.specs.Descriptors.{MethodType}
use Rattle.world_model.specs.World.{World}
use Rattle.code_model.specs.TypeReading.{method_type_of}
use Rattle.typing_model.specs.VerificationType as model
use Rattle.type_rules.specs.declared.types.FieldType.{FieldType}
use Rattle.type_rules.specs.Types.{type_of, IsKnownType, IsKnownElement}
use Rattle.type_rules.specs.Frames.{types_of, AreKnown}
use Rattle.member_types.specs.declared.signatures.Signature.{Signature}

-- the classes in some types are there
abbrev pub AreKnownFields : World → List FieldType → Type 0
AreKnownFields world types = All (λ (type : FieldType). IsKnownElement world type.element) types

-- The descriptor spells that type, and the classes in it are there.
pub record IsSignature (world : World) (descriptor : List ℕ) (signature : Signature) : Type 0 where
  pub type : MethodType
  pub is_type : method_type_of descriptor ≡ Some type
  pub parameters : types_of world signature.parameters.items ≡ map model.type_of type.parameters
  pub result : option_map (type_of world) signature.result ≡ option_map model.type_of type.result
  pub parameters_there : AreKnown world signature.parameters.items
  pub result_there : IfSome signature.result (IsKnownType world)
