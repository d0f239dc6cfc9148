-- Which types and which code of the definitions these are.
use Rattle.std.specs.Prelude.{◌≡◌, ℕ, List, Some, map, option_map}
use Rattle.std.specs.Option.{IfSome}
use Rattle.jv_model.specs.Descriptors as descriptors
use Rattle.world_model.specs.World.{World, is_static_method}
use Rattle.code_model.specs.TypeReading.{method_type_of}
use Rattle.code_model.specs.Names.{named}
use Rattle.typing_model.specs.Environment as model
use Rattle.jv_types.specs.ClassData.{pool_of}
use Rattle.jv_types.specs.Code.{body_of}
use Rattle.type_rules.specs.declared.types.FieldType.{FieldType}
use Rattle.type_rules.specs.Types.{field_type_of, IsKnownElement}
use Rattle.numbered_types.specs.declared.method_types.MethodType.{MethodType}
use Rattle.member_types.specs.Signatures.{AreKnownFields}
use Rattle.map_frames.specs.declared.method.MethodCode.{MethodCode}

-- The descriptor spells that type, and the classes in it are there.
pub record IsMethodType (world : World) (descriptor : List ℕ) (types : MethodType) : Type 0 where
  pub type : descriptors.MethodType
  pub is_type : method_type_of descriptor ≡ Some type
  pub parameters : map (field_type_of world) types.parameters.items ≡ type.parameters
  pub result : option_map (field_type_of world) types.result ≡ type.result
  pub parameters_there : AreKnownFields world types.parameters.items
  pub result_there : IfSome types.result (λ (t : FieldType). IsKnownElement world t.element)

-- The parameters by name are those by number.
pub record HasParameters (world : World) (code : MethodCode) (e : model.Environment) : Type 0 where
  pub is_type : method_type_of e.method.descriptor ≡ Some e.type
  pub parameters : map (field_type_of world) code.parameters.now ≡ e.type.parameters

-- It is the code of the method.
pub record HasMethodCode (world : World) (code : MethodCode) (e : model.Environment) : Type 0 where
  pub static : is_static_method e.method ≡ code.is_static
  pub has_parameters : HasParameters world code e
  pub body : e.body ≡ named (pool_of code.pool.now) e.method.descriptor (body_of code.body.now)
