-- What an `Environment` says of a method.
use Rattle.std.specs.Prelude.{◌≡◌, ℕ, List, Option, option_map}
use Rattle.world_model.specs.World.{World}
use Rattle.world_model.specs.BootNames.{is_constructor_name}
use Rattle.typing_model.specs.VerificationType.{type_of as model_type_of}
use Rattle.class_world.specs.World.{name_at}
use Rattle.class_world.specs.declared.class_info.ClassInfo.{ClassInfo}
use Rattle.type_rules.specs.declared.types.FieldType.{FieldType}
use Rattle.type_rules.specs.Types.{type_of, field_type_of}
use Rattle.instruction_types.specs.declared.environment.Environment.{Environment}

-- It's of a method of that class with that name, which returns that type and has a stack of so many words.
pub record Describes (world : World) (class : ClassInfo) (name : List ℕ) (returned : Option FieldType) (max_stack : ℕ)
    (here : Environment) : Type 0 where
  pub stack_is : here.max_stack ≡ max_stack
  pub class_name : name_at world here.class ≡ class.name.items
  pub superclass_is : here.superclass ≡ class.superclass
  pub constructor_is : here.is_constructor ≡ is_constructor_name name
  pub result_is : option_map (type_of world) here.result ≡ option_map model_type_of (option_map (field_type_of world) returned)
