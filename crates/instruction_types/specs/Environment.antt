-- Which environment of the definitions an `Environment` is, in a world.
use Rattle.std.specs.Prelude.{◌≡◌, Some, option_map}
use Rattle.std.specs.Option.{IfSome}
use Rattle.world_model.specs.World.{World}
use Rattle.world_model.specs.BootNames.{java_object, java_string, java_throwable}
use Rattle.typing_model.specs.VerificationType.{type_of as model_type_of}
use Rattle.typing_model.specs.Environment as model
use Rattle.typing_model.specs.Environment.{is_constructor}
use Rattle.class_world.specs.World.{number_of, name_at}
use Rattle.type_rules.specs.Types.{type_of, IsKnown, IsKnownType}
use Rattle.instruction_types.specs.declared.environment.Environment.{Environment}

-- The environment by names is the one by numbers.
pub record IsEnvironment (world : World) (here : Environment) (e : model.Environment) : Type 0 where
  pub world_is : e.world ≡ world
  pub max_stack : e.body.max_stack ≡ here.max_stack
  pub class_name : e.class.name ≡ name_at world here.class
  pub superclass : e.class.superclass ≡ option_map (name_at world) here.superclass
  pub constructor : is_constructor e ≡ here.is_constructor
  pub result_is : option_map model_type_of e.type.result ≡ option_map (type_of world) here.result

-- The classes that it names are there.
pub record IsReady (world : World) (here : Environment) : Type 0 where
  pub class_there : IsKnown world here.class
  pub superclass_there : IfSome here.superclass (IsKnown world)
  pub result_there : IfSome here.result (IsKnownType world)
  pub object : number_of world java_object ≡ Some here.object
  pub string : number_of world java_string ≡ Some here.string
  pub throwable : number_of world java_throwable ≡ Some here.throwable
