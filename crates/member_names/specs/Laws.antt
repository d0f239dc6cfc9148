-- What look-up by the name of a method gives.
use Rattle.std.specs.Prelude.{◌≡◌, Some}
use Rattle.world_model.specs.World.{World, Method}
use Rattle.world_model.specs.LookUp.{Found}
use Rattle.world_model.specs.Members.{method_named}
use Rattle.jv_types.specs.declared.number.MethodNo.{MethodNo}
use Rattle.class_world.specs.World.{method_at}
use Rattle.member_names.specs.Names.{IsOrderly, method_name}

-- The method of a number is the one that its class declares by its name and descriptor.
abbrev pub MethodsAreNamed : Type 0
MethodsAreNamed = (world : World) → IsOrderly world → (number : MethodNo) (found : Found Method)
    → method_at world number ≡ Some found → method_named world (method_name world number) ≡ Some found.member
