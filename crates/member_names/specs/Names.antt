-- The names of methods, and what else a world has at numbers.
use Rattle.std.specs.Prelude.{[], Bool, Option, is_some, nat_lt, bytes_eq, length, option_map, option_and_then, unwrap_or}
use Rattle.std.specs.List.{IsDistinct}
use Rattle.jv_model.specs.Operand.{MemberReference, Operand}
use Rattle.jv_model.specs.Code.{Body}
use Rattle.world_model.specs.World.{World, Method}
use Rattle.world_model.specs.LookUp.{Found, method_found}
use Rattle.jv_types.specs.declared.number.ClassNo.{ClassNo}
use Rattle.jv_types.specs.declared.number.MethodNo.{MethodNo}
use Rattle.link_laws.specs.Above.{IsSound}
use Rattle.class_world.specs.World.{method_at, names_of, HaveMembersOnce}

abbrev pub no_member : MemberReference
no_member = record { class = []; name = []; descriptor = [] }

-- the method of that number, by its names
abbrev pub method_name : World → MethodNo → MemberReference
method_name world method = unwrap_or (option_map method_found (method_at world method)) no_member

-- its code, where it has code
abbrev pub code_at : World → MethodNo → Option (Body Operand)
code_at world method = option_and_then (λ (found : Found Method). found.member.code) (method_at world method)

abbrev pub has_method : World → MethodNo → Bool
has_method world method = is_some (method_at world method)

abbrev pub has_class : World → ClassNo → Bool
has_class world class = nat_lt class.0 (length world.classes)

-- What steps ask of a world: no two classes have one name, no class has two members of one name and descriptor, and what
-- is above a class is found.
pub record IsOrderly (world : World) : Type 0 where
  pub names : IsDistinct bytes_eq (names_of world)
  pub members : HaveMembersOnce world
  pub sound : IsSound world
