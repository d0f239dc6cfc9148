-- The literals of a world: Strings in constant pools (JVMS 4.4.3, 5.1).
use Rattle.std.specs.Prelude.{ℕ, List, [], ◌++◌, Bool, Option, Some, None, map, flat_map, filter_map, option_to_list, bytes_eq}
use Rattle.std.specs.List.{list_all, list_any}
use Rattle.jv_model.specs.ClassData.{Const, string}
use Rattle.jv_model.specs.ConstantPool.{units_at}
use Rattle.jv_model.specs.Operand.{Operand, string_constant}
use Rattle.jv_model.specs.Instruction.{Instruction, ldc}
use Rattle.jv_model.specs.Code.{Placed, Body}
use Rattle.jv_model.specs.LoadedClass.{LoadedClass}
use Rattle.world_model.specs.World.{World, Class, Method}
use Rattle.world_model.specs.Supertypes.{each_once}
use Rattle.machine_model.specs.Start.{StringConstant, string_constants}
use Rattle.class_world.specs.World.{class_of_origin}
use Rattle.class_world.specs.declared.class_info.Origin.{Origin}

-- the units of an entry that is a String
abbrev pub string_in : List Const → Const → Option (List ℕ)
string_in pool (string text) = Some (units_at pool text)
string_in pool other = None

-- those of a pool, in the order of its entries
abbrev pub pool_strings : List Const → List (List ℕ)
pool_strings pool = filter_map (string_in pool) pool

-- those of a class as it was read; boot classes have none
abbrev pub class_strings : Class → List (List ℕ)
class_strings class = flat_map (λ (l : LoadedClass). pool_strings l.file.pool) (option_to_list class.loaded)

-- the same by where the class comes from, whose names they don't need
abbrev pub origin_strings : Origin → List (List ℕ)
origin_strings origin = class_strings (class_of_origin [] origin)

abbrev pub world_strings : World → List (List ℕ)
world_strings world = flat_map class_strings world.classes

-- each where it first stands, whose place is its number
abbrev pub literals_of : World → List (List ℕ)
literals_of world = each_once [] (world_strings world)

-- ---- the literals that a machine comes to

-- the units of the String that an instruction loads
abbrev pub loaded_by : Instruction Operand → Option (List ℕ)
loaded_by (ldc (string_constant units)) = Some units
loaded_by other = None

abbrev pub body_literals : Body Operand → List (List ℕ)
body_literals body = filter_map (λ (p : Placed Operand). loaded_by p.instruction) body.instructions

abbrev pub method_literals : Method → List (List ℕ)
method_literals method = flat_map body_literals (option_to_list method.code)

-- those that the code of a class loads, and those with which its static fields start
abbrev pub class_literals : Class → List (List ℕ)
class_literals class =
    flat_map method_literals class.methods ++ map (λ (constant : StringConstant). constant.1) (string_constants class)

abbrev pub named_literals : World → List (List ℕ)
named_literals world = flat_map class_literals world.classes

-- each of some units is among the literals
abbrev pub have : List (List ℕ) → List (List ℕ) → Bool
have texts all = list_all (λ (units : List ℕ). list_any (bytes_eq units) texts) all
