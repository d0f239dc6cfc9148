-- Which methods may be selected.
use Rattle.std.specs.Prelude.{ℕ, List, [], Bool, ◌||◌, not, map}
use Rattle.world_model.specs.World.{World, Class, Method, has_flag, acc_static, acc_private, is_static_method}
use Rattle.world_model.specs.Selection.{is_private}
use Rattle.class_world.specs.World.{class_of_origin}
use Rattle.class_world.specs.declared.class_info.Origin.{Origin}

-- the methods of a class, which name no class by number
abbrev pub methods_in : Origin → List Method
methods_in origin = (class_of_origin [] origin).methods

abbrev pub flags_select : ℕ → Bool
flags_select flags = not (has_flag acc_static flags || has_flag acc_private flags)

-- neither static nor private
abbrev pub is_selectable : Method → Bool
is_selectable method = not (is_static_method method || is_private method)

abbrev pub selectable_in : World → List (List Bool)
selectable_in world = map (λ (c : Class). map is_selectable c.methods) world.classes
