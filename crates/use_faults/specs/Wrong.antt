-- What is wrong with one class, and with one use.
use Rattle.std.specs.Prelude.{◌≡◌, ℕ, List, [], ◌∷◌, if◌then◌else◌, Option, Some, None, filter, Bool, ◌&&◌, not, length, flat_map}
use Rattle.std.specs.List.{list_any}
use Rattle.jv_model.specs.Partial.{first_of, passes, least}
use Rattle.jv_model.specs.Refusal.{Cause}
use Rattle.jv_model.specs.ClassData.{ClassData, Const, Member}
use Rattle.jv_model.specs.ConstantPool.{units_at}
use Rattle.world_model.specs.World.{World, Class, is_user, loaded_classes, class_in, declared_method, has_flag, acc_static, acc_private}
use Rattle.world_model.specs.BootNames.{is_constructor_name}
use Rattle.world_model.specs.Supertypes.{chain_within}
use Rattle.link_model.specs.Uses.{Used}
use Rattle.link_model.specs.UseFaults.{resolves, use_fault}
use Rattle.link_model.specs.SupertypeFaults.{final_fault, is_final_method}
use Rattle.jv_types.specs.declared.number.ClassNo.{ClassNo}
use Rattle.class_world.specs.World.{number_of, name_at}
use Rattle.class_faults.specs.declared.uses.Used as read
use Rattle.class_faults.specs.Uses.{used_of}

abbrev pub wrong_index : World → ClassData → Used → List ℕ
wrong_index world file used = if resolves world file used.index used.use_as then [] else used.index ∷ []

-- the same of a use that was read
abbrev pub wrong_read : World → ClassData → read.Used → List ℕ
wrong_read world file used = wrong_index world file (used_of used)

-- what is wrong with the entries that a class of the program uses
abbrev pub use_fault_at : World → Class → Option Cause
use_fault_at world class = first_of (use_fault world) (loaded_classes (filter is_user (class ∷ [])))

abbrev pub final_fault_at : World → Class → Option Cause
final_fault_at world class = first_of (final_fault world) (filter is_user (class ∷ []))

-- ---- upwards

-- the class of that number, its superclass, and so on upwards, at most so many
abbrev pub upwards : ℕ → World → Option ClassNo → List (List ℕ)
upwards most world None = []
upwards most world (Some class) = chain_within most world (name_at world class)

-- it's the number of the class that its name finds
abbrev pub IsKnown : World → ClassNo → Type 0
IsKnown world class = number_of world (name_at world class) ≡ Some class

-- ---- final methods

-- a class itself declares a final method with that name and descriptor
abbrev pub declares_final : List ℕ → List ℕ → Class → Bool
declares_final name descriptor class = passes is_final_method (declared_method name descriptor class)

-- the class of that name does
abbrev pub is_final_at : World → List ℕ → List ℕ → List ℕ → Bool
is_final_at world name descriptor class = passes (declares_final name descriptor) (class_in world class)

-- a method overrides a final one of a class of that number or above it
abbrev pub overrides_at : World → Option ClassNo → List Const → Member → Bool
overrides_at world superclass pool member =
    not (has_flag acc_static member.flags) && not (has_flag acc_private member.flags)
    && not (is_constructor_name (units_at pool member.name))
    && list_any (is_final_at world (units_at pool member.name) (units_at pool member.descriptor))
    (upwards (length world.classes) world superclass)
