-- Which world of the definitions a `World` is: numbers against names.
use Rattle.std.specs.Prelude.{◌≡◌, ℕ, List, [], ◌∷◌, ◌++◌, Bool, false, not, Option, Some, length, map, position, slice_get, get_or, bytes_eq, IsTrue, nat_lt, option_map, option_and_then, option_to_list}
use Rattle.std.specs.List.{list_all, filter_map, IsDistinct}
use Rattle.world_model.specs.World as model
use Rattle.world_model.specs.Supertypes.{field_order, method_order}
use Rattle.world_model.specs.LookUp.{Found}
use Rattle.link_model.specs.ClassFaults.{has_member_twice}
use Rattle.link_model.specs.SupertypeFaults.{is_cyclic}
use Rattle.link_model.specs.WorldOf as linking
use Rattle.jv_types.specs.Boot.{numbered_class_of, named_class_of}
use Rattle.jv_types.specs.Loaded.{loaded_of}
use Rattle.jv_types.specs.declared.number.ClassNo.{ClassNo}
use Rattle.jv_types.specs.declared.number.MethodNo.{MethodNo}
use Rattle.class_names.specs.declared.signatures.Signature.{Signature}
use Rattle.class_world.specs.MemberTable.{Members}
use Rattle.class_world.specs.declared.class_info.ClassInfo.{ClassInfo}
use Rattle.class_world.specs.declared.class_info.FieldPlace.{FieldPlace}
use Rattle.class_world.specs.declared.class_info.Origin.{Origin}
use Rattle.class_world.specs.declared.class_info.Origin.TheVariants.{Boot, Program}

-- ---- the world

abbrev pub class_of_origin : List (List ℕ) → Origin → model.Class
class_of_origin names (Boot class) = named_class_of names (numbered_class_of class)
class_of_origin names (Program loaded) = linking.class_of (loaded_of loaded)

abbrev pub names_of_infos : List ClassInfo → List (List ℕ)
names_of_infos infos = map (λ (i : ClassInfo). i.name.items) infos

abbrev pub world_of_infos : List ClassInfo → model.World
world_of_infos infos =
    record { classes = map (λ (i : ClassInfo). class_of_origin (names_of_infos infos) i.origin) infos }

-- ---- numbers

abbrev pub names_of : model.World → List (List ℕ)
names_of world = map (λ (c : model.Class). c.name) world.classes

-- the number of the class of a name, where it's there
abbrev pub number_in : List (List ℕ) → List ℕ → Option ClassNo
number_in names name = option_map (λ n. record { 0 = n }) (position (bytes_eq name) names)

abbrev pub number_of : model.World → List ℕ → Option ClassNo
number_of world name = number_in (names_of world) name

-- the name of a class of the world
abbrev pub name_at : model.World → ClassNo → List ℕ
name_at world class = get_or (names_of world) class.0 []

-- the numbers of those names of which a class is there
abbrev pub numbers_of : model.World → List (List ℕ) → List ClassNo
numbers_of world names = filter_map (number_of world) names

-- The numbers in a `ClassInfo` are those of the class's own names.
pub record IsInfo (world : model.World) (class : model.Class) (info : ClassInfo) : Type 0 where
  pub name : info.name.items ≡ class.name
  pub superclass : info.superclass ≡ option_and_then (number_of world) class.superclass
  pub interfaces : info.interfaces.items ≡ numbers_of world class.interfaces
  pub origin : class_of_origin (names_of world) info.origin ≡ class

-- Classes by number, no two of a name, and each with the numbers of its supertypes.
pub record AreInfos (infos : List ClassInfo) : Type 0 where
  pub each_info : (k : ℕ) (info : ClassInfo) → slice_get infos k ≡ Some info
      → IsInfo (world_of_infos infos) (class_of_origin (names_of_infos infos) info.origin) info
  pub names_apart : IsDistinct bytes_eq (names_of (world_of_infos infos))

-- an order of names for each class, by numbers
abbrev pub orders_of : model.World → (List ℕ → List (List ℕ)) → List (List ClassNo)
orders_of world order = map (λ (c : model.Class). numbers_of world (order c.name)) world.classes

-- no class has two members that are the same
abbrev pub HaveMembersOnce : model.World → Type 0
HaveMembersOnce world = IsTrue (list_all (λ (c : model.Class). not (has_member_twice c)) world.classes)

-- no class of the world is above itself
abbrev pub IsAcyclic : model.World → Type 0
IsAcyclic world = (name : List ℕ) → is_cyclic world name ≡ false

-- the numbers of a class's interfaces and then of its superclass
abbrev pub supertypes_of : ClassInfo → List ℕ
supertypes_of info =
    map (λ (c : ClassNo). c.0) info.interfaces.items ++ map (λ (c : ClassNo). c.0) (option_to_list info.superclass)

-- ---- members

abbrev pub spelled : List (List ℕ) → Signature → List ℕ × List ℕ
spelled texts signature = (get_or texts signature.name [], get_or texts signature.descriptor [])

abbrev pub is_spelled : List (List ℕ) → Signature → Bool
is_spelled texts signature =
    list_all (λ n. nat_lt n (length texts)) (signature.name ∷ signature.descriptor ∷ [])

-- the numbers of a name and of a descriptor, where both are texts
abbrev pub signature_of : List (List ℕ) → List ℕ → List ℕ → Option Signature
signature_of texts name descriptor =
    option_and_then (λ n. option_map (λ d. record { name = n; descriptor = d }) (position (bytes_eq descriptor) texts))
    (position (bytes_eq name) texts)

abbrev pub field_signature : model.Field → List ℕ × List ℕ
field_signature field = (field.name, field.descriptor)

abbrev pub method_signature : model.Method → List ℕ × List ℕ
method_signature method = (method.name, method.descriptor)

-- A table has the members that each class declares, and the order in which they are looked for.
pub record IsTable (world : model.World) (texts : List (List ℕ)) (order : List ℕ → List (List ℕ))
    (signatures : model.Class → List (List ℕ × List ℕ)) (members : Members) : Type 0 where
  pub orders : members.orders ≡ orders_of world order
  pub declared : map (map (spelled texts)) members.declared ≡ map signatures world.classes
  pub within : IsTrue (list_all (list_all (is_spelled texts)) members.declared)

-- The parts of a `World` are those of its classes.
pub record IsWorld (infos : List ClassInfo) (names texts : List (List ℕ)) (fields methods : Members) : Type 0 where
  pub each_info : (k : ℕ) (info : ClassInfo) → slice_get infos k ≡ Some info
      → IsInfo (world_of_infos infos) (class_of_origin (names_of_infos infos) info.origin) info
  pub names_are : names ≡ names_of (world_of_infos infos)
  pub names_apart : IsDistinct bytes_eq names
  pub texts_apart : IsDistinct bytes_eq texts
  pub field_table : IsTable (world_of_infos infos) texts (field_order (world_of_infos infos))
      (λ (c : model.Class). map field_signature c.fields) fields
  pub method_table : IsTable (world_of_infos infos) texts (method_order (world_of_infos infos))
      (λ (c : model.Class). map method_signature c.methods) methods
  pub acyclic : IsAcyclic (world_of_infos infos)
  pub once : HaveMembersOnce (world_of_infos infos)

-- ---- places

-- the field at a place, and the name of its class
abbrev pub field_at : model.World → FieldPlace → Option (Found model.Field)
field_at world place =
    option_and_then (λ (class : model.Class). option_map (λ (f : model.Field). record { class = class.name; member = f })
    (slice_get class.fields place.index)) (slice_get world.classes place.class.0)

abbrev pub method_at : model.World → MethodNo → Option (Found model.Method)
method_at world place =
    option_and_then (λ (class : model.Class). option_map (λ (m : model.Method). record { class = class.name; member = m })
    (slice_get class.methods place.index)) (slice_get world.classes place.class.0)
