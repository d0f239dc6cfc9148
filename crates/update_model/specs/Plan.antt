-- What an update changes, or why it's refused.
use Rattle.std.specs.Prelude.{ℕ, List, [], ◌∷◌, ◌++◌, Bool, true, false, ◌&&◌, ◌||◌, not, if◌then◌else◌, Option, Some, None, Result, Ok, is_some, is_none, map, filter, find, option_map, option_to_list, flat_map, unwrap_or}
use Rattle.std.specs.Bool.{beq}
use Rattle.std.specs.List.{list_any}
use Rattle.jv_model.specs.Partial.{first_of}
use Rattle.jv_model.specs.Fallible.{unless, ◌>>=◌}
use Rattle.jv_model.specs.Refusal.{Cause, boot_class, narrowed, kind_changed, no_such_method, wrong_transformer}
use Rattle.jv_model.specs.Operand.{MemberReference}
use Rattle.jv_model.specs.Updates.{Listed, MapLine}
use Rattle.world_model.specs.World.{Method, Class, World, class_in, is_interface, is_static_method, user_classes}
use Rattle.world_model.specs.BootNames.{is_reserved}
use Rattle.world_model.specs.Supertypes.{field_order}
use Rattle.world_model.specs.Members.{has_name, method_named}
use Rattle.machine_model.specs.Machine.{Bundle}
use Rattle.update_model.specs.Joining.{named, joining, transformer_class}
use Rattle.update_model.specs.Transformers.{is_object_transformer, is_class_transformer, transformed, object_transformer}
use Rattle.update_model.specs.Changes.{layout_differs, changed_methods, stale_methods}

pub record Plan : Type 0 where
  -- the new world, in which added classes are the last
  pub next : World
  pub added : List Class
  -- old classes that the bundle has, in class order
  pub replaced : List (List ℕ)
  -- old classes whose objects get new contents, in class order
  pub renewed : List (List ℕ)
  -- methods of the old world
  pub changed : List MemberReference
  pub stale : List MemberReference
  pub blacklist : List MemberReference
  pub maps : List MapLine
  pub transformer : Option Class

abbrev pub names_of : List Class → List (List ℕ)
names_of classes = map (λ (c : Class). c.name) classes

-- ---- the new world

-- it has the name of an old class, and is the first of that name
abbrev pub replaces : World → List (List ℕ) → Class → Bool
replaces old earlier class = is_some (class_in old class.name) && not (has_name earlier class.name)

-- of the classes that join, behind those of some names, the ones that replace an old class, and the ones that don't
unfoldable pub joined : Bool → World → List (List ℕ) → List Class → List Class
joined replacing old earlier [] = []
joined replacing old earlier (c ∷ cs) =
    if beq replacing (replaces old earlier c) then c ∷ joined replacing old (c.name ∷ earlier) cs
    else joined replacing old (c.name ∷ earlier) cs

unfoldable pub replacing_classes : World → Bundle → List Class
replacing_classes old bundle = joined true old [] (joining bundle)

unfoldable pub added_classes : World → Bundle → List Class
added_classes old bundle = joined false old [] (joining bundle)

-- the old classes with others in their places, and more behind them
abbrev pub world_with : World → List Class → List Class → World
world_with old replacing added =
    record { classes = map (λ (c : Class). unwrap_or (named c.name replacing) c) old.classes ++ added }

unfoldable pub next_world : World → Bundle → World
next_world old bundle = world_with old (replacing_classes old bundle) (added_classes old bundle)

-- ---- what is refused before linking

abbrev pub boot_fault : Class → Option Cause
boot_fault class = if is_reserved class.name then Some (boot_class class.name) else None

-- an interface in place of a class, or a class in place of an interface
abbrev pub kind_fault : World → Class → Option Cause
kind_fault old class = kind_fault_of (class_in old class.name)
  where
    kind_fault_of : Option Class → Option Cause
    kind_fault_of None = None
    kind_fault_of (Some before) =
        if beq (is_interface before) (is_interface class) then None else Some (kind_changed class.name)

-- the first old class that the old world has above an old class, and the new one hasn't
unfoldable pub lost : World → World → List ℕ → Option (List ℕ)
lost old next name = first_lost (field_order old name) (field_order next name)
  where
    first_lost : List (List ℕ) → List (List ℕ) → Option (List ℕ)
    first_lost before after = find (λ type. has_name before type && not (has_name after type)) (names_of old.classes)

abbrev pub narrowed_fault : World → World → Class → Option Cause
narrowed_fault old next class = option_map (narrowed class.name) (lost old next class.name)

abbrev pub listed_fault : World → Listed → Option Cause
listed_fault old listed = if is_none (method_named old listed.method) then Some (no_such_method listed.line) else None

abbrev pub is_user_name : World → List ℕ → Bool
is_user_name world name = has_name (names_of (user_classes world)) name

-- a method with the name of a transformer that isn't static, hasn't the form, or isn't of an old user class
abbrev pub transformer_method_fault : World → Method → Option Cause
transformer_method_fault old method =
    if not (is_object_transformer method || is_class_transformer method) then None
    else if is_static_method method && list_any (is_user_name old) (option_to_list (transformed method)) then None
    else Some (wrong_transformer method.descriptor)

abbrev pub methods_in : Option Class → List Method
methods_in class = flat_map (λ (c : Class). c.methods) (option_to_list class)

-- ---- the plan

abbrev pub has_object_transformer : Option Class → List ℕ → Bool
has_object_transformer None name = false
has_object_transformer (Some transformer) name = is_some (object_transformer transformer name)

unfoldable pub renewed_classes : World → World → Option Class → List (List ℕ)
renewed_classes old next transformer =
    filter (λ name. layout_differs old next name || has_object_transformer transformer name)
    (names_of (user_classes old))

unfoldable pub replaced_classes : World → Bundle → List (List ℕ)
replaced_classes old bundle = filter (has_name (names_of (replacing_classes old bundle))) (names_of old.classes)

unfoldable pub plan_to : World → World → Bundle → Plan
plan_to old next bundle = record {
  next = next;
  added = added_classes old bundle;
  replaced = replaced_classes old bundle;
  renewed = renewed_classes old next (transformer_class bundle);
  changed = changed_methods old next;
  stale = stale_methods old next;
  blacklist = map (λ (l : Listed). l.method) bundle.blacklist;
  maps = bundle.maps;
  transformer = transformer_class bundle;
}

-- the plan, or what is wrong with the bundle before anything is linked
unfoldable pub compare : World → Bundle → Result Plan Cause
compare old bundle = compare_to (next_world old bundle)
  where
    compare_to : World → Result Plan Cause
    compare_to next = do
      _ ← unless (first_of boot_fault bundle.classes) next
      _ ← unless (first_of (kind_fault old) (replacing_classes old bundle)) next
      _ ← unless (first_of (narrowed_fault old next) (user_classes old)) next
      _ ← unless (first_of (listed_fault old) bundle.blacklist) next
      _ ← unless (first_of (transformer_method_fault old) (methods_in (transformer_class bundle))) next
      Ok (plan_to old next bundle)
