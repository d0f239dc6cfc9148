-- Looking up where no class of the name is there.
use Rattle.std.proofs.Common.{◌≡◌, ℕ, zero, suc, List, [], ◌∷◌, ◌++◌, Option, None, length, ap, ◌∙◌, refl}
use Rattle.std.specs.Prelude.{option_to_list}
use Rattle.std.specs.List.{flat_map}
use Rattle.world_model.specs.World.{Class, World, class_in, declared_field, declared_method}
use Rattle.world_model.specs.Supertypes.{superclass_of, interfaces_of, each_once, chain_within, interfaces_within, field_order_within}
use Rattle.world_model.specs.LookUp.{member_in, found_or, first_declared, find_field, find_method}
use Rattle.class_world.specs.World.{number_of}
use Rattle.use_faults.proofs.ByName.{no_class}

module _ (world : World) (name : List ℕ) (none : class_in world name ≡ None) where
  -- nothing is above it
  no_superclass : superclass_of world name ≡ []
  no_superclass = ap (λ (o : Option Class). flat_map (λ (c : Class). option_to_list c.superclass) (option_to_list o)) none

  no_interfaces : interfaces_of world name ≡ []
  no_interfaces = ap (λ (o : Option Class). flat_map (λ (c : Class). c.interfaces) (option_to_list o)) none

  -- and nothing is found there
  alone : {A : Type 0} (declared : Class → Option A) → first_declared declared world (each_once [] (name ∷ [])) ≡ None
  unfolding first_declared each_once
  alone declared = ap (λ (o : Option Class). found_or name (member_in declared o) (first_declared declared world [])) none

  nowhere : {A : Type 0} (declared : Class → Option A) → first_declared declared world (each_once [] []) ≡ None
  unfolding first_declared each_once
  nowhere declared = refl

  no_field_within : (n : ℕ) (field descriptor : List ℕ)
      → first_declared (declared_field field descriptor) world (each_once [] (field_order_within n world name)) ≡ None
  unfolding field_order_within
  no_field_within zero field descriptor = nowhere (declared_field field descriptor)
  no_field_within (suc n) field descriptor =
      ap (λ (ns : List (List ℕ)). first_declared (declared_field field descriptor) world (each_once [] ns)) order
      ∙ alone (declared_field field descriptor)
    where
      order : name ∷ flat_map (field_order_within n world) (interfaces_of world name)
          ++ flat_map (field_order_within n world) (superclass_of world name) ≡ name ∷ []
      order = λ i. name ∷ flat_map (field_order_within n world) (no_interfaces i)
          ++ flat_map (field_order_within n world) (no_superclass i)

  no_method_within : (n : ℕ) (method descriptor : List ℕ)
      → first_declared (declared_method method descriptor) world
      (each_once [] (chain_within n world name ++ interfaces_within n world name)) ≡ None
  unfolding chain_within interfaces_within
  no_method_within zero method descriptor = nowhere (declared_method method descriptor)
  no_method_within (suc n) method descriptor =
      ap (λ (ns : List (List ℕ)). first_declared (declared_method method descriptor) world (each_once [] ns)) order
      ∙ alone (declared_method method descriptor)
    where
      order : (name ∷ flat_map (chain_within n world) (superclass_of world name))
          ++ (flat_map (λ i. i ∷ interfaces_within n world i) (interfaces_of world name)
          ++ flat_map (interfaces_within n world) (superclass_of world name)) ≡ name ∷ []
      order = λ i. (name ∷ flat_map (chain_within n world) (no_superclass i))
          ++ (flat_map (λ j. j ∷ interfaces_within n world j) (no_interfaces i)
          ++ flat_map (interfaces_within n world) (no_superclass i))

pub no_field : (world : World) (name field descriptor : List ℕ) → None ≡ number_of world name
    → find_field world name field descriptor ≡ None
no_field world name field descriptor is =
    no_field_within world name (no_class world name is) (length world.classes) field descriptor

pub no_method : (world : World) (name method descriptor : List ℕ) → None ≡ number_of world name
    → find_method world name method descriptor ≡ None
no_method world name method descriptor is =
    no_method_within world name (no_class world name is) (length world.classes) method descriptor
