-- The class that declares a member at a place.
use Rattle.std.proofs.Common.{◌≡◌, ℕ, ◌<◌, List, Option, Some, None, length, slice_get, option_map, refl, ap, sym, ◌∙◌}
use Rattle.std.specs.Prelude.{option_and_then}
use Rattle.std.proofs.lemmas.Option.{slice_get_within}
use Rattle.world_model.specs.World.{Class, World}
use Rattle.world_model.specs.LookUp.{Found}

module _ {A : Type 0} (members : Class → List A) (world : World) (number index : ℕ) where
  -- the member, with the name of its class
  abbrev pub in_class : Class → Option (Found A)
  in_class class = option_map (λ (member : A). record { class = class.name; member = member }) (slice_get (members class) index)

  abbrev pub member_there : Option (Found A)
  member_there = option_and_then in_class (slice_get world.classes number)

  -- where a member was found there, its class is the one of that number
  pub record IsDeclaring (found : Option (Found A)) (class : Class) : Type 0 where
    pub there : slice_get world.classes number ≡ Some class
    pub named : option_map (λ (f : Found A). f.class) found ≡ Some class.name

  found_in : (class : Class) (found : Found A) (member : Option A) → slice_get (members class) index ≡ member
      → in_class class ≡ Some found → found.class ≡ class.name
  found_in class found None at is =
      let none : in_class class ≡ None = ap (option_map (λ (m : A). record { class = class.name; member = m })) at in
      absurd cc
  found_in class found (Some member) at is =
      let some : in_class class ≡ Some (record { class = class.name; member = member }) =
      ap (option_map (λ (m : A). record { class = class.name; member = m })) at in
      let same : found ≡ record { class = class.name; member = member } = cc in
      ap (λ (f : Found A). f.class) same

  pub declaring : (found : Option (Found A)) → Some member_there ≡ option_map Some found → (class : Class) × IsDeclaring found class
  declaring None is = absurd cc
  declaring (Some found) is = by (slice_get world.classes number) refl
    where
      by : (class : Option Class) → slice_get world.classes number ≡ class → (c : Class) × IsDeclaring (Some found) c
      by None at =
          let none : member_there ≡ None = ap (option_and_then in_class) at in
          absurd cc
      by (Some class) at =
          let some : in_class class ≡ Some found = cc in (
            class,
            record { there = at; named = ap Some (found_in class found (slice_get (members class) index) refl some) },
          )

  pub declaring_inside : (found : Option (Found A)) → Some member_there ≡ option_map Some found → number < length world.classes
  declaring_inside found is =
      let class = declaring found is in slice_get_within world.classes number class.0 class.1.there
