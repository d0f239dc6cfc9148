-- The orders have the class and what is above it, and no other.
use Rattle.std.proofs.Common.{◌≡◌, ℕ, zero, suc, List, [], ◌∷◌, ◌++◌, length, sym, subst, inl, inr}
use Rattle.std.specs.Prelude.{IsTrue, ◌⊎◌, ◌↔◌, flat_map, bytes_eq}
use Rattle.std.specs.List.{IsDistinct}
use Rattle.world_model.specs.World.{World}
use Rattle.world_model.specs.Supertypes.{superclass_of, interfaces_of, chain_within, interfaces_within, field_order_within, chain, field_order, method_order, is_sub}
use Rattle.link_laws.specs.Above.{has, is_there, IsDirectly, IsAbove, IsAtOrAbove, IsSound, IsWithin}
use Rattle.link_laws.proofs.Names.{has_head, has_tail, has_cases, has_append, has_left, has_right, has_from, from_has}
use Rattle.link_laws.proofs.Once.{each_once_keeps, each_once_adds_none, each_once_is_distinct}
use Rattle.link_laws.proofs.Above.{directly_above, first_step, classes_are_enough}

-- ---- what is in them is above

by_superclass : (world : World) (name between : List ℕ) → IsTrue (has (superclass_of world name) between) → IsDirectly world name between
by_superclass world name between h = has_left (superclass_of world name) (interfaces_of world name) between h

by_interface : (world : World) (name between : List ℕ) → IsTrue (has (interfaces_of world name) between) → IsDirectly world name between
by_interface world name between h = has_right (superclass_of world name) (interfaces_of world name) between h

pub chain_above : (most : ℕ) (world : World) (name above : List ℕ) → IsTrue (has (chain_within most world name) above) → IsAtOrAbove world name above
unfolding chain_within
chain_above zero world name above h = absurd cc
chain_above (suc most) world name above h = elim (has_cases name above (flat_map (chain_within most world) (superclass_of world name)) h) [
  | inl same ↦ inl same
  | inr more ↦
      let found = has_from (chain_within most world) (superclass_of world name) above more in
      inr (directly_above world name found.0 above (by_superclass world name found.0 found.1) (chain_above most world found.0 above found.2))
]

above_or : (world : World) (name between above : List ℕ) → IsDirectly world name between → IsTrue (has (between ∷ []) above) ⊎ IsAbove world between above → IsAbove world name above
above_or world name between above step (inl here) = elim (has_cases between above [] here) [
  | inl same ↦ directly_above world name between above step (inl same)
  | inr none ↦ absurd cc
]
above_or world name between above step (inr more) = directly_above world name between above step (inr more)

pub interfaces_above : (most : ℕ) (world : World) (name above : List ℕ) → IsTrue (has (interfaces_within most world name) above) → IsAbove world name above
unfolding interfaces_within
interfaces_above zero world name above h = absurd cc
interfaces_above (suc most) world name above h = elim (has_append (flat_map (λ i. i ∷ interfaces_within most world i) (interfaces_of world name)) (flat_map (interfaces_within most world) (superclass_of world name)) above h) [
  | inl own ↦
      let found = has_from (λ i. i ∷ interfaces_within most world i) (interfaces_of world name) above own in
      directly_above world name found.0 above (by_interface world name found.0 found.1) (elim (has_cases found.0 above (interfaces_within most world found.0) found.2) [
        | inl same ↦ inl same
        | inr more ↦ inr (interfaces_above most world found.0 above more)
      ])
  | inr upper ↦
      let found = has_from (interfaces_within most world) (superclass_of world name) above upper in
      directly_above world name found.0 above (by_superclass world name found.0 found.1) (inr (interfaces_above most world found.0 above found.2))
]

pub field_order_above : (most : ℕ) (world : World) (name above : List ℕ) → IsTrue (has (field_order_within most world name) above) → IsAtOrAbove world name above
unfolding field_order_within
field_order_above zero world name above h = absurd cc
field_order_above (suc most) world name above h = elim (has_cases name above (flat_map (field_order_within most world) (interfaces_of world name) ++ flat_map (field_order_within most world) (superclass_of world name)) h) [
  | inl same ↦ inl same
  | inr more ↦ inr (elim (has_append (flat_map (field_order_within most world) (interfaces_of world name)) (flat_map (field_order_within most world) (superclass_of world name)) above more) [
    | inl own ↦
        let found = has_from (field_order_within most world) (interfaces_of world name) above own in
        directly_above world name found.0 above (by_interface world name found.0 found.1) (field_order_above most world found.0 above found.2)
    | inr upper ↦
        let found = has_from (field_order_within most world) (superclass_of world name) above upper in
        directly_above world name found.0 above (by_superclass world name found.0 found.1) (field_order_above most world found.0 above found.2)
  ])
]

-- ---- what is above is in them

pub above_in_field_order : (most : ℕ) (world : World) (name above : List ℕ) → IsWithin world most name → IsAtOrAbove world name above → IsTrue (has (field_order_within most world name) above)
unfolding field_order_within
above_in_field_order zero world name above is h = absurd is
above_in_field_order (suc most) world name above is (inl same) = subst (λ (x : List ℕ). IsTrue (has (field_order_within (suc most) world name) x)) (sym same) (has_head name _)
above_in_field_order (suc most) world name above is (inr up) =
    let first = first_step world name above up in
    let rest = above_in_field_order most world first.0 above (is first.0 first.1) first.2 in
    has_tail name above _ (elim (has_append (superclass_of world name) (interfaces_of world name) first.0 first.1) [
      | inl upper ↦ has_right (flat_map (field_order_within most world) (interfaces_of world name)) _ above (from_has (field_order_within most world) (superclass_of world name) first.0 above upper rest)
      | inr own ↦ has_left (flat_map (field_order_within most world) (interfaces_of world name)) _ above (from_has (field_order_within most world) (interfaces_of world name) first.0 above own rest)
    ])

-- ---- a class's orders

-- Fields are looked for in the class and in what is above it.
pub field_order_is_closure : (world : World) (below above : List ℕ) → IsSound world → IsTrue (is_there world below)
    → IsTrue (has (field_order world below) above) ↔ IsAtOrAbove world below above
field_order_is_closure world below above sound there = (
  λ h. field_order_above (length world.classes) world below above (each_once_adds_none _ above h),
  λ h. each_once_keeps _ above (above_in_field_order (length world.classes) world below above (classes_are_enough world below sound there) h),
)

-- Each name of `is_sub` is at or above the first, in any world.
pub sub_is_above : (world : World) (below above : List ℕ) → IsTrue (is_sub world below above)
    → IsAtOrAbove world below above
sub_is_above world below above h = field_order_above (length world.classes) world below above (each_once_adds_none _ above h)

-- `is_sub` is the reflexive and transitive closure of 'is the superclass or an interface of'.
pub is_sub_is_closure : (world : World) (below above : List ℕ) → IsSound world → IsTrue (is_there world below)
    → IsTrue (is_sub world below above) ↔ IsAtOrAbove world below above
is_sub_is_closure world below above sound there = field_order_is_closure world below above sound there

-- Methods are looked for in the class and in what is above it, in any world.
pub method_order_above : (world : World) (below above : List ℕ) → IsTrue (has (method_order world below) above)
    → IsAtOrAbove world below above
method_order_above world below above h =
    elim (has_append (chain world below) (interfaces_within (length world.classes) world below) above (each_once_adds_none _ above h)) [
      | inl up ↦ chain_above (length world.classes) world below above up
      | inr side ↦ inr (interfaces_above (length world.classes) world below above side)
    ]

pub field_order_is_distinct : (world : World) (name : List ℕ) → IsDistinct bytes_eq (field_order world name)
field_order_is_distinct world name = each_once_is_distinct [] _

pub method_order_is_distinct : (world : World) (name : List ℕ) → IsDistinct bytes_eq (method_order world name)
method_order_is_distinct world name = each_once_is_distinct [] _
