-- Objects stand for what is above their classes.
use Rattle.std.proofs.Common.{◌≡◌, ℕ, true, List, refl, sym, subst, inl, inr}
use Rattle.std.specs.Prelude.{IsTrue, ◌||◌, bytes_eq}
use Rattle.std.proofs.lemmas.Bool.{or_left, or_right}
use Rattle.jv_model.specs.Descriptors.{FieldType, class_type, array_of}
use Rattle.world_model.specs.World.{World}
use Rattle.world_model.specs.BootNames.{java_object}
use Rattle.world_model.specs.Supertypes.{superclass_of, interfaces_of, chain, is_sub}
use Rattle.world_model.specs.Selection.{classes_above}
use Rattle.link_laws.specs.Above.{has, IsDirectly, IsAbove, IsAtOrAbove, directly}
use Rattle.link_laws.proofs.Above.{above_above, first_step}
use Rattle.link_laws.proofs.Names.{text_same, has_from, has_left}
use Rattle.link_laws.proofs.Orders.{chain_above}
use Rattle.typing_model.specs.Assignable.{class_assignable, component_assignable, names_interface}
use Rattle.typing_model.specs.VerificationType.{is_same_field_type}
use Rattle.machine_model.specs.TypedValues.{may_stand}
use Rattle.frame_laws.proofs.Ordered.{above_is_sub, has_orders}
use Rattle.frame_laws.proofs.Subsumption.{stands_on}
use Rattle.machine_laws.specs.Runnable.{is_object_type, class_of_type}
use Rattle.linked_laws.specs.Worlds.{IsLinkedWorld}
use Rattle.linked_world_laws.proofs.Orders.{world_is_orderly}

module _ (world : World) (linked : IsLinkedWorld world) where
  -- a class goes to what is at or above it
  above_goes : (name above : List ℕ) → IsAtOrAbove world name above → class_assignable world name above ≡ true
  above_goes name above (inl same) =
      or_left (bytes_eq name above || names_interface world above) (is_sub world name above)
      (or_left (bytes_eq name above) (names_interface world above) (text_same name above (sym same)))
  above_goes name above (inr up) =
      or_right (bytes_eq name above || names_interface world above) (is_sub world name above)
      (above_is_sub world (world_is_orderly world linked) name above up)

  -- what stands for a class stands for what is at or above it
  pub stands_above : (own : FieldType) (name above : List ℕ) → may_stand world own (class_type name) ≡ true → IsAtOrAbove world name above
      → may_stand world own (class_type above) ≡ true
  unfolding component_assignable
  stands_above own name above stands way =
      stands_on world (has_orders world (world_is_orderly world linked)) (class_type name) (class_type above) own stands (above_goes name above way)

  pub object_above : (above : List ℕ) → IsAtOrAbove world java_object above → above ≡ java_object
  object_above above (inl same) = same
  object_above above (inr up) = let step = first_step world java_object above up in absurd ((world_is_orderly world linked).topmost step.0 step.1)

  -- an object stands for what is at or above the class whose methods it has
  pub own_above : (own : FieldType) (above : List ℕ) → is_object_type own ≡ true → IsAtOrAbove world (class_of_type own) above
      → may_stand world own (class_type above) ≡ true
  unfolding may_stand
  own_above (class_type name) above is way = or_right (bytes_eq above java_object) (class_assignable world name above) (above_goes name above way)
  own_above (array_of component) above is way =
      or_left (bytes_eq above java_object) (names_interface world above) (text_same above java_object (object_above above way))
  own_above other above is way = absurd cc

  -- what stands for a class is an object
  pub is_object : (own : FieldType) (name : List ℕ) → may_stand world own (class_type name) ≡ true → is_object_type own ≡ true
  unfolding may_stand is_same_field_type
  is_object (class_type own) name stands = refl
  is_object (array_of component) name stands = refl
  is_object other name stands = absurd cc

  -- what is on the way upwards from a superclass is above
  pub above_class : (name above : List ℕ) → IsTrue (has (classes_above world name) above) → IsAtOrAbove world name above
  above_class name above h =
      let found = has_from (chain world) (superclass_of world name) above h in
      let step : IsDirectly world name found.0 = has_left (superclass_of world name) (interfaces_of world name) found.0 found.1 in
      elim (chain_above _ world found.0 above found.2) [
        | inl same ↦ inr (subst (λ (x : List ℕ). IsAbove world name x) (sym same) (directly name found.0 step))
        | inr up ↦ inr (above_above world name found.0 above (directly name found.0 step) up)
      ]
