-- Where no two classes have one name and no class has a member twice, a field has the name of another only at its place.
use Rattle.std.proofs.Common.{◌≡◌, ℕ, ◌==◌, ◌&&◌, Bool, true, false, Option, Some, None, slice_get, option_map, option_and_then, refl, ap, sym, ◌∙◌, true≢false}
use Rattle.std.specs.Prelude.{bytes_eq}
use Rattle.std.proofs.lemmas.Bool.{and_from, and_parts}
use Rattle.std.proofs.lemmas.Bool.Decides.{Decides-eqb}
use Rattle.std.proofs.lemmas.Option.{slice_get-map}
use Rattle.world_model.specs.World.{World, Class, Field}
use Rattle.world_model.specs.LookUp.{Found}
use Rattle.world_model.specs.Members.{field_of, same_member}
use Rattle.link_model.specs.ClassFaults.{same_field}
use Rattle.class_world.specs.World.{field_at, names_of}
use Rattle.class_layouts.specs.Layouts.{field_found}
use Rattle.static_fields.specs.Statics.{Place, same_place}
use Rattle.member_names.proofs.Lists.{same_text, text_same, one_place, one_index}
use Rattle.member_names.proofs.Named.{members_once}
use Rattle.machine_shared.specs.Laws.{HasStatic}

-- ---- where a field stands

pub record Stands (world : World) (place : Place) (found : Found Field) : Type 0 where
  pub class : Class
  pub field : Field
  pub class_at : slice_get world.classes place.class.0 ≡ Some class
  pub field_at : slice_get class.fields place.index ≡ Some field
  pub is : found ≡ record { class = class.name; member = field }

abbrev made : Class → Field → Found Field
made class field = record { class = class.name; member = field }

pub stands : (world : World) (place : Place) (found : Found Field) → field_at world place ≡ Some found → Stands world place found
stands world place found at = of (slice_get world.classes place.class.0) refl at
  where
    within : (class : Class) → slice_get world.classes place.class.0 ≡ Some class → (o : Option Field) → slice_get class.fields place.index ≡ o
        → option_map (made class) o ≡ Some found → Stands world place found
    within class there None own is = absurd cc
    within class there (Some field) own is =
        record { class = class; field = field; class_at = there; field_at = own; is = let same : made class field ≡ found = cc in sym same }

    of : (o : Option Class) → slice_get world.classes place.class.0 ≡ o
        → option_and_then (λ (class : Class). option_map (made class) (slice_get class.fields place.index)) o ≡ Some found
        → Stands world place found
    of None there is = absurd cc
    of (Some class) there is = within class there (slice_get class.fields place.index) refl is

-- ---- names and places

module _ (world : World) (place : Place) (found : Found Field) (has : HasStatic world place found)
    (n i : ℕ) (class : Class) (field : Field) (class_at : slice_get world.classes n ≡ Some class)
    (own : slice_get class.fields i ≡ Some field) where
  abbrev here : Place
  here = record { class = record { 0 = n }; index = i }

  abbrev stand : Stands world place found
  stand = stands world place found has.at

  named : same_place place here ≡ true → same_member (field_of class field) (field_found found) ≡ true
  named same =
      let parts = and_parts (place.class.0 == n) (place.index == i) same in
      let number : place.class.0 ≡ n = (Decides-eqb place.class.0 n).0 parts.0 in
      let index : place.index ≡ i = (Decides-eqb place.index i).0 parts.1 in
      let one : Some stand.class ≡ Some class = sym stand.class_at ∙ ap (slice_get world.classes) number ∙ class_at in
      let class_is : stand.class ≡ class = cc in
      let other : Some stand.field ≡ Some field =
      sym stand.field_at ∙ ap (slice_get stand.class.fields) index
      ∙ ap (λ (c : Class). slice_get c.fields i) class_is ∙ own in
      let field_is : stand.field ≡ field = cc in
      let found_is = stand.is in
      and_from (bytes_eq field.name found.member.name && bytes_eq field.descriptor found.member.descriptor)
      (bytes_eq class.name found.class)
      (and_from (bytes_eq field.name found.member.name) (bytes_eq field.descriptor found.member.descriptor)
      (text_same field.name found.member.name (ap (λ (f : Field). f.name) (sym field_is) ∙ ap (λ (f : Found Field). f.member.name) (sym found_is)))
      (text_same field.descriptor found.member.descriptor
      (ap (λ (f : Field). f.descriptor) (sym field_is) ∙ ap (λ (f : Found Field). f.member.descriptor) (sym found_is))))
      (text_same class.name found.class (ap (λ (c : Class). c.name) (sym class_is) ∙ ap (λ (f : Found Field). f.class) (sym found_is)))

  placed : same_member (field_of class field) (field_found found) ≡ true → same_place place here ≡ true
  placed same =
      let found_is = stand.is in
      let parts = and_parts (bytes_eq field.name found.member.name && bytes_eq field.descriptor found.member.descriptor)
      (bytes_eq class.name found.class) same in
      let names = and_parts (bytes_eq field.name found.member.name) (bytes_eq field.descriptor found.member.descriptor) parts.0 in
      let class_named : class.name ≡ stand.class.name =
      same_text class.name found.class parts.1 ∙ ap (λ (f : Found Field). f.class) found_is in
      let name_at : slice_get (names_of world) n ≡ Some class.name =
      slice_get-map (λ (c : Class). c.name) world.classes n ∙ ap (option_map (λ (c : Class). c.name)) class_at in
      let name_there : slice_get (names_of world) place.class.0 ≡ Some class.name =
      slice_get-map (λ (c : Class). c.name) world.classes place.class.0
      ∙ ap (option_map (λ (c : Class). c.name)) stand.class_at ∙ ap Some (sym class_named) in
      let number : place.class.0 ≡ n = one_place (names_of world) place.class.0 n class.name has.orderly.names name_there name_at in
      let one : Some stand.class ≡ Some class = sym stand.class_at ∙ ap (slice_get world.classes) number ∙ class_at in
      let class_is : stand.class ≡ class = cc in
      let other : slice_get class.fields place.index ≡ Some stand.field =
      ap (λ (c : Class). slice_get c.fields place.index) (sym class_is) ∙ stand.field_at in
      let same_name : stand.field.name ≡ field.name =
      ap (λ (f : Found Field). f.member.name) (sym found_is) ∙ sym (same_text field.name found.member.name names.0) in
      let same_descriptor : stand.field.descriptor ≡ field.descriptor =
      ap (λ (f : Found Field). f.member.descriptor) (sym found_is) ∙ sym (same_text field.descriptor found.member.descriptor names.1) in
      let index : place.index ≡ i =
      one_index same_field class.fields place.index i stand.field field (members_once world n class has.orderly.members class_at).0
      other own (and_from (bytes_eq stand.field.name field.name) (bytes_eq stand.field.descriptor field.descriptor)
      (text_same stand.field.name field.name same_name) (text_same stand.field.descriptor field.descriptor same_descriptor))
      (and_from (bytes_eq field.name stand.field.name) (bytes_eq field.descriptor stand.field.descriptor)
      (text_same field.name stand.field.name (sym same_name)) (text_same field.descriptor stand.field.descriptor (sym same_descriptor))) in
      and_from (place.class.0 == n) (place.index == i) ((Decides-eqb place.class.0 n).1 number) ((Decides-eqb place.index i).1 index)

  pub named_there : same_member (field_of class field) (field_found found) ≡ same_place place here
  named_there = by (same_member (field_of class field) (field_found found)) (same_place place here) refl refl
    where
      by : (a b : Bool) → same_member (field_of class field) (field_found found) ≡ a → same_place place here ≡ b
          → same_member (field_of class field) (field_found found) ≡ same_place place here
      by true true is_a is_b = is_a ∙ sym is_b
      by false false is_a is_b = is_a ∙ sym is_b
      by true false is_a is_b = absurd (true≢false (sym (placed is_a) ∙ is_b))
      by false true is_a is_b = absurd (true≢false (sym (named is_b) ∙ is_a))
