-- Where the fields of objects stand.
use Rattle.std.proofs.Common.{◌≡◌, ℕ, ◌-◌, ◌<◌, true, false, List, Option, Some, sym, ap, ◌∙◌, length, arith}
use Rattle.std.specs.Prelude.{IsTrue, ◌&&◌, bytes_eq, reverse, flat_map, option_to_list, option_map, slice_get, get_or}
use Rattle.std.specs.List.{list_any}
use Rattle.std.proofs.lemmas.Bool.{and_parts, or_left}
use Rattle.std.proofs.lemmas.List.{length-reverse, get_or-reverse}
use Rattle.std.proofs.lemmas.List.Quantifiers.{position-Some}
use Rattle.std.proofs.lemmas.Option.{slice_get-get_or}
use Rattle.jv_model.specs.Operand.{MemberReference}
use Rattle.world_model.specs.World.{World, Class, class_in}
use Rattle.world_model.specs.BootNames.{java_string}
use Rattle.world_model.specs.Supertypes.{chain}
use Rattle.world_model.specs.Layout.{declared, layout, field_place}
use Rattle.world_model.specs.Members.{same_member}
use Rattle.link_laws.specs.Above.{has}
use Rattle.link_laws.proofs.Names.{same_text}
use Rattle.machine_laws.specs.Runnable.{HasPlace}
use Rattle.linked_world_laws.proofs.Items.{any_at, at_any, any_flat, any_position, any_reversed}

-- A field that is among some fields has a place there.
pub record IsPlaced (fields : List MemberReference) (field : MemberReference) : Type 0 where
  pub place : ℕ
  pub is_place : field_place fields field ≡ Some place
  pub member : MemberReference
  pub is_member : slice_get fields place ≡ Some member
  pub same : same_member field member ≡ true

pub placed : (fields : List MemberReference) (field : MemberReference) → list_any (same_member field) fields ≡ true → IsPlaced fields field
placed fields field among =
    let test = same_member field in
    let found = any_position test (reverse fields) (any_reversed test fields among) in
    let is = position-Some test (reverse fields) found.0 field found.1 in
    let within : found.0 < length fields = omega (arith, is.0, length-reverse fields) in
    let place = length fields - 1 - found.0 in
    record {
      place = place;
      is_place = ap (option_map (λ (after : ℕ). length fields - 1 - after)) found.1;
      member = get_or fields place field;
      is_member = slice_get-get_or fields place field (omega (arith, within));
      same = ap test (sym (get_or-reverse fields found.0 field within)) ∙ is.1;
    }

pub has_place : (world : World) (name : List ℕ) (field : MemberReference) → bytes_eq name java_string ≡ false
    → list_any (same_member field) (layout world name) ≡ true → HasPlace world name field
has_place world name field plain among =
    let p = placed (layout world name) field among in
    let parts = and_parts (bytes_eq field.name p.member.name && bytes_eq field.descriptor p.member.descriptor) (bytes_eq field.class p.member.class) p.same in
    record {
      no_string = plain;
      place = p.place;
      is_place = p.is_place;
      member = p.member;
      is_member = p.is_member;
      same_descriptor = sym (same_text field.descriptor p.member.descriptor (and_parts (bytes_eq field.name p.member.name) (bytes_eq field.descriptor p.member.descriptor) parts.0).1);
    }

-- what a class on the way upwards declares is in the layout
pub layout_has : (world : World) (name owner : List ℕ) (class : Class) (field : MemberReference) → IsTrue (has (chain world name) owner)
    → class_in world owner ≡ Some class → list_any (same_member field) (declared false class) ≡ true
    → list_any (same_member field) (layout world name) ≡ true
unfolding layout
layout_has world name owner class field on is among =
    let test = same_member field in
    let declares = λ (c : Class). list_any test (declared false c) in
    let found = any_at (bytes_eq owner) (reverse (chain world name)) (any_reversed (bytes_eq owner) (chain world name) on) in
    let same : owner ≡ found.1 = same_text owner found.1 found.3 in
    let here : list_any declares (option_to_list (class_in world found.1)) ≡ true =
    ap (λ (o : Option Class). list_any declares (option_to_list o)) (ap (class_in world) (sym same) ∙ is) ∙ or_left (declares class) false among in
    any_flat test (declared false) (flat_map (λ n. option_to_list (class_in world n)) (reverse (chain world name)))
    (any_flat declares (λ n. option_to_list (class_in world n)) (reverse (chain world name))
    (at_any (λ n. list_any declares (option_to_list (class_in world n))) (reverse (chain world name)) found.0 found.1 found.2 here))
