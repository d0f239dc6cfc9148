-- What was found by number is what the name leads to.
use Rattle.std.proofs.Common.{◌≡◌, ℕ, zero, suc, ◌<◌, List, [], ◌∷◌, ◌++◌, Option, Some, None, length, refl, sym, ap, subst, ◌∙◌, arith}
use Rattle.std.specs.Prelude.{flat_map, option_map, option_and_then, option_to_list, position, bytes_eq, slice_get}
use Rattle.std.proofs.lemmas.List.{length-map}
use Rattle.jv_model.specs.Operand.{MemberReference}
use Rattle.world_model.specs.World.{World, Class, Field, Method, class_in, declared_field, declared_method}
use Rattle.world_model.specs.Supertypes.{each_once, chain_within, interfaces_within, field_order_within, superclass_of, interfaces_of}
use Rattle.world_model.specs.LookUp.{Found, first_declared, found_or, member_in, find_field, find_method}
use Rattle.world_model.specs.Resolution.{class_with_methods}
use Rattle.jv_types.specs.declared.number.ClassNo.{ClassNo}
use Rattle.jv_types.specs.declared.number.MethodNo.{MethodNo}
use Rattle.class_world.specs.World.{names_of, number_of, name_at, field_at, method_at}
use Rattle.class_world.specs.declared.class_info.FieldPlace.{FieldPlace}
use Rattle.class_world.proofs.Numbers.{name_of, number, class_in-position, name_at_place}
use Rattle.class_world.proofs.Places.{text_at_place, stands_inside}
use Rattle.look_up_cache.specs.Targets.{Target, a_class, a_field, a_method, class_target, field_target, method_target}

-- ---- classes

-- the class of a name, by its number
pub record HasNumber (world : World) (name : List ℕ) (number : ClassNo) : Type 0 where
  pub class : Class
  pub at : slice_get world.classes number.0 ≡ Some class
  pub named : class.name ≡ name
  pub found : class_in world name ≡ Some class

pub has_number : (world : World) (name : List ℕ) (c : ClassNo) → number_of world name ≡ Some c → HasNumber world name c
has_number world name c e = from (position (bytes_eq name) (names_of world)) refl e
  where
    from : (found : Option ℕ) → position (bytes_eq name) (names_of world) ≡ found → option_map number found ≡ Some c → HasNumber world name c
    from None p e = absurd cc
    from (Some n) p e =
        let same : number n ≡ c = cc in
        let at = text_at_place (names_of world) name n p in
        let inside : n < length world.classes = omega (arith, at.0, length-map world.classes name_of) in
        let there = stands_inside world.classes n inside in
        subst (HasNumber world name) same (record {
          class = there.0;
          at = there.1;
          named = sym (name_at_place world n there.0 there.1) ∙ sym at.1;
          found = class_in-position world name ∙ ap (option_and_then (slice_get world.classes)) p ∙ there.1;
        })

-- the class of a name that has no number isn't there
pub not_there : (world : World) (name : List ℕ) → number_of world name ≡ None → class_in world name ≡ None
not_there world name e = from (position (bytes_eq name) (names_of world)) refl e
  where
    from : (found : Option ℕ) → position (bytes_eq name) (names_of world) ≡ found → option_map number found ≡ None → class_in world name ≡ None
    from None p e = class_in-position world name ∙ ap (option_and_then (slice_get world.classes)) p
    from (Some n) p e = absurd cc

pub name_is : (world : World) (name : List ℕ) (c : ClassNo) → number_of world name ≡ Some c → name_at world c ≡ name
name_is world name c e = let has = has_number world name c e in name_at_place world c.0 has.class has.at ∙ has.named

pub class_found : (world : World) (name : List ℕ) (c : ClassNo) → number_of world name ≡ Some c
    → Some (option_map (λ (k : Class). a_class k.name) (slice_get world.classes c.0)) ≡ option_map Some (class_target world name)
class_found world name c e =
    let has = has_number world name c e in
    ap (λ (o : Option Class). Some (option_map (λ (k : Class). a_class k.name) o)) has.at
    ∙ ap (λ (n : List ℕ). Some (Some (a_class n))) has.named
    ∙ sym (ap (λ (o : Option Class). option_map Some (option_map (λ (k : Class). a_class name) o)) has.found)

pub class_missing : (world : World) (name : List ℕ) → number_of world name ≡ None → None ≡ option_map Some (class_target world name)
class_missing world name e = sym (ap (λ (o : Option Class). option_map Some (option_map (λ (k : Class). a_class name) o)) (not_there world name e))

-- ---- members of a class that isn't there

module _ (world : World) (name : List ℕ) (none : class_in world name ≡ None) where
  no_interfaces : interfaces_of world name ≡ []
  no_interfaces = ap (λ (o : Option Class). flat_map (λ (c : Class). c.interfaces) (option_to_list o)) none

  no_superclass : superclass_of world name ≡ []
  no_superclass = ap (λ (o : Option Class). flat_map (λ (c : Class). option_to_list c.superclass) (option_to_list o)) none

  none_declared : {A : Type 0} (declared : Class → Option A) → first_declared declared world (each_once [] (name ∷ [])) ≡ None
  unfolding first_declared each_once
  none_declared declared = ap (λ (o : Option Class). found_or name (member_in declared o) None) none

  none_of_none : {A : Type 0} (declared : Class → Option A) → first_declared declared world (each_once [] []) ≡ None
  unfolding first_declared each_once
  none_of_none declared = refl

  field_missing : {A : Type 0} (declared : Class → Option A) (count : ℕ) → first_declared declared world (each_once [] (field_order_within count world name)) ≡ None
  unfolding field_order_within
  field_missing declared zero = none_of_none declared
  field_missing declared (suc count) =
      ap (λ (l : List (List ℕ)). first_declared declared world (each_once [] (name ∷ flat_map (field_order_within count world) l ++ flat_map (field_order_within count world) (superclass_of world name)))) no_interfaces
      ∙ ap (λ (l : List (List ℕ)). first_declared declared world (each_once [] (name ∷ flat_map (field_order_within count world) l))) no_superclass
      ∙ none_declared declared

  method_missing : {A : Type 0} (declared : Class → Option A) (count : ℕ)
      → first_declared declared world (each_once [] (chain_within count world name ++ interfaces_within count world name)) ≡ None
  unfolding chain_within interfaces_within
  method_missing declared zero = none_of_none declared
  method_missing declared (suc count) =
      ap (λ (l : List (List ℕ)). first_declared declared world (each_once [] ((name ∷ flat_map (chain_within count world) (superclass_of world name))
      ++ (flat_map (λ i. i ∷ interfaces_within count world i) l ++ flat_map (interfaces_within count world) (superclass_of world name))))) no_interfaces
      ∙ ap (λ (l : List (List ℕ)). first_declared declared world (each_once [] ((name ∷ flat_map (chain_within count world) l)
      ++ flat_map (interfaces_within count world) l))) no_superclass
      ∙ none_declared declared

pub no_field : (world : World) (member : MemberReference) → number_of world member.class ≡ None → None ≡ option_map Some (field_target world member)
no_field world member e =
    sym (ap (λ (o : Option (Found Field)). option_map Some (option_map a_field o))
    (field_missing world member.class (not_there world member.class e) (declared_field member.name member.descriptor) (length world.classes)))

pub no_method : (world : World) (member : MemberReference) → number_of world (class_with_methods member.class) ≡ None → None ≡ option_map Some (method_target world member)
no_method world member e =
    sym (ap (λ (o : Option (Found Method)). option_map Some (option_map a_method o))
    (method_missing world (class_with_methods member.class) (not_there world (class_with_methods member.class) e) (declared_method member.name member.descriptor) (length world.classes)))

-- ---- members

abbrev pub lifted : {A : Type 0} → (A → Target) → Option (Option A) → Option (Option Target)
lifted target found = option_map (option_map target) found

lifted-some : {A : Type 0} (target : A → Target) (found : Option A) → lifted target (option_map Some found) ≡ option_map Some (option_map target found)
lifted-some target None = refl
lifted-some target (Some a) = refl

pub field_is : (world : World) (member : MemberReference) (c : ClassNo) (place : Option FieldPlace) → number_of world member.class ≡ Some c
    → option_map (field_at world) place ≡ option_map Some (find_field world (name_at world c) member.name member.descriptor)
    → lifted a_field (option_map (field_at world) place) ≡ option_map Some (field_target world member)
field_is world member c place e h =
    ap (lifted a_field) h
    ∙ lifted-some a_field (find_field world (name_at world c) member.name member.descriptor)
    ∙ ap (λ n. option_map Some (option_map a_field (find_field world n member.name member.descriptor))) (name_is world member.class c e)

pub method_is : (world : World) (member : MemberReference) (c : ClassNo) (method : Option MethodNo) → number_of world (class_with_methods member.class) ≡ Some c
    → option_map (method_at world) method ≡ option_map Some (find_method world (name_at world c) member.name member.descriptor)
    → lifted a_method (option_map (method_at world) method) ≡ option_map Some (method_target world member)
method_is world member c method e h =
    ap (lifted a_method) h
    ∙ lifted-some a_method (find_method world (name_at world c) member.name member.descriptor)
    ∙ ap (λ n. option_map Some (option_map a_method (find_method world n member.name member.descriptor))) (name_is world (class_with_methods member.class) c e)
