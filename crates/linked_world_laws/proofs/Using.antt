-- What each instruction of a linked world's code uses is there (JVMS 6.5).
use Rattle.std.proofs.Common.{◌≡◌, ℕ, Bool, true, false, cond, List, [], ◌∷◌, Option, Some, None, refl, sym, ap, subst, ◌∙◌, inl, inr, map}
use Rattle.std.specs.Prelude.{IsTrue, ◌&&◌, ◌||◌, bytes_eq, flat_map, option_to_list, filter, find}
use Rattle.std.specs.Bool.{beq}
use Rattle.std.specs.List.{list_any}
use Rattle.std.proofs.lemmas.Bool.{and_parts, or_cases, or_left, or_right, both_ways, false_from_ne_true}
use Rattle.std.proofs.lemmas.List.Folds.{list_any-append}
use Rattle.jv_model.specs.Partial.{passes}
use Rattle.jv_model.specs.Descriptors.{FieldType}
use Rattle.jv_model.specs.Operand.{MemberReference}
use Rattle.jv_model.specs.LoadedClass.{LoadedClass}
use Rattle.world_model.specs.World.{Field, Class, World, class_in, is_static_field, is_interface, declared_field}
use Rattle.world_model.specs.BootNames.{java_object}
use Rattle.world_model.specs.BootTable.{boot_table}
use Rattle.world_model.specs.Layout.{declared}
use Rattle.world_model.specs.LookUp.{Found, find_field}
use Rattle.world_model.specs.Members.{same_member, field_of}
use Rattle.code_model.specs.TypeReading.{field_type_of}
use Rattle.link_model.specs.DescriptorFaults.{is_supported, is_field_descriptor}
use Rattle.link_model.specs.WorldOf.{world_of}
use Rattle.link_laws.specs.Above.{has, IsAtOrAbove}
use Rattle.link_laws.proofs.Lists.{passes_some}
use Rattle.link_laws.proofs.LookUps.{find_field_is_first}
use Rattle.link_laws.proofs.Names.{same_text, text_same, has_head, has_right}
use Rattle.link_laws.proofs.Orders.{sub_is_above}
use Rattle.link_laws.proofs.UsedMembers.{FieldThere, field_resolved}
use Rattle.typing_model.specs.Environment.{Environment}
use Rattle.typing_model.specs.MemberTypes.{is_own_field}
use Rattle.frame_laws.proofs.Outcome.{both}
use Rattle.machine_laws.specs.Runnable.{StaticUse, FieldUse, PlaceUse}
use Rattle.linked_laws.specs.Worlds.{IsLinkedWorld}
use Rattle.linked_laws.proofs.Classes.{is_linked, found_named}
use Rattle.linked_laws.proofs.Lists.{found_holds}
use Rattle.linked_laws.proofs.Members.{declaring}
use Rattle.linked_laws.proofs.Types.{types_found}
use Rattle.linked_world_laws.proofs.Above.{object_above}
use Rattle.linked_world_laws.proofs.Chains.{IsPlain, no_plain_above, place_use}
use Rattle.linked_world_laws.proofs.Described.{has_values}
use Rattle.linked_world_laws.proofs.Found.{found_is}
use Rattle.linked_world_laws.proofs.Items.{any_flat}

-- what is found is among those that pass, under another name
kept_by : {A B : Type 0} (p : A → Bool) (q : B → Bool) (g : A → B) (y : A) (ys : List A) → list_any q (map g (filter p ys)) ≡ true
    → list_any q (map g (filter p (y ∷ ys))) ≡ true
kept_by p q g y ys h = by (p y)
  where
    by : (b : Bool) → list_any q (map g (cond b (y ∷ filter p ys) (filter p ys))) ≡ true
    by true = or_right (q (g y)) (list_any q (map g (filter p ys))) h
    by false = h

found_kept : {A B : Type 0} (test p : A → Bool) (q : B → Bool) (g : A → B) (xs : List A) (x : A) → find test xs ≡ Some x → p x ≡ true → q (g x) ≡ true
    → list_any q (map g (filter p xs)) ≡ true
found_kept test p q g [] x e kept holds = absurd cc
found_kept test p q g (y ∷ ys) x e kept holds = found_kept_by test p q g y ys x (test y) e kept holds (λ k. found_kept test p q g ys x k kept holds)
  where
    found_kept_by : {A B : Type 0} (test p : A → Bool) (q : B → Bool) (g : A → B) (y : A) (ys : List A) (x : A) (b : Bool) → cond b (Some y) (find test ys) ≡ Some x
        → p x ≡ true → q (g x) ≡ true → (find test ys ≡ Some x → list_any q (map g (filter p ys)) ≡ true) → list_any q (map g (filter p (y ∷ ys))) ≡ true
    found_kept_by test p q g y ys x true e kept holds rest =
        let same : x ≡ y = cc in
        sym (ap (λ (b : Bool). list_any q (map g (cond b (y ∷ filter p ys) (filter p ys)))) (sym (ap p (sym same) ∙ kept)))
        ∙ or_left (q (g y)) (list_any q (map g (filter p ys))) (ap (λ z. q (g z)) (sym same) ∙ holds)
    found_kept_by test p q g y ys x false e kept holds rest = kept_by p q g y ys (rest e)

found_any : {A : Type 0} (test q : A → Bool) (xs : List A) (x : A) → find test xs ≡ Some x → q x ≡ true → list_any q xs ≡ true
found_any test q [] x e holds = absurd cc
found_any test q (y ∷ ys) x e holds = found_any_by test q y ys x (test y) e holds (λ k. found_any test q ys x k holds)
  where
    found_any_by : {A : Type 0} (test q : A → Bool) (y : A) (ys : List A) (x : A) (b : Bool) → cond b (Some y) (find test ys) ≡ Some x → q x ≡ true
        → (find test ys ≡ Some x → list_any q ys ≡ true) → list_any q (y ∷ ys) ≡ true
    found_any_by test q y ys x true e holds rest = let same : x ≡ y = cc in or_left (q y) (list_any q ys) (ap q (sym same) ∙ holds)
    found_any_by test q y ys x false e holds rest = or_right (q y) (list_any q ys) (rest e)

same_beq : (b : Bool) → beq b b ≡ true
same_beq true = refl
same_beq false = refl

object_has_none : (classes : List LoadedClass) (field : MemberReference)
    → list_any (same_member field) (flat_map (declared false) (option_to_list (class_in (world_of boot_table classes) java_object))) ≡ false
unfolding boot_table
object_has_none classes field = refl

-- a field that is found, as a member
abbrev field_found : MemberReference → Found Field → MemberReference
field_found m found = record { class = found.class; name = m.name; descriptor = m.descriptor }

module _ (world : World) (linked : IsLinkedWorld world) where
  -- ---- fields

  -- A field that a reference finds: the class that declares it is at or above the one that is named.
  record FieldDeclared (m : MemberReference) (found : Found Field) : Type 0 where
    class : Class
    there : class_in world found.class ≡ Some class
    above : IsAtOrAbove world m.class found.class
    found_in : find (λ (f : Field). bytes_eq f.name m.name && bytes_eq f.descriptor m.descriptor) class.fields ≡ Some found.member
    same_class : class.name ≡ found.class
    name : found.member.name ≡ m.name
    descriptor : found.member.descriptor ≡ m.descriptor
    type : FieldType
    is_type : field_type_of m.descriptor ≡ Some type
    supported : is_supported type ≡ true

  field_declared : (m : MemberReference) (found : Found Field) → find_field world m.class m.name m.descriptor ≡ Some found → FieldDeclared m found
  field_declared m found is =
      let first = (find_field_is_first world m.class m.name m.descriptor found).0 is in
      let class = declaring (declared_field m.name m.descriptor) world found.class found.member first.declares in
      let fresh = (types_found world linked found.class class.0 class.1).fresh in
      let found_in : find (λ (f : Field). bytes_eq f.name m.name && bytes_eq f.descriptor m.descriptor) class.0.fields ≡ Some found.member = rw fresh at class.2 in
      let its = found_holds (λ (f : Field). is_field_descriptor f.descriptor ≡ true) _ class.0.fields found.member (found_is world linked found.class class.0 class.1).described.fields found_in in
      let parts = and_parts (bytes_eq found.member.name m.name) (bytes_eq found.member.descriptor m.descriptor) its.0 in
      let descriptor = same_text found.member.descriptor m.descriptor parts.1 in
      let type = passes_some is_supported (field_type_of m.descriptor) (ap is_field_descriptor (sym descriptor) ∙ its.1) in
      record {
        class = class.0;
        there = class.1;
        above = sub_is_above world m.class found.class
            (subst (λ (names : List (List ℕ)). IsTrue (has names found.class)) (sym first.are) (has_right first.front (found.class ∷ first.rest) found.class (has_head found.class first.rest)));
        found_in = found_in;
        same_class = found_named world found.class class.0 class.1;
        name = same_text found.member.name m.name parts.0;
        descriptor = descriptor;
        type = type.0;
        is_type = type.1;
        supported = type.2;
      }

  -- it's among the fields that its class declares
  among : (m : MemberReference) (found : Found Field) (is : FieldDeclared m found) (static : Bool) (test : MemberReference → Bool) → is_static_field found.member ≡ static
      → test (field_of is.class found.member) ≡ true → list_any test (declared static is.class) ≡ true
  among m found is static test kind holds =
      found_kept _ (λ (f : Field). beq (is_static_field f) static) test (field_of is.class) is.class.fields found.member is.found_in
      (ap (λ (b : Bool). beq b static) kind ∙ same_beq static) holds

  same_left : (m : MemberReference) (found : Found Field) (is : FieldDeclared m found) → same_member (field_found m found) (field_of is.class found.member) ≡ true
  same_left m found is =
      both (bytes_eq m.name found.member.name && bytes_eq m.descriptor found.member.descriptor) (bytes_eq found.class is.class.name)
      (both (bytes_eq m.name found.member.name) (bytes_eq m.descriptor found.member.descriptor) (text_same m.name found.member.name (sym is.name)) (text_same m.descriptor found.member.descriptor (sym is.descriptor)))
      (text_same found.class is.class.name (sym is.same_class))

  same_right : (m : MemberReference) (found : Found Field) (is : FieldDeclared m found) → same_member (field_of is.class found.member) (field_found m found) ≡ true
  same_right m found is =
      both (bytes_eq found.member.name m.name && bytes_eq found.member.descriptor m.descriptor) (bytes_eq is.class.name found.class)
      (both (bytes_eq found.member.name m.name) (bytes_eq found.member.descriptor m.descriptor) (text_same found.member.name m.name is.name) (text_same found.member.descriptor m.descriptor is.descriptor))
      (text_same is.class.name found.class is.same_class)

  pub static_use : (m : MemberReference) → FieldThere world true m → StaticUse world m
  static_use m there =
      let is = field_declared m there.found there.is in
      let field = field_found m there.found in
      let test = λ (f : MemberReference). same_member f field in
      record {
        field = field;
        resolved = field_resolved world true m there;
        same_descriptor = refl;
        there = any_flat test (declared true) world.classes
            (found_any _ (λ c. list_any test (declared true c)) world.classes is.class is.there (among m there.found is true test there.kind (same_right m there.found is)));
        type = is.type;
        is_type = is.is_type;
        has_values = has_values is.type is.supported;
      }

  -- the class of an instance field is a plain one
  plain_owner : (m : MemberReference) (there : FieldThere world false m) → IsPlain world there.found.class
  plain_owner m there = record {
    no_interface = (let h = there.owner refl in by (class_in world there.found.class) h);
    no_object = false_from_ne_true (bytes_eq there.found.class java_object) (λ same.
        (let is = field_declared m there.found there.is in
        let test = same_member (field_found m there.found) in
        let in_object : class_in (world_of boot_table linked.classes) java_object ≡ Some is.class =
        ap (λ (w : World). class_in w java_object) (sym (is_linked world linked).is) ∙ ap (class_in world) (sym (same_text there.found.class java_object same)) ∙ is.there in
        let none = ap (λ (o : Option Class). list_any test (flat_map (declared false) (option_to_list o))) (sym in_object) ∙ object_has_none linked.classes (field_found m there.found) in
        let some = among m there.found is false test there.kind (same_left m there.found is) in
        both_ways _ none (list_any-append test (declared false is.class) [] ∙ or_left _ false some)));
  }
    where
      by : (o : Option Class) → passes is_interface o ≡ false → list_any is_interface (option_to_list o) ≡ false
      by None h = refl
      by (Some c) h = ap (λ (b : Bool). b || false) h

  plain_named : (m : MemberReference) (there : FieldThere world false m) → IsPlain world m.class
  plain_named m there =
      let is = field_declared m there.found there.is in
      let owner = plain_owner m there in
      record {
        no_interface = false_from_ne_true _ (λ own. no_plain_above world linked m.class there.found.class own is.above owner);
        no_object = false_from_ne_true _ (λ same.
            (let top = object_above world linked there.found.class (subst (λ (n : List ℕ). IsAtOrAbove world n there.found.class) (same_text m.class java_object same) is.above) in
            both_ways _ owner.no_object (text_same there.found.class java_object top)));
      }

  pub field_use : (m : MemberReference) → FieldThere world false m → FieldUse world m
  field_use m there =
      let is = field_declared m there.found there.is in
      record {
        field = field_found m there.found;
        resolved = field_resolved world false m there;
        same_descriptor = refl;
        type = is.type;
        is_type = is.is_type;
        has_values = has_values is.type is.supported;
        places = place_use world linked m.class there.found.class is.class (field_found m there.found) (plain_named m there) is.above (plain_owner m there) is.there
            (among m there.found is false (same_member (field_found m there.found)) there.kind (same_left m there.found is));
      }

  -- a constructor's own object has the field that its class declares
  pub own_place : (e : Environment) (m : MemberReference) (there : FieldThere world false m) → e.world ≡ world → is_own_field e m ≡ true
      → PlaceUse world e.class.name (field_use m there).field
  unfolding field_use
  own_place e m there same own =
      let is = field_declared m there.found there.is in
      let found : find_field e.world m.class m.name m.descriptor ≡ Some there.found = ap (λ (w : World). find_field w m.class m.name m.descriptor) same ∙ there.is in
      let mine : (bytes_eq there.found.class e.class.name || false) ≡ true = sym (ap (λ (o : Option (Found Field)). list_any (λ (f : Found Field). bytes_eq f.class e.class.name) (option_to_list o)) found) ∙ own in
      let class : there.found.class ≡ e.class.name = same_text there.found.class e.class.name (left_only mine) in
      subst (λ (n : List ℕ). PlaceUse world n (field_found m there.found)) class
      (place_use world linked there.found.class there.found.class is.class (field_found m there.found) (plain_owner m there) (inl refl) (plain_owner m there) is.there
      (among m there.found is false (same_member (field_found m there.found)) there.kind (same_left m there.found is)))
    where
      left_only : {b : Bool} → (b || false) ≡ true → b ≡ true
      left_only {b} h = elim (or_cases b false h) [ inl own ↦ own | inr none ↦ absurd cc ]
