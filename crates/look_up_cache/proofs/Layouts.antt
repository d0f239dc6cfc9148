-- The words of fields are their places in the layouts of the definitions.
use Rattle.std.proofs.Common.{◌≡◌, ℕ, zero, suc, ◌-◌, ◌<◌, ◌==◌, ◌&&◌, ◌||◌, Bool, true, false, not, List, [], ◌∷◌, Option, Some, None, length, map, refl, sym, ap, subst, ◌∙◌, arith}
use Rattle.std.specs.Prelude.{bytes_eq, position, flat_map, reverse, slice_get, get_or, option_map, option_and_then}
use Rattle.std.specs.Bool.{beq}
use Rattle.std.specs.List.{IsDistinct, list_any, list_all}
use Rattle.std.proofs.lemmas.Bool.{and_parts, and_from, or_parts, or_left, or_right, both_ways}
use Rattle.std.proofs.lemmas.Bool.Decides.{Decides-eqb}
use Rattle.std.proofs.lemmas.List.{length-map}
use Rattle.std.proofs.lemmas.Option.{slice_get-map, slice_get-get_or, slice_get_within}
use Rattle.jv_model.specs.Operand.{MemberReference}
use Rattle.world_model.specs.World.{World, Class, Field, class_in, is_static_field}
use Rattle.world_model.specs.LookUp.{Found}
use Rattle.world_model.specs.Layout.{declared, layout}
use Rattle.world_model.specs.Members.{same_member}
use Rattle.link_model.specs.ClassFaults.{has_twice, same_field, same_method, has_member_twice}
use Rattle.link_laws.proofs.Names.{same_text, text_same}
use Rattle.jv_types.specs.Sequence.{Sequence}
use Rattle.jv_types.specs.declared.number.ClassNo.{ClassNo}
use Rattle.class_world.specs.World.{names_of, field_at, HaveMembersOnce}
use Rattle.class_world.specs.declared.class_info.FieldPlace.{FieldPlace}
use Rattle.class_world.proofs.Numbers.{name_of, class_in-position, name_at_place}
use Rattle.class_world.proofs.Places.{bytes_eq-places}
use Rattle.class_world.proofs.Upwards.{own_place}
use Rattle.class_layouts.specs.Layouts.{field_found, member_at}
use Rattle.static_fields.specs.Statics.{same_place}
use Rattle.look_up_cache.specs.Words.{WordsStay, Words, IsWord, AreWords, IsLast, IsLastOf, AreInside, AreRows}
use Rattle.look_up_cache.proofs.Last.{last_is, last_found, one_last, any_last, last_before}
use Rattle.look_up_cache.proofs.Chains.{classes_of, from_layout, split_at, none_before, layout_split, in_layout}

-- ---- one class below another

pub words_stay : WordsStay
words_stay world sound found class word place is there =
    let field = field_found found in
    let test = same_member field in
    let own = last_is test (layout world found.class) word is in
    let other = last_is test (layout world class) place there in
    let of = from_layout world field class (any_last test (layout world class) place other) in
    let split = split_at world field sound class of in
    let longer = last_before test (layout world found.class) (flat_map (declared false) (classes_of world (reverse split.front))) word (none_before world field class split) own in
    one_last test (layout world class) place word other (subst (λ (l : List MemberReference). IsLast test l word) (sym (layout_split world class found.class split)) longer)

-- ---- lists

any_here : {A : Type 0} (test : A → Bool) (xs : List A) (k : ℕ) (x : A) → slice_get xs k ≡ Some x → test x ≡ true → list_any test xs ≡ true
any_here test [] k x at passes = absurd cc
any_here test (y ∷ xs) zero x at passes = let same : y ≡ x = cc in or_left (test y) (list_any test xs) (ap test same ∙ passes)
any_here test (y ∷ xs) (suc k) x at passes = or_right (test y) (list_any test xs) (any_here test xs k x at passes)

none_any : {A : Type 0} (test : A → Bool) (xs : List A) → ((j : ℕ) (y : A) → slice_get xs j ≡ Some y → test y ≡ false) → list_any test xs ≡ false
none_any test [] each = refl
none_any test (x ∷ xs) each = λ i. each 0 x refl i || none_any test xs (λ j y there. each (suc j) y there) i

all_here : {A : Type 0} (test : A → Bool) (xs : List A) (k : ℕ) (x : A) → slice_get xs k ≡ Some x → list_all test xs ≡ true → test x ≡ true
all_here test [] k x at all = absurd cc
all_here test (y ∷ xs) zero x at all = let same : y ≡ x = cc in ap test (sym same) ∙ (and_parts (test y) (list_all test xs) all).0
all_here test (y ∷ xs) (suc k) x at all = all_here test xs k x at (and_parts (test y) (list_all test xs) all).1

-- where no two are the same, the same stand at one place
once_at : {A : Type 0} (same : A → A → Bool) (xs : List A) (i j : ℕ) (x y : A) → has_twice same xs ≡ false → slice_get xs i ≡ Some x → slice_get xs j ≡ Some y
    → same x y ≡ true → same y x ≡ true → i ≡ j
unfolding has_twice
once_at same [] i j x y once at there is back = absurd cc
once_at same (z ∷ xs) zero zero x y once at there is back = refl
once_at {A = A} same (z ∷ xs) zero (suc j) x y once at there is back =
    let first : z ≡ x = cc in
    absurd (both_ways (list_any (same z) xs) (or_parts (list_any (same z) xs) (has_twice same xs) once).0
    (any_here (same z) xs j y there (ap (λ (a : A). same a y) first ∙ is)))
once_at {A = A} same (z ∷ xs) (suc i) zero x y once at there is back =
    let first : z ≡ y = cc in
    absurd (both_ways (list_any (same z) xs) (or_parts (list_any (same z) xs) (has_twice same xs) once).0
    (any_here (same z) xs i x at (ap (λ (a : A). same a x) first ∙ back)))
once_at same (z ∷ xs) (suc i) (suc j) x y once at there is back =
    ap suc (once_at same xs i j x y (or_parts (list_any (same z) xs) (has_twice same xs) once).1 at there is back)

-- ---- places

-- A place and the field there.
pub record IsAt (world : World) (place : FieldPlace) (found : Found Field) : Type 0 where
  pub class : Class
  pub at : slice_get world.classes place.class.0 ≡ Some class
  pub named : found.class ≡ class.name
  pub own : slice_get class.fields place.index ≡ Some found.member

pub is_at : (world : World) (place : FieldPlace) (found : Found Field) → field_at world place ≡ Some found → IsAt world place found
is_at world place found is = by (slice_get world.classes place.class.0) refl is
  where
    of : (class : Class) (o : Option Field) → slice_get world.classes place.class.0 ≡ Some class → slice_get class.fields place.index ≡ o
        → option_map (λ (f : Field). let r : Found Field = record { class = class.name; member = f } in r) o ≡ Some found → IsAt world place found
    of class None at own is = absurd cc
    of class (Some f) at own is =
        let made : Found Field = record { class = class.name; member = f } in
        let same : made ≡ found = cc in
        record {
          class = class;
          at = at;
          named = sym (ap (λ (r : Found Field). r.class) same);
          own = own ∙ ap (λ (r : Found Field). Some r.member) same;
        }

    by : (o : Option Class) → slice_get world.classes place.class.0 ≡ o
        → option_and_then (λ (class : Class). option_map (λ (f : Field). let r : Found Field = record { class = class.name; member = f } in r) (slice_get class.fields place.index)) o ≡ Some found
        → IsAt world place found
    by None at is = absurd cc
    by (Some class) at is = of class (slice_get class.fields place.index) at refl is

-- the field of a member that was found
pub from_member : (world : World) (place : FieldPlace) (member : MemberReference) → member_at world place ≡ Some member
    → (found : Found Field) × (field_at world place ≡ Some found) × (field_found found ≡ member)
from_member world place member is = by (field_at world place) refl is
  where
    by : (o : Option (Found Field)) → field_at world place ≡ o → option_map field_found o ≡ Some member
        → (found : Found Field) × (field_at world place ≡ Some found) × (field_found found ≡ member)
    by None at is = absurd cc
    by (Some found) at is = let same : field_found found ≡ member = cc in (found, at, same)

same_self : (m : MemberReference) → same_member m m ≡ true
same_self m =
    and_from (bytes_eq m.name m.name && bytes_eq m.descriptor m.descriptor) (bytes_eq m.class m.class)
    (and_from (bytes_eq m.name m.name) (bytes_eq m.descriptor m.descriptor) (text_same m.name m.name refl) (text_same m.descriptor m.descriptor refl))
    (text_same m.class m.class refl)

same_is : (m n : MemberReference) → same_member m n ≡ true → m ≡ n
same_is m n h =
    let parts = and_parts (bytes_eq m.name n.name && bytes_eq m.descriptor n.descriptor) (bytes_eq m.class n.class) h in
    let own = and_parts (bytes_eq m.name n.name) (bytes_eq m.descriptor n.descriptor) parts.0 in
    let class = same_text m.class n.class parts.1 in
    let name = same_text m.name n.name own.0 in
    let descriptor = same_text m.descriptor n.descriptor own.1 in
    λ i. record { class = class i; name = name i; descriptor = descriptor i }

module _ (world : World) (apart : IsDistinct bytes_eq (names_of world)) where
  name_here : (k : ℕ) (c : Class) → slice_get world.classes k ≡ Some c → k < length (names_of world)
  name_here k c at = let inside = slice_get_within world.classes k c at in omega (arith, inside, length-map world.classes name_of)

  -- classes of one name are one
  pub one_class : (j k : ℕ) (a b : Class) → slice_get world.classes j ≡ Some a → slice_get world.classes k ≡ Some b → a.name ≡ b.name → j ≡ k
  one_class j k a b at there same =
      (Decides-eqb j k).0
      (sym (bytes_eq-places (names_of world) apart j k (name_here j a at) (name_here k b there))
      ∙ text_same (get_or (names_of world) j []) (get_or (names_of world) k []) (name_at_place world j a at ∙ same ∙ sym (name_at_place world k b there)))

  -- a class is found by its name
  pub found_there : (k : ℕ) (c : Class) → slice_get world.classes k ≡ Some c → class_in world c.name ≡ Some c
  found_there k c at =
      class_in-position world c.name
      ∙ ap (λ (name : List ℕ). option_and_then (slice_get world.classes) (position (bytes_eq name) (names_of world))) (sym (name_at_place world k c at))
      ∙ ap (option_and_then (slice_get world.classes)) (own_place (names_of world) apart k (name_here k c at)) ∙ at

  module _ (once : HaveMembersOnce world) where
    fields_once : (k : ℕ) (c : Class) → slice_get world.classes k ≡ Some c → has_twice same_field c.fields ≡ false
    fields_once k c at =
        (or_parts (has_twice same_field c.fields) (has_twice same_method c.methods)
        (not_true (has_member_twice c) (all_here (λ (d : Class). not (has_member_twice d)) world.classes k c at once))).0
      where
        not_true : (b : Bool) → not b ≡ true → b ≡ false
        not_true true h = absurd cc
        not_true false h = refl

    -- one member has one place
    pub one_place : (p q : FieldPlace) (a b : Found Field) → field_at world p ≡ Some a → field_at world q ≡ Some b → field_found a ≡ field_found b → p ≡ q
    one_place p q a b at there same =
        let one = is_at world p a at in
        let other = is_at world q b there in
        let class : p.class.0 ≡ q.class.0 =
        one_class p.class.0 q.class.0 one.class other.class one.at other.at (sym one.named ∙ ap (λ (m : MemberReference). m.class) same ∙ other.named) in
        let both : Some other.class ≡ Some one.class = sym other.at ∙ ap (slice_get world.classes) (sym class) ∙ one.at in
        let is : other.class ≡ one.class = cc in
        let own : slice_get one.class.fields q.index ≡ Some b.member = ap (λ (c : Class). slice_get c.fields q.index) (sym is) ∙ other.own in
        let name = ap (λ (m : MemberReference). m.name) same in
        let descriptor = ap (λ (m : MemberReference). m.descriptor) same in
        let index : p.index ≡ q.index =
        once_at same_field one.class.fields p.index q.index a.member b.member (fields_once p.class.0 one.class one.at) one.own own
        (and_from (bytes_eq a.member.name b.member.name) (bytes_eq a.member.descriptor b.member.descriptor) (text_same _ _ name) (text_same _ _ descriptor))
        (and_from (bytes_eq b.member.name a.member.name) (bytes_eq b.member.descriptor a.member.descriptor) (text_same _ _ (sym name)) (text_same _ _ (sym descriptor))) in
        λ i. record { class = record { 0 = class i }; index = index i }

    -- ---- the layout of a class

    module _ (place : FieldPlace) (found : Found Field) (at : field_at world place ≡ Some found) where
      -- a place in the layout is the field's exactly where the member there is
      same_tests : (q : FieldPlace) (y : MemberReference) → member_at world q ≡ Some y → same_place place q ≡ same_member (field_found found) y
      same_tests q y is = by (same_place place q) refl (same_member (field_found found) y) refl
        where
          by : (b : Bool) → same_place place q ≡ b → (d : Bool) → same_member (field_found found) y ≡ d → same_place place q ≡ same_member (field_found found) y
          by true one true other = one ∙ sym other
          by false one false other = one ∙ sym other
          by true one false other =
              let parts = and_parts (place.class.0 == q.class.0) (place.index == q.index) one in
              let class = (Decides-eqb place.class.0 q.class.0).0 parts.0 in
              let index = (Decides-eqb place.index q.index).0 parts.1 in
              let same : place ≡ q = λ i. record { class = record { 0 = class i }; index = index i } in
              let both : Some (field_found found) ≡ Some y = sym (ap (option_map field_found) at) ∙ ap (member_at world) same ∙ is in
              let member : field_found found ≡ y = cc in
              absurd (both_ways (same_member (field_found found) y) other (ap (same_member (field_found found)) (sym member) ∙ same_self (field_found found)))
          by false one true other =
              let from = from_member world q y is in
              let same : place ≡ q = one_place place q found from.0 at from.1 (same_is (field_found found) y other ∙ sym from.2) in
              absurd (both_ways (same_place place q) one
              (and_from (place.class.0 == q.class.0) (place.index == q.index)
              ((Decides-eqb place.class.0 q.class.0).1 (ap (λ (p : FieldPlace). p.class.0) same))
              ((Decides-eqb place.index q.index).1 (ap (λ (p : FieldPlace). p.index) same))))

      module _ (row : List FieldPlace) (are : map (member_at world) row ≡ map Some (layout world found.class)) where
        -- what is at a place of the row, and in the layout
        pub from_row : (j : ℕ) (q : FieldPlace) → slice_get row j ≡ Some q
            → (y : MemberReference) × (slice_get (layout world found.class) j ≡ Some y) × (member_at world q ≡ Some y)
        from_row j q there = by (slice_get (layout world found.class) j) refl
            (sym (slice_get-map Some (layout world found.class) j) ∙ ap (λ (l : List (Option MemberReference)). slice_get l j) (sym are)
            ∙ slice_get-map (member_at world) row j ∙ ap (option_map (member_at world)) there)
          where
            by : (o : Option MemberReference) → slice_get (layout world found.class) j ≡ o → option_map Some o ≡ Some (member_at world q)
                → (y : MemberReference) × (slice_get (layout world found.class) j ≡ Some y) × (member_at world q ≡ Some y)
            by None is e = absurd cc
            by (Some y) is e = let same : Some y ≡ member_at world q = cc in (y, is, sym same)

        pub to_row : (j : ℕ) (y : MemberReference) → slice_get (layout world found.class) j ≡ Some y
            → (q : FieldPlace) × (slice_get row j ≡ Some q) × (member_at world q ≡ Some y)
        to_row j y there = by (slice_get row j) refl
            (sym (slice_get-map (member_at world) row j) ∙ ap (λ (l : List (Option MemberReference)). slice_get l j) are
            ∙ slice_get-map Some (layout world found.class) j ∙ ap (option_map Some) there)
          where
            by : (o : Option FieldPlace) → slice_get row j ≡ o → option_map (member_at world) o ≡ Some (Some y)
                → (q : FieldPlace) × (slice_get row j ≡ Some q) × (member_at world q ≡ Some y)
            by None is e = absurd cc
            by (Some q) is e = let same : member_at world q ≡ Some y = cc in (q, is, same)

        last_there : (word : ℕ) → IsLast (same_place place) row word → IsLast (same_member (field_found found)) (layout world found.class) word
        last_there word last =
            let own = from_row word last.item last.at in
            record {
              item = own.0;
              at = own.1;
              passes = sym (same_tests last.item own.0 own.2) ∙ last.passes;
              after = λ j y beyond there. (let other = to_row j y there in sym (same_tests other.0 y other.2) ∙ last.after j other.0 beyond other.1);
            }

        none_there : IsLastOf row place None → (j : ℕ) (y : MemberReference) → slice_get (layout world found.class) j ≡ Some y → same_member (field_found found) y ≡ false
        none_there none j y there = let other = to_row j y there in sym (same_tests other.0 y other.2) ∙ none j other.0 other.1

        -- what the class declares for its objects has a last place
        some_there : is_static_field found.member ≡ false → list_any (same_member (field_found found)) (layout world found.class) ≡ true
        some_there own =
            let is = is_at world place found at in
            let inside = slice_get_within world.classes place.class.0 is.class is.at in
            in_layout world (field_found found) is.class (length world.classes - 1) (omega (arith, inside))
            (ap (class_in world) is.named ∙ found_there place.class.0 is.class is.at)
            (record {
              index = place.index;
              member = found.member;
              at = is.own;
              passes = ap (λ (b : Bool). beq b false) own;
              same = ap (λ (n : List ℕ). same_member (field_found found) (record { class = n; name = found.member.name; descriptor = found.member.descriptor })) (sym is.named) ∙ same_self (field_found found);
            })

        -- and what is in the layout isn't static
        not_static : list_any (same_member (field_found found)) (layout world found.class) ≡ true → is_static_field found.member ≡ false
        not_static any =
            let is = is_at world place found at in
            let of = from_layout world (field_found found) found.class any in
            let both : Some of.class ≡ Some is.class = sym of.at ∙ ap (class_in world) is.named ∙ found_there place.class.0 is.class is.at in
            let class : of.class ≡ is.class = cc in
            let other : slice_get is.class.fields of.own.index ≡ Some of.own.member = ap (λ (c : Class). slice_get c.fields of.own.index) (sym class) ∙ of.own.at in
            let parts = and_parts (bytes_eq found.member.name of.own.member.name && bytes_eq found.member.descriptor of.own.member.descriptor) (bytes_eq found.class of.class.name) of.own.same in
            let own = and_parts (bytes_eq found.member.name of.own.member.name) (bytes_eq found.member.descriptor of.own.member.descriptor) parts.0 in
            let back = and_from (bytes_eq of.own.member.name found.member.name) (bytes_eq of.own.member.descriptor found.member.descriptor)
            (text_same of.own.member.name found.member.name (sym (same_text found.member.name of.own.member.name own.0)))
            (text_same of.own.member.descriptor found.member.descriptor (sym (same_text found.member.descriptor of.own.member.descriptor own.1))) in
            let index : place.index ≡ of.own.index =
            once_at same_field is.class.fields place.index of.own.index found.member of.own.member (fields_once place.class.0 is.class is.at) is.own other parts.0 back in
            let one : Some found.member ≡ Some of.own.member = sym is.own ∙ ap (slice_get is.class.fields) index ∙ other in
            let member : found.member ≡ of.own.member = cc in
            ap is_static_field member ∙ not_of (is_static_field of.own.member) of.own.passes
          where
            not_of : (b : Bool) → beq b false ≡ true → b ≡ false
            not_of true h = absurd cc
            not_of false h = refl

        pub is_word : (entry : Option ℕ) → IsLastOf row place entry → IsWord world found entry
        is_word (Some word) last =
            let there = last_there word last in
            (not_static (any_last (same_member (field_found found)) (layout world found.class) word there), last_found (same_member (field_found found)) (layout world found.class) word there)
        is_word None none = by (is_static_field found.member) refl
          where
            by : (b : Bool) → is_static_field found.member ≡ b → is_static_field found.member ≡ true
            by true is = is
            by false is = absurd (both_ways (list_any (same_member (field_found found)) (layout world found.class)) (none_any (same_member (field_found found)) (layout world found.class) (none_there none)) (some_there is))

  -- ---- all classes

  module _ (layouts : List (Sequence FieldPlace)) (are : map (λ (row : Sequence FieldPlace). map (member_at world) row.items) layouts ≡ map (λ (c : Class). map Some (layout world c.name)) world.classes) where
    pub layout_there : (k : ℕ) (c : Class) → slice_get world.classes k ≡ Some c
        → (row : Sequence FieldPlace) × (slice_get layouts k ≡ Some row) × (map (member_at world) row.items ≡ map Some (layout world c.name))
    layout_there k c at = by (slice_get layouts k) refl
        (sym (slice_get-map (λ (row : Sequence FieldPlace). map (member_at world) row.items) layouts k)
        ∙ ap (λ (l : List (List (Option MemberReference))). slice_get l k) are
        ∙ slice_get-map (λ (c : Class). map Some (layout world c.name)) world.classes k
        ∙ ap (option_map (λ (c : Class). map Some (layout world c.name))) at)
      where
        by : (o : Option (Sequence FieldPlace)) → slice_get layouts k ≡ o
            → option_map (λ (row : Sequence FieldPlace). map (member_at world) row.items) o ≡ Some (map Some (layout world c.name))
            → (row : Sequence FieldPlace) × (slice_get layouts k ≡ Some row) × (map (member_at world) row.items ≡ map Some (layout world c.name))
        by None is e = absurd cc
        by (Some row) is e = let same : map (member_at world) row.items ≡ map Some (layout world c.name) = cc in (row, is, same)

    -- each field of the class in its layout is one of those that it declares
    pub are_inside : (class : ClassNo) (c : Class) (row : Sequence FieldPlace) → slice_get world.classes class.0 ≡ Some c → slice_get layouts class.0 ≡ Some row
        → AreInside class (length c.fields) row.items
    are_inside class c row at is word place there own =
        let known = layout_there class.0 c at in
        let both : Some known.0 ≡ Some row = sym known.1 ∙ is in
        let same : known.0 ≡ row = cc in
        let rows = ap (λ (r : Sequence FieldPlace). map (member_at world) r.items) (sym same) ∙ known.2 in
        by (slice_get (layout world c.name) word) refl
        (sym (slice_get-map Some (layout world c.name) word) ∙ ap (λ (l : List (Option MemberReference)). slice_get l word) (sym rows)
        ∙ slice_get-map (member_at world) row.items word ∙ ap (option_map (member_at world)) there)
      where
        by : (o : Option MemberReference) → slice_get (layout world c.name) word ≡ o → option_map Some o ≡ Some (member_at world place) → place.index < length c.fields
        by None is e = absurd cc
        by (Some y) is e =
            let member : Some y ≡ member_at world place = cc in
            let from = from_member world place y (sym member) in
            let here = is_at world place from.0 from.1 in
            let both : Some here.class ≡ Some c = sym here.at ∙ ap (slice_get world.classes) own ∙ at in
            let class_is : here.class ≡ c = cc in
            let inside = slice_get_within here.class.fields place.index from.0.member here.own in
            subst (λ (k : Class). place.index < length k.fields) class_is inside

    pub are_words : HaveMembersOnce world → (rows : Words) → AreRows world layouts rows → AreWords world rows
    are_words once rows made place found at =
        let is = is_at world place found at in
        let known = layout_there place.class.0 is.class is.at in
        let inside : place.class.0 < length rows = let there = slice_get_within world.classes place.class.0 is.class is.at in omega (arith, there, made.count) in
        let row = get_or rows place.class.0 [] in
        let row_at : slice_get rows place.class.0 ≡ Some row = slice_get-get_or rows place.class.0 [] inside in
        let of = made.each place.class is.class known.0 row is.at known.1 row_at in
        let within : place.index < length row = let there = slice_get_within is.class.fields place.index found.member is.own in omega (arith, there, of.length_is) in
        let entry = get_or row place.index None in
        let entry_is : slice_get row place.index ≡ Some entry = slice_get-get_or row place.index None within in (
          entry,
          ap (option_and_then (λ (r : List (Option ℕ)). slice_get r place.index)) row_at ∙ entry_is,
          is_word once place found at known.0.items (known.2 ∙ ap (λ (n : List ℕ). map Some (layout world n)) (sym is.named)) entry (of.each place.index entry entry_is),
        )
