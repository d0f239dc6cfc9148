-- Static fields are read and written by place as they are by name.
use Rattle.std.proofs.Common.{◌≡◌, ◌≢◌, ℕ, zero, suc, ◌+◌, ◌==◌, ◌&&◌, Bool, true, false, List, [], ◌∷◌, ◌++◌, Option, Some, None, map, slice_get, option_map, is_some, if◌then◌else◌, refl, ap, sym, subst, ◌∙◌, true≢false, arith}
use Rattle.std.specs.Prelude.{IsTrue, find, flat_map}
use Rattle.std.specs.List.{list_all}
use Rattle.std.proofs.lemmas.Bool.{and_from, and_parts}
use Rattle.std.proofs.lemmas.Bool.Decides.{Decides-eqb}
use Rattle.std.proofs.lemmas.List.{map-append}
use Rattle.std.proofs.lemmas.List.Folds.{find-append, list_all-append}
use Rattle.std.specs.Option.{option_or}
use Rattle.jv_model.specs.Operand.{MemberReference}
use Rattle.world_model.specs.World.{World, Class, Field, is_static_field}
use Rattle.world_model.specs.LookUp.{Found}
use Rattle.world_model.specs.Members.{field_of, same_member}
use Rattle.machine_model.specs.Value as model
use Rattle.machine_model.specs.Value.{id_in}
use Rattle.machine_model.specs.State.{Static, static_value, with_static}
use Rattle.class_layouts.specs.Layouts.{field_found}
use Rattle.jv_values.specs.declared.value.Value.{Value}
use Rattle.jv_values.specs.Values.{value_of}
use Rattle.static_fields.specs.Statics.{Statics, Place, same_place, value_at, value_in}
use Rattle.heap_objects.specs.Ids.{Ids, are_live, value_by, static_by}
use Rattle.machine_shared.specs.Shared.{static_in, own_statics, statics_from, statics_in, AreStatics}
use Rattle.machine_shared.specs.Laws.{HasStatic, StaticsAreRead, StaticsAreWritten}
use Rattle.machine_shared.proofs.Named.{Stands, stands, named_there}

-- ---- static fields by name, with other values

abbrev is_named : MemberReference → Static → Bool
is_named field s = same_member s.field field

found_by : (id : ℕ → ℕ) (field : MemberReference) (xs : List Static)
    → find (is_named field) (map (static_by id) xs) ≡ option_map (static_by id) (find (is_named field) xs)
found_by id field [] = refl
found_by id field (x ∷ xs) = by (found_by id field xs) (is_named field x)
  where
    by : find (is_named field) (map (static_by id) xs) ≡ option_map (static_by id) (find (is_named field) xs) → (b : Bool)
        → (if b then Some (static_by id x) else find (is_named field) (map (static_by id) xs))
        ≡ option_map (static_by id) (if b then Some x else find (is_named field) xs)
    by rest true = refl
    by rest false = rest

written_by : (id : ℕ → ℕ) (field : MemberReference) (v : model.Value) (xs : List Static)
    → map (static_by id) (with_static field v xs) ≡ with_static field (value_by id v) (map (static_by id) xs)
written_by id field v [] = refl
written_by id field v (x ∷ xs) = λ i. one (is_named field x) i ∷ written_by id field v xs i
  where
    one : (b : Bool) → static_by id (if b then record x { value = v } else x)
        ≡ (if b then record (static_by id x) { value = value_by id v } else static_by id x)
    one true = refl
    one false = refl

abbrev addresses : Static → List ℕ
addresses s = id_in s.value

live_found : (live : ℕ → Bool) (field : MemberReference) (xs : List Static) (s : Static) → find (is_named field) xs ≡ Some s
    → list_all live (flat_map addresses xs) ≡ true → list_all live (addresses s) ≡ true
live_found live field [] s is all = absurd cc
live_found live field (x ∷ xs) s is all = by (λ is. live_found live field xs s is parts.1) (is_named field x) is
  where
    parts : (list_all live (addresses x) ≡ true) × (list_all live (flat_map addresses xs) ≡ true)
    parts = and_parts (list_all live (addresses x)) (list_all live (flat_map addresses xs))
        (sym (list_all-append live (addresses x) (flat_map addresses xs)) ∙ all)

    by : (find (is_named field) xs ≡ Some s → list_all live (addresses s) ≡ true) → (b : Bool)
        → (if b then Some x else find (is_named field) xs) ≡ Some s → list_all live (addresses s) ≡ true
    by rest true is = let same : x ≡ s = cc in ap (λ (r : Static). list_all live (addresses r)) (sym same) ∙ parts.0
    by rest false is = rest is

live_written : (live : ℕ → Bool) (field : MemberReference) (v : model.Value) (xs : List Static)
    → list_all live (id_in v) ≡ true → list_all live (flat_map addresses xs) ≡ true
    → list_all live (flat_map addresses (with_static field v xs)) ≡ true
live_written live field v [] value all = refl
live_written live field v (x ∷ xs) value all =
    list_all-append live (addresses (if is_named field x then record x { value = v } else x))
    (flat_map addresses (with_static field v xs))
    ∙ and_from (list_all live (addresses (if is_named field x then record x { value = v } else x)))
    (list_all live (flat_map addresses (with_static field v xs))) (one (is_named field x))
    (live_written live field v xs value parts.1)
  where
    parts : (list_all live (addresses x) ≡ true) × (list_all live (flat_map addresses xs) ≡ true)
    parts = and_parts (list_all live (addresses x)) (list_all live (flat_map addresses xs))
        (sym (list_all-append live (addresses x) (flat_map addresses xs)) ∙ all)

    one : (b : Bool) → list_all live (addresses (if b then record x { value = v } else x)) ≡ true
    one true = value
    one false = parts.0

-- ---- places

both_false : (a b : Bool) → b ≡ false → (a && b) ≡ false
both_false true b is = is
both_false false b is = refl

one_false : (a b : Bool) → a ≡ false → (a && b) ≡ false
one_false true b is = absurd cc
one_false false b is = refl

differs : (m n : ℕ) → m ≢ n → (m == n) ≡ false
differs m n other = by (m == n) refl
  where
    by : (b : Bool) → (m == n) ≡ b → (m == n) ≡ false
    by true is = absurd (other ((Decides-eqb m n).0 is))
    by false is = is

module _ (world : World) (place : Place) (found : Found Field) (has : HasStatic world place found) where
  abbrev field : MemberReference
  field = field_found found

  abbrev stand : Stands world place found
  stand = stands world place found has.at

  abbrev at : ℕ → ℕ → Place
  at n i = record { class = record { 0 = n }; index = i }

  -- fields of a class from an index on, and classes of the world from a number on
  abbrev AreFields : Class → ℕ → List Field → Type 0
  AreFields class index fields = (i : ℕ) (f : Field) → slice_get fields i ≡ Some f → slice_get class.fields (index + i) ≡ Some f

  abbrev AreClasses : ℕ → List Class → Type 0
  AreClasses number classes = (k : ℕ) (c : Class) → slice_get classes k ≡ Some c → slice_get world.classes (number + k) ≡ Some c

  more_fields : (class : Class) (index : ℕ) (f : Field) (fields : List Field) → AreFields class index (f ∷ fields) → AreFields class (suc index) fields
  more_fields class index f fields are = λ i g own.
      subst (λ (n : ℕ). slice_get class.fields n ≡ Some g) (omega arith) (are (suc i) g own)

  more_classes : (number : ℕ) (c : Class) (classes : List Class) → AreClasses number (c ∷ classes) → AreClasses (suc number) classes
  more_classes number c classes are = λ k d own.
      subst (λ (n : ℕ). slice_get world.classes n ≡ Some d) (omega arith) (are (suc k) d own)

  first_field : (class : Class) (index : ℕ) (f : Field) (fields : List Field) → AreFields class index (f ∷ fields) → slice_get class.fields index ≡ Some f
  first_field class index f fields are = subst (λ (n : ℕ). slice_get class.fields n ≡ Some f) (omega arith) (are 0 f refl)

  first_class : (number : ℕ) (c : Class) (classes : List Class) → AreClasses number (c ∷ classes) → slice_get world.classes number ≡ Some c
  first_class number c classes are = subst (λ (n : ℕ). slice_get world.classes n ≡ Some c) (omega arith) (are 0 c refl)

  own_fields : (class : Class) → AreFields class 0 class.fields
  own_fields class = λ i f own. subst (λ (n : ℕ). slice_get class.fields n ≡ Some f) (omega arith) own

  all_classes : AreClasses 0 world.classes
  all_classes = λ k c own. subst (λ (n : ℕ). slice_get world.classes n ≡ Some c) (omega arith) own

  test_at : (n index : ℕ) (class : Class) (f : Field) (fields : List Field) → slice_get world.classes n ≡ Some class
      → AreFields class index (f ∷ fields) → same_member (field_of class f) field ≡ same_place place (at n index)
  test_at n index class f fields class_at are =
      named_there world place found has n index class f class_at (first_field class index f fields are)

  -- ---- reading

  module _ (statics : Statics) where
    none_in : (b : Bool) (class : Class) (f : Field) (o : Option Value) → same_member (field_of class f) field ≡ false
        → find (is_named field) (if b then static_in class f o else []) ≡ None
    none_in false class f o other = refl
    none_in true class f None other = refl
    none_in true class f (Some v) other =
        ap (λ (b : Bool). if b then Some (record { field = field_of class f; value = value_of v }) else None) other

    none_own : (n index : ℕ) (class : Class) (fields : List Field) → slice_get world.classes n ≡ Some class
        → AreFields class index fields → place.class.0 ≢ n → find (is_named field) (own_statics statics n class index fields) ≡ None
    none_own n index class [] class_at are other = refl
    none_own n index class (f ∷ fields) class_at are other =
        find-append (is_named field) (if is_static_field f then static_in class f (value_at statics (at n index)) else [])
        (own_statics statics n class (suc index) fields)
        ∙ ap (λ (o : Option Static). option_or o (find (is_named field) (own_statics statics n class (suc index) fields)))
        (none_in (is_static_field f) class f (value_at statics (at n index))
        (test_at n index class f fields class_at are
        ∙ one_false (place.class.0 == n) (place.index == index) (differs place.class.0 n other)))
        ∙ none_own n (suc index) class fields class_at (more_fields class index f fields are) other

    module _ (value : Value) (there : value_at statics place ≡ Some value) where
      abbrev result : Static
      result = record { field = field_of stand.class stand.field; value = value_of value }

      static_here : is_static_field stand.field ≡ true
      static_here = ap (λ (f : Found Field). is_static_field f.member) (sym stand.is) ∙ has.static

      named_here : same_member (field_of stand.class stand.field) field ≡ true
      named_here =
          named_there world place found has place.class.0 place.index stand.class stand.field stand.class_at stand.field_at
          ∙ and_from (place.class.0 == place.class.0) (place.index == place.index)
          ((Decides-eqb place.class.0 place.class.0).1 refl) ((Decides-eqb place.index place.index).1 refl)

      found_own : (n index k : ℕ) (fields : List Field) → place.class.0 ≡ n → place.index ≡ index + k
          → AreFields stand.class index fields → slice_get fields k ≡ Some stand.field
          → find (is_named field) (own_statics statics n stand.class index fields) ≡ Some result
      found_own n index k [] number is are own = absurd cc
      found_own n index zero (f ∷ fields) number is are own =
          let same : f ≡ stand.field = cc in
          let rest = own_statics statics n stand.class (suc index) fields in
          let value_here : value_at statics (at n index) ≡ Some value =
          (λ i. value_in statics.counts statics.values (sym number i) (index_is i)) ∙ there in
          let head : (if is_static_field f then static_in stand.class f (value_at statics (at n index)) else []) ≡ result ∷ [] =
          ap (λ (g : Field). if is_static_field g then static_in stand.class g (value_at statics (at n index)) else []) same
          ∙ ap (λ (b : Bool). if b then static_in stand.class stand.field (value_at statics (at n index)) else []) static_here
          ∙ ap (static_in stand.class stand.field) value_here in
          ap (λ (l : List Static). find (is_named field) (l ++ rest)) head
          ∙ ap (λ (b : Bool). if b then Some result else find (is_named field) rest) named_here
        where
          index_is : index ≡ place.index
          index_is = omega (arith, is)
      found_own n index (suc k) (f ∷ fields) number is are own =
          let class_at : slice_get world.classes n ≡ Some stand.class =
          subst (λ (m : ℕ). slice_get world.classes m ≡ Some stand.class) number stand.class_at in
          let apart : place.index ≢ index = λ same. absurd (omega (arith, same, is)) in
          find-append (is_named field)
          (if is_static_field f then static_in stand.class f (value_at statics (at n index)) else [])
          (own_statics statics n stand.class (suc index) fields)
          ∙ ap (λ (o : Option Static). option_or o (find (is_named field) (own_statics statics n stand.class (suc index) fields)))
          (none_in (is_static_field f) stand.class f (value_at statics (at n index))
          (test_at n index stand.class f fields class_at are
          ∙ both_false (place.class.0 == n) (place.index == index) (differs place.index index apart)))
          ∙ found_own n (suc index) k fields number (omega (arith, is)) (more_fields stand.class index f fields are) own

      found_from : (number k : ℕ) (classes : List Class) → place.class.0 ≡ number + k → AreClasses number classes
          → slice_get classes k ≡ Some stand.class → find (is_named field) (statics_from statics number classes) ≡ Some result
      found_from number k [] is are own = absurd cc
      found_from number zero (c ∷ classes) is are own =
          let same : c ≡ stand.class = cc in
          let rest = statics_from statics (suc number) classes in
          find-append (is_named field) (own_statics statics number c 0 c.fields) rest
          ∙ ap (λ (d : Class). option_or (find (is_named field) (own_statics statics number d 0 d.fields)) (find (is_named field) rest)) same
          ∙ ap (λ (o : Option Static). option_or o (find (is_named field) rest))
          (found_own number 0 place.index stand.class.fields (omega (arith, is)) (omega arith) (own_fields stand.class) stand.field_at)
      found_from number (suc k) (c ∷ classes) is are own =
          let apart : place.class.0 ≢ number = λ same. absurd (omega (arith, same, is)) in
          find-append (is_named field) (own_statics statics number c 0 c.fields) (statics_from statics (suc number) classes)
          ∙ ap (λ (o : Option Static). option_or o (find (is_named field) (statics_from statics (suc number) classes)))
          (none_own number 0 c c.fields (first_class number c classes are) (own_fields c) apart)
          ∙ found_from (suc number) k classes (omega (arith, is)) (more_classes number c classes are) own

      found_in : find (is_named field) (statics_in world statics) ≡ Some result
      found_in = found_from 0 place.class.0 world.classes (omega arith) all_classes stand.class_at

      read : (ids : Ids) (fields : List Static) → AreStatics world ids statics fields
          → (static_value fields field ≡ Some (value_by ids.id (value_of value)))
          × IsTrue (are_live ids (id_in (value_of value)))
      read ids fields are = (
        ap (λ (l : List Static). static_value l field) (sym are.same)
            ∙ ap (option_map (λ (s : Static). s.value)) (found_by ids.id field (statics_in world statics))
            ∙ ap (λ (o : Option Static). option_map (λ (s : Static). s.value) (option_map (static_by ids.id) o)) found_in,
        live_found ids.is_live field (statics_in world statics) result found_in are.live,
      )

  -- ---- writing

  module _ (old new : Statics) (value : Value) (there : is_some (value_at old place) ≡ true)
      (changed : (other : Place) → value_at new other ≡ (if same_place place other then Some value else value_at old other)) where
    abbrev change : Static → Static
    change s = if is_named field s then record s { value = value_of value } else s

    written_in : (b t : Bool) (class : Class) (f : Field) (o p : Option Value) → same_member (field_of class f) field ≡ t
        → p ≡ (if t then Some value else o) → (t ≡ true → is_some o ≡ true)
        → map change (if b then static_in class f o else []) ≡ (if b then static_in class f p else [])
    written_in false t class f o p is_t is_p some = refl
    written_in true true class f None p is_t is_p some = absurd (true≢false (sym (some refl)))
    written_in true true class f (Some w) p is_t is_p some =
        ap (λ (b : Bool). (if b then record { field = field_of class f; value = value_of value } else record { field = field_of class f; value = value_of w }) ∷ []) is_t
        ∙ sym (ap (static_in class f) is_p)
    written_in true false class f None p is_t is_p some = sym (ap (static_in class f) is_p)
    written_in true false class f (Some w) p is_t is_p some =
        ap (λ (b : Bool). (if b then record { field = field_of class f; value = value_of value } else record { field = field_of class f; value = value_of w }) ∷ []) is_t
        ∙ sym (ap (static_in class f) is_p)

    there_at : (n index : ℕ) → same_place place (at n index) ≡ true → is_some (value_at old (at n index)) ≡ true
    there_at n index same =
        let parts = and_parts (place.class.0 == n) (place.index == index) same in
        let number : place.class.0 ≡ n = (Decides-eqb place.class.0 n).0 parts.0 in
        let index_is : place.index ≡ index = (Decides-eqb place.index index).0 parts.1 in
        (λ i. is_some (value_in old.counts old.values (sym number i) (sym index_is i))) ∙ there

    written_own : (n index : ℕ) (class : Class) (fields : List Field) → slice_get world.classes n ≡ Some class
        → AreFields class index fields
        → map change (own_statics old n class index fields) ≡ own_statics new n class index fields
    written_own n index class [] class_at are = refl
    written_own n index class (f ∷ fields) class_at are =
        map-append change (if is_static_field f then static_in class f (value_at old (at n index)) else [])
        (own_statics old n class (suc index) fields)
        ∙ (λ i. written_in (is_static_field f) (same_place place (at n index)) class f (value_at old (at n index))
        (value_at new (at n index)) (test_at n index class f fields class_at are) (changed (at n index)) (there_at n index) i
        ++ written_own n (suc index) class fields class_at (more_fields class index f fields are) i)

    written_from : (number : ℕ) (classes : List Class) → AreClasses number classes
        → map change (statics_from old number classes) ≡ statics_from new number classes
    written_from number [] are = refl
    written_from number (c ∷ classes) are =
        map-append change (own_statics old number c 0 c.fields) (statics_from old (suc number) classes)
        ∙ (λ i. written_own number 0 c c.fields (first_class number c classes are) (own_fields c) i
        ++ written_from (suc number) classes (more_classes number c classes are) i)

    written : (ids : Ids) (fields : List Static) → AreStatics world ids old fields → IsTrue (are_live ids (id_in (value_of value)))
        → AreStatics world ids new (with_static field (value_by ids.id (value_of value)) fields)
    written ids fields are live =
        let all = written_from 0 world.classes all_classes in
        record {
          same = ap (map (static_by ids.id)) (sym all) ∙ written_by ids.id field (value_of value) (statics_in world old)
              ∙ ap (with_static field (value_by ids.id (value_of value))) are.same;
          live = ap (λ (l : List Static). list_all ids.is_live (flat_map addresses l)) (sym all)
              ∙ live_written ids.is_live field (value_of value) (statics_in world old) live are.live;
        }

pub are_read : StaticsAreRead
are_read world ids statics fields place found value has are at = read world place found has statics value at ids fields are

pub are_written : StaticsAreWritten
are_written world ids old new fields place found value has are there changed live =
    written world place found has old new value there changed ids fields are live
