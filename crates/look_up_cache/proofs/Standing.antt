-- What stands for what was found.
use Rattle.std.proofs.Common.{map, ◌≡◌, ℕ, zero, suc, Bool, true, List, [], ◌∷◌, Option, Some, None, length, refl, sym, ap, subst, ◌∙◌}
use Rattle.std.specs.Prelude.{IsSome, if◌then◌else◌, bytes_eq, filter_map, flat_map, is_some, nat_lt, option_map, option_and_then, option_to_list, position, slice_get, unwrap_or}
use Rattle.std.specs.List.{cons_option, list_all, list_any}
use Rattle.std.proofs.lemmas.Bool.{and_from, and_parts, or_left, or_right}
use Rattle.std.proofs.lemmas.Bool.Decides.{Decides-ltb}
use Rattle.std.proofs.lemmas.List.{append-nil}
use Rattle.std.proofs.lemmas.List.Folds.{list_any-append}
use Rattle.std.proofs.lemmas.Option.{slice_get-map, slice_get_within}
use Rattle.jv_model.specs.ClassData.{Const, gap, string}
use Rattle.jv_model.specs.ConstantPool.{const_at, units_at}
use Rattle.jv_model.specs.LoadedClass.{LoadedClass}
use Rattle.world_model.specs.World.{World, Class, Field, Method}
use Rattle.world_model.specs.LookUp.{Found}
use Rattle.link_laws.proofs.Names.{text_same}
use Rattle.link_laws.proofs.Once.{each_once_keeps}
use Rattle.jv_types.specs.declared.number.MethodNo.{MethodNo}
use Rattle.class_world.specs.World.{field_at, method_at}
use Rattle.class_world.specs.declared.class_info.FieldPlace.{FieldPlace}
use Rattle.class_world.proofs.Places.{some-position}
use Rattle.member_numbers.specs.Numbers.{number_of}
use Rattle.world_literals.specs.Literals.{have, pool_strings, string_in, class_strings, world_strings, literals_of}
use Rattle.class_versions.specs.Slots.{Slots, AreSlots, slot_of}
use Rattle.look_up_cache.specs.Targets.{Target, a_class, a_field, a_method, a_literal, named_by, named_target, target_by, target_of, pool_in}
use Rattle.look_up_cache.specs.Words.{Words, AreWords, IsWord}
use Rattle.look_up_cache.specs.Found.{found_in, slot_by, slot_in}
use Rattle.look_up_cache.specs.Slots.{IsSlotOf}
use Rattle.look_up_cache.specs.declared.by_name.Resolved.{Resolved}
use Rattle.look_up_cache.specs.declared.by_name.Resolved.TheVariants as found
use Rattle.look_up_cache.specs.declared.slot.Slot.{Slot}
use Rattle.look_up_cache.specs.declared.slot.Slot.TheVariants as slot

-- ---- classes, fields and methods

module _ (world : World) (slots : Slots) (texts : List (List ℕ)) (words : Words) (counts : slots.counts ≡ map (λ (c : Class). length c.methods) world.classes) (are : AreSlots slots)
    (are_words : AreWords world words) where
  -- something stands for it
  pub record HasSlot (resolved : Resolved) (target : Target) : Type 0 where
    pub standing : Slot
    pub is : slot_in slots words resolved ≡ Some standing
    pub stands : IsSlotOf world slots texts target standing

  field_stands : (place : FieldPlace) (f : Found Field) → field_at world place ≡ Some f → (entry : Option ℕ) → IsWord world f entry
      → IsSlotOf world slots texts (a_field f) (slot_by place entry)
  field_stands place f at None is = (is, at)
  field_stands place f at (Some word) is = is

  slot_there : (m : MethodNo) (f : Found Method) → method_at world m ≡ Some f → (n : ℕ) × (slot_of slots m ≡ Some n)
  slot_there m f at = of (slice_get world.classes m.class.0) refl at
    where
      within : (c : Class) (o : Option Method) → slice_get world.classes m.class.0 ≡ Some c → slice_get c.methods m.index ≡ o → is_some o ≡ true
          → (n : ℕ) × (slot_of slots m ≡ Some n)
      within c None there own some = absurd cc
      within c (Some method) there own some =
          let inside = slice_get_within c.methods m.index method own in
          let count : slice_get slots.counts m.class.0 ≡ Some (length c.methods) =
          ap (λ (l : List ℕ). slice_get l m.class.0) counts ∙ slice_get-map (λ (k : Class). length k.methods) world.classes m.class.0
          ∙ ap (option_map (λ (k : Class). length k.methods)) there in (
            number_of slots.counts m.class.0 m.index,
            ap (option_and_then (λ (n : ℕ). if nat_lt m.index n then Some (number_of slots.counts m.class.0 m.index) else None)) count
                ∙ ap (λ (b : Bool). if b then Some (number_of slots.counts m.class.0 m.index) else None) ((Decides-ltb m.index (length c.methods)).1 inside),
          )

      found_some : (c : Class) (o : Option Method) → option_map (λ (method : Method). let r : Found Method = record { class = c.name; member = method } in r) o ≡ Some f → is_some o ≡ true
      found_some c None is = absurd cc
      found_some c (Some method) is = refl

      of : (o : Option Class) → slice_get world.classes m.class.0 ≡ o
          → option_and_then (λ (c : Class). option_map (λ (method : Method). let r : Found Method = record { class = c.name; member = method } in r) (slice_get c.methods m.index)) o ≡ Some f
          → (n : ℕ) × (slot_of slots m ≡ Some n)
      of None there is = absurd cc
      of (Some c) there is = within c (slice_get c.methods m.index) there refl (found_some c (slice_get c.methods m.index) is)

  pub has_slot : (resolved : Resolved) (target : Target) → found_in world resolved ≡ Some target → HasSlot resolved target
  has_slot (found.Class class) target is = of (slice_get world.classes class.0) refl is
    where
      of : (o : Option Class) → slice_get world.classes class.0 ≡ o → option_map (λ (c : Class). a_class c.name) o ≡ Some target → HasSlot (found.Class class) target
      of None at e = absurd cc
      of (Some c) at e =
          let same : a_class c.name ≡ target = cc in
          subst (HasSlot (found.Class class)) same (record { standing = slot.Class class; is = refl; stands = ap (option_map (λ (k : Class). k.name)) at })
  has_slot (found.Field place) target is = of (field_at world place) refl is
    where
      of : (o : Option (Found Field)) → field_at world place ≡ o → option_map a_field o ≡ Some target → HasSlot (found.Field place) target
      of None at e = absurd cc
      of (Some f) at e =
          let same : a_field f ≡ target = cc in
          let entry = are_words place f at in
          subst (HasSlot (found.Field place)) same
          (record { standing = slot_by place entry.0; is = ap (option_map (slot_by place)) entry.1; stands = field_stands place f at entry.0 entry.2 })
  has_slot (found.Method m) target is = of (method_at world m) refl is
    where
      of : (o : Option (Found Method)) → method_at world m ≡ o → option_map a_method o ≡ Some target → HasSlot (found.Method m) target
      of None at e = absurd cc
      of (Some f) at e =
          let same : a_method f ≡ target = cc in
          let there = slot_there m f at in
          subst (HasSlot (found.Method m)) same
          (record {
            standing = slot.Method there.0;
            is = ap (option_map (λ (n : ℕ). slot.Method n)) there.1;
            stands = ap (option_and_then (method_at world)) (are.each_method m there.0 there.1) ∙ at;
          })

  -- what stands for it stands for the target
  pub it_stands : (resolved : Resolved) (target : Target) (standing : Slot) → found_in world resolved ≡ Some target → slot_in slots words resolved ≡ Some standing
      → IsSlotOf world slots texts target standing
  it_stands resolved target standing is stands =
      let has = has_slot resolved target is in
      let both : Some has.standing ≡ Some standing = sym has.is ∙ stands in
      let same : has.standing ≡ standing = cc in
      subst (IsSlotOf world slots texts target) same has.stands

  pub some_slot : (resolved : Resolved) (target : Option Target) → option_map (found_in world) (Some resolved) ≡ option_map Some target → IsSome (slot_in slots words resolved)
  some_slot resolved None is = absurd cc
  some_slot resolved (Some target) is =
      let found : found_in world resolved ≡ Some target = cc in
      ap is_some (has_slot resolved target found).is

-- ---- literals

pub string_target : (world : World) (pool : List Const) (index : ℕ) (c : Const) (units : List ℕ) → string_in pool c ≡ Some units
    → target_by world pool index c ≡ Some (a_literal units)
string_target world pool index (string text) units is = let same : units_at pool text ≡ units = cc in ap (λ (u : List ℕ). Some (a_literal u)) same
string_target world pool index other units is = absurd cc

pub name_target : (world : World) (pool : List Const) (index : ℕ) (c : Const) → string_in pool c ≡ None
    → target_by world pool index c ≡ named_by world pool index c
name_target world pool index (string text) none = absurd cc
name_target world pool index other none = refl

one_passes : (test : List ℕ → Bool) (f : Const → Option (List ℕ)) (xs : List Const) (k : ℕ) (x : Const) (b : List ℕ) → list_all test (filter_map f xs) ≡ true
    → slice_get xs k ≡ Some x → f x ≡ Some b → test b ≡ true
one_passes test f [] k x b all at is = absurd cc
one_passes test f (y ∷ xs) zero x b all at is =
    let same : y ≡ x = cc in
    (and_parts (test b) (list_all test (filter_map f xs))
    (sym (ap (λ (o : Option (List ℕ)). list_all test (cons_option o (filter_map f xs))) (ap f same ∙ is)) ∙ all)).0
one_passes test f (y ∷ xs) (suc k) x b all at is = by (λ rest. one_passes test f xs k x b rest at is) (f y) all
  where
    by : (list_all test (filter_map f xs) ≡ true → test b ≡ true) → (o : Option (List ℕ)) → list_all test (cons_option o (filter_map f xs)) ≡ true → test b ≡ true
    by later None all = later all
    by later (Some c) all = later (and_parts (test c) (list_all test (filter_map f xs)) all).1

pub literal_there : (texts : List (List ℕ)) (pool : List Const) (index : ℕ) (units : List ℕ) → have texts (pool_strings pool) ≡ true
    → string_in pool (const_at pool index) ≡ Some units → IsSome (position (bytes_eq units) texts)
literal_there texts pool index units all is = of (slice_get pool index) refl is
  where
    of : (o : Option Const) → slice_get pool index ≡ o → string_in pool (unwrap_or o gap) ≡ Some units → IsSome (position (bytes_eq units) texts)
    of None at own = absurd cc
    of (Some c) at own = some-position (bytes_eq units) texts ∙ one_passes (λ (u : List ℕ). list_any (bytes_eq u) texts) (string_in pool) pool index c units all at own

-- the Strings of a pool of a world are among its literals
pub pool_literals : (world : World) (texts : List (List ℕ)) (k : ℕ) (c : Class) → slice_get world.classes k ≡ Some c → texts ≡ literals_of world
    → have texts (pool_strings (pool_in c.loaded)) ≡ true
pool_literals world texts k c at are =
    all_by (λ (u : List ℕ). list_any (bytes_eq u) texts) (pool_strings (pool_in c.loaded))
    (λ u own. ap (list_any (bytes_eq u)) are ∙ each_once_keeps (world_strings world) u (any_flat u world.classes k at (in_class c.loaded u own)))
  where
    all_by : (test : List ℕ → Bool) (xs : List (List ℕ)) → ((u : List ℕ) → list_any (bytes_eq u) xs ≡ true → test u ≡ true) → list_all test xs ≡ true
    all_by test [] each = refl
    all_by test (x ∷ xs) each =
        and_from (test x) (list_all test xs) (each x (or_left (bytes_eq x x) (list_any (bytes_eq x) xs) (text_same x x refl)))
        (all_by test xs (λ u own. each u (or_right (bytes_eq u x) (list_any (bytes_eq u) xs) own)))

    in_class : (loaded : Option LoadedClass) (u : List ℕ) → list_any (bytes_eq u) (pool_strings (pool_in loaded)) ≡ true
        → list_any (bytes_eq u) (flat_map (λ (l : LoadedClass). pool_strings l.file.pool) (option_to_list loaded)) ≡ true
    in_class None u own = own
    in_class (Some loaded) u own = ap (list_any (bytes_eq u)) (append-nil (pool_strings loaded.file.pool)) ∙ own

    any_flat : (u : List ℕ) (classes : List Class) (k : ℕ) → slice_get classes k ≡ Some c → list_any (bytes_eq u) (class_strings c) ≡ true
        → list_any (bytes_eq u) (flat_map class_strings classes) ≡ true
    any_flat u [] k at own = absurd cc
    any_flat u (d ∷ classes) zero at own =
        let one : d ≡ c = cc in
        list_any-append (bytes_eq u) (class_strings d) (flat_map class_strings classes)
        ∙ or_left (list_any (bytes_eq u) (class_strings d)) (list_any (bytes_eq u) (flat_map class_strings classes)) (ap (λ (e : Class). list_any (bytes_eq u) (class_strings e)) one ∙ own)
    any_flat u (d ∷ classes) (suc k) at own =
        list_any-append (bytes_eq u) (class_strings d) (flat_map class_strings classes)
        ∙ or_right (list_any (bytes_eq u) (class_strings d)) (list_any (bytes_eq u) (flat_map class_strings classes)) (any_flat u classes k at own)

-- ---- an entry

module _ (world : World) (slots : Slots) (texts : List (List ℕ)) (pool : List Const) (index : ℕ) (standing : Slot) where
  pub literal_stands : (units : List ℕ) → string_in pool (const_at pool index) ≡ Some units
      → ((number : ℕ) × (position (bytes_eq units) texts ≡ Some number) × (standing ≡ slot.Literal number))
      → (target : Target) → target_of world pool index ≡ Some target → IsSlotOf world slots texts target standing
  literal_stands units is stands target named =
      let both : Some (a_literal units) ≡ Some target = sym (string_target world pool index (const_at pool index) units is) ∙ named in
      let same : a_literal units ≡ target = cc in
      subst (λ (t : Target). IsSlotOf world slots texts t standing) same
      (subst (IsSlotOf world slots texts (a_literal units)) (sym stands.2) stands.1)

  pub name_stands : string_in pool (const_at pool index) ≡ None
      → ((target : Target) → named_target world pool index ≡ Some target → IsSlotOf world slots texts target standing)
      → (target : Target) → target_of world pool index ≡ Some target → IsSlotOf world slots texts target standing
  name_stands none stands target named = stands target (sym (name_target world pool index (const_at pool index) none) ∙ named)

-- ---- whether an entry leads anywhere

pub same_some : {A B : Type 0} (f : A → Option B) (found : Option A) (target : Option B) → option_map f found ≡ option_map Some target → is_some found ≡ is_some target
same_some f None None is = refl
same_some f None (Some t) is = absurd cc
same_some f (Some a) None is = absurd cc
same_some f (Some a) (Some t) is = refl

pub string_leads : (world : World) (pool : List Const) (index : ℕ) (c : Const) (o : Option (List ℕ)) → o ≡ string_in pool c → is_some o ≡ true
    → true ≡ is_some (target_by world pool index c)
string_leads world pool index c None is some = absurd cc
string_leads world pool index c (Some units) is some = sym (ap is_some (string_target world pool index c units (sym is)))
