-- A heap in which one object changes, and stays of its shape.
use Rattle.std.proofs.Common.{◌≡◌, ◌≢◌, ℕ, ◌==◌, ◌+◌, ◌<◌, ◌≤◌, Bool, true, false, List, [], ◌∷◌, Option, Some, None, map, length, slice_get, option_map, if◌then◌else◌, refl, ap, sym, subst, ◌∙◌, true≢false, inl, inr}
use Rattle.std.specs.Prelude.{IsTrue, is_some, unwrap_or, sum}
use Rattle.std.specs.List.{All, AllByRecursion, IsDistinct, sum_by}
use Rattle.std.proofs.lemmas.Bool.{cases_eq, eqb-true, eq-eqb, false_from_ne_true}
use Rattle.std.proofs.lemmas.List.Elements.{All-cons, All-head, All-tail}
use Rattle.std.proofs.lemmas.List.Sums.{sum-map}
use Rattle.std.proofs.lemmas.Map.Keys.{IsDistinct-head, IsDistinct-tail}
use Rattle.run_laws.proofs.Keeping.{slice_get-replace_at, slice_get-replace_same, length-replace_at}
use Rattle.machine_model.specs.Heap.{Object, Heap, replace_at}
use Rattle.heap_face.specs.declared.shape.Shape.{Shape}
use Rattle.heap_face.specs.declared.shape.Kind.{Kind}
use Rattle.heap_face.specs.declared.shape.Kind.TheVariants as kinds
use Rattle.heap_face.specs.Heap.{Stored, Placed, HeapState, object_at, changed_at, header_words, IsWellPlaced, IsSound}
use Rattle.heap_face.specs.Collection.{cells_of}
use Rattle.heap_objects.specs.Ids.{Ids, ids_of, are_live, object_by}
use Rattle.heap_objects.specs.Objects.{Classes, object_in, addresses_in, is_shaped, IsObject, IsHeap}

-- ---- the object at an address

pub at_changed : (change : Stored ℕ → Stored ℕ) (placed : List Placed) (address : ℕ)
    → object_at (changed_at address change placed) address ≡ option_map change (object_at placed address)
at_changed change [] address = refl
at_changed change (p ∷ others) address = by (at_changed change others address) (p.address == address) refl
  where
    by : object_at (changed_at address change others) address ≡ option_map change (object_at others address)
        → (b : Bool) → (p.address == address) ≡ b
        → object_at (if b then record p { object = change p.object } ∷ others else p ∷ changed_at address change others) address
        ≡ option_map change (if b then Some p.object else object_at others address)
    by rest true here = ap (λ (b : Bool). if b then Some (change p.object) else object_at others address) here
    by rest false away = ap (λ (b : Bool). if b then Some p.object else object_at (changed_at address change others) address) away ∙ rest

pub at_others : (change : Stored ℕ → Stored ℕ) (placed : List Placed) (address other : ℕ) → other ≢ address
    → object_at (changed_at address change placed) other ≡ object_at placed other
at_others change [] address other apart = refl
at_others change (p ∷ others) address other apart = by (at_others change others address other apart) (p.address == address) refl
  where
    by : object_at (changed_at address change others) other ≡ object_at others other → (b : Bool) → (p.address == address) ≡ b
        → object_at (if b then record p { object = change p.object } ∷ others else p ∷ changed_at address change others) other
        ≡ object_at (p ∷ others) other
    by rest true here =
        let away : (p.address == other) ≡ false =
        false_from_ne_true (p.address == other) (λ h. apart (sym (eqb-true p.address other h) ∙ eqb-true p.address address here)) in
        ap (λ (b : Bool). if b then Some (change p.object) else object_at others other) away
        ∙ sym (ap (λ (b : Bool). if b then Some p.object else object_at others other) away)
    by rest false away = ap (λ (o : Option (Stored ℕ)). if p.address == other then Some p.object else o) rest

-- ---- serials

own_serial : (P : ℕ → Type 0) (placed : List Placed) (address : ℕ) (object : Stored ℕ)
    → AllByRecursion P (map (λ (p : Placed). p.object.serial) placed) → object_at placed address ≡ Some object → P object.serial
own_serial P [] address object all is = absurd cc
own_serial P (p ∷ others) address object all is = by (own_serial P others address object all.1) (p.address == address) is
  where
    by : (object_at others address ≡ Some object → P object.serial) → (b : Bool)
        → (if b then Some p.object else object_at others address) ≡ Some object → P object.serial
    by rest true is = let same : p.object ≡ object = cc in subst (λ (o : Stored ℕ). P o.serial) same all.0
    by rest false is = rest is

-- objects of one serial lie at one address
pub one_address : (placed : List Placed) (a b : ℕ) (one other : Stored ℕ)
    → IsDistinct ◌==◌ (map (λ (p : Placed). p.object.serial) placed)
    → object_at placed a ≡ Some one → object_at placed b ≡ Some other → one.serial ≡ other.serial → a ≡ b
one_address [] a b one other apart is also same = absurd cc
one_address (p ∷ others) a b one other apart is also same =
    by (one_address others a b one other (IsDistinct-tail ◌==◌ p.object.serial serials apart)) (p.address == a) refl (p.address == b) refl is also
  where
    serials : List ℕ
    serials = map (λ (q : Placed). q.object.serial) others

    unlike : (address : ℕ) (object : Stored ℕ) → object_at others address ≡ Some object → p.object.serial ≡ object.serial → ⊥
    unlike address object there equal =
        true≢false (sym (eq-eqb p.object.serial object.serial equal)
        ∙ own_serial (λ n. (p.object.serial == n) ≡ false) others address object (IsDistinct-head ◌==◌ p.object.serial serials apart) there)

    by : (object_at others a ≡ Some one → object_at others b ≡ Some other → one.serial ≡ other.serial → a ≡ b)
        → (x : Bool) → (p.address == a) ≡ x → (y : Bool) → (p.address == b) ≡ y
        → (if x then Some p.object else object_at others a) ≡ Some one → (if y then Some p.object else object_at others b) ≡ Some other → a ≡ b
    by rest true at_a true at_b is also = sym (eqb-true p.address a at_a) ∙ eqb-true p.address b at_b
    by rest true at_a false away is also =
        let first : p.object ≡ one = cc in absurd (unlike b other also (ap (λ (o : Stored ℕ). o.serial) first ∙ same))
    by rest false away true at_b is also =
        let first : p.object ≡ other = cc in absurd (unlike a one is (ap (λ (o : Stored ℕ). o.serial) first ∙ sym same))
    by rest false not_a false not_b is also = rest is also same

-- ---- a change that keeps the object what it is

-- The object keeps its serial, its shape and the length of its contents.
pub record Keeps (change : Stored ℕ → Stored ℕ) : Type 0 where
  pub serial : (o : Stored ℕ) → (change o).serial ≡ o.serial
  pub shape : (o : Stored ℕ) → (change o).shape ≡ o.shape
  pub long : (o : Stored ℕ) → length (change o).contents ≡ length o.contents

abbrev words : Placed → ℕ
words p = p.object.shape.words

module _ (change : Stored ℕ → Stored ℕ) (keeps : Keeps change) where
  numbers_same : (number : Placed → ℕ) → ((p : Placed) → number (record p { object = change p.object }) ≡ number p)
      → (placed : List Placed) (address : ℕ) → map number (changed_at address change placed) ≡ map number placed
  numbers_same number same [] address = refl
  numbers_same number same (p ∷ others) address = by (numbers_same number same others address) (p.address == address)
    where
      by : map number (changed_at address change others) ≡ map number others → (b : Bool)
          → map number (if b then record p { object = change p.object } ∷ others else p ∷ changed_at address change others)
          ≡ number p ∷ map number others
      by rest true = ap (λ n. n ∷ map number others) (same p)
      by rest false = ap (λ ns. number p ∷ ns) rest

  words_same : (placed : List Placed) (address : ℕ) → sum_by words (changed_at address change placed) ≡ sum_by words placed
  words_same placed address =
      sym (sum-map words (changed_at address change placed))
      ∙ ap sum (numbers_same words (λ p. ap (λ (s : Shape). s.words) (keeps.shape p.object)) placed address) ∙ sum-map words placed

  well_placed : (free : ℕ) (placed : List Placed) (address : ℕ) → All (IsWellPlaced free) placed
      → All (IsWellPlaced free) (changed_at address change placed)
  well_placed free [] address all = all
  well_placed free (p ∷ others) address all = by (well_placed free others address rest) (p.address == address)
    where
      first : IsWellPlaced free p
      first = All-head (IsWellPlaced free) p others all

      rest : All (IsWellPlaced free) others
      rest = All-tail (IsWellPlaced free) p others all

      by : All (IsWellPlaced free) (changed_at address change others) → (b : Bool)
          → All (IsWellPlaced free) (if b then record p { object = change p.object } ∷ others else p ∷ changed_at address change others)
      by changed false = All-cons (IsWellPlaced free) p (changed_at address change others) first changed
      by changed true = All-cons (IsWellPlaced free) (record p { object = change p.object }) others (record {
        not_null = first.not_null;
        small = first.small;
        serial = subst (λ n. n < free) (sym (keeps.serial p.object)) first.serial;
        words =
            (λ i. keeps.long p.object i + header_words (keeps.shape p.object i).kind) ∙ first.words
            ∙ ap (λ (s : Shape). s.words) (sym (keeps.shape p.object));
      }) rest

  pub still_sound : (heap : HeapState) (address : ℕ) → IsSound heap
      → IsSound (record heap { objects = changed_at address change heap.objects })
  still_sound heap address sound = record {
    addresses = subst (IsDistinct ◌==◌) (sym (numbers_same (λ (p : Placed). p.address) (λ p. refl) heap.objects address)) sound.addresses;
    serials = subst (IsDistinct ◌==◌)
        (sym (numbers_same (λ (p : Placed). p.object.serial) (λ p. keeps.serial p.object) heap.objects address)) sound.serials;
    objects = well_placed heap.free_serial heap.objects address sound.objects;
    room = subst (λ n. n ≤ heap.half) (sym (words_same heap.objects address)) sound.room;
  }

  -- ---- ids

  serial_same : (heap : HeapState) (address other : ℕ)
      → option_map (λ (o : Stored ℕ). o.serial) (object_at (changed_at address change heap.objects) other)
      ≡ option_map (λ (o : Stored ℕ). o.serial) (object_at heap.objects other)
  serial_same heap address other = elim (cases_eq other address) [
    | inl here ↦
        subst (λ a. option_map (λ (o : Stored ℕ). o.serial) (object_at (changed_at address change heap.objects) a)
        ≡ option_map (λ (o : Stored ℕ). o.serial) (object_at heap.objects a)) (sym here)
        (ap (option_map (λ (o : Stored ℕ). o.serial)) (at_changed change heap.objects address) ∙ by (object_at heap.objects address))
    | inr apart ↦ ap (option_map (λ (o : Stored ℕ). o.serial)) (at_others change heap.objects address other apart)
  ]
    where
      by : (o : Option (Stored ℕ)) → option_map (λ (s : Stored ℕ). s.serial) (option_map change o) ≡ option_map (λ (s : Stored ℕ). s.serial) o
      by None = refl
      by (Some object) = ap Some (keeps.serial object)

  live_same : (heap : HeapState) (address other : ℕ)
      → is_some (object_at (changed_at address change heap.objects) other) ≡ is_some (object_at heap.objects other)
  live_same heap address other =
      by (object_at (changed_at address change heap.objects) other) ∙ ap is_some (serial_same heap address other)
      ∙ sym (by (object_at heap.objects other))
    where
      by : (o : Option (Stored ℕ)) → is_some o ≡ is_some (option_map (λ (s : Stored ℕ). s.serial) o)
      by None = refl
      by (Some object) = refl

  pub ids_same : (heap : HeapState) (address : ℕ)
      → ids_of (record heap { objects = changed_at address change heap.objects }) ≡ ids_of heap
  unfolding ids_of
  ids_same heap address = λ i. record {
    id = λ other. unwrap_or (serial_same heap address other i) 0;
    is_live = λ other. live_same heap address other i;
  }

  -- ---- the objects of the definitions

  module _ (classes : Classes) (heap : HeapState) (objects : Heap) (is : IsHeap classes heap objects)
      (address : ℕ) (stored : Stored ℕ) (there : object_at heap.objects address ≡ Some stored) where
    shaped : IsTrue (is_shaped classes (change stored).shape.class (change stored).contents (change stored).shape.kind)
    shaped =
        subst (λ (s : Shape). IsTrue (is_shaped classes s.class (change stored).contents s.kind)) (sym (keeps.shape stored))
        (by stored.shape.kind (is.each address stored there).shaped)
      where
        by : (kind : Kind) → IsTrue (is_shaped classes stored.shape.class stored.contents kind)
            → IsTrue (is_shaped classes stored.shape.class (change stored).contents kind)
        by kinds.Object own =
            ap (λ n. unwrap_or (option_map (λ cells. length cells == n) (cells_of classes.layouts stored.shape.class)) false) (keeps.long stored) ∙ own
        by kinds.Refs own = own
        by kinds.Ints own = own
        by kinds.Text own = own

    -- where the object changes as its object of the definitions does, and names what is live, the heap has the objects with that
    -- one changed
    pub objects_changed : (alter : Object → Object)
        → alter (object_by (ids_of heap).id (object_in classes stored)) ≡ object_by (ids_of heap).id (object_in classes (change stored))
        → IsTrue (are_live (ids_of heap) (addresses_in classes (change stored)))
        → IsHeap classes (record heap { objects = changed_at address change heap.objects }) (replace_at alter objects stored.serial)
    objects_changed alter made live = record {
      sound = still_sound heap address is.sound;
      free = is.free ∙ sym (length-replace_at alter objects stored.serial);
      each = λ other object found.
          subst (λ (ids : Ids). IsObject classes ids (replace_at alter objects stored.serial) object) (sym (ids_same heap address))
          (elim (cases_eq other address) [
            | inl here ↦ changed object (sym (at_changed change heap.objects address ∙ ap (option_map change) there)
                ∙ ap (object_at (changed_at address change heap.objects)) (sym here) ∙ found)
            | inr apart ↦ kept other object apart (sym (at_others change heap.objects address other apart) ∙ found)
          ]);
    }
      where
        changed : (object : Stored ℕ) → Some (change stored) ≡ Some object
            → IsObject classes (ids_of heap) (replace_at alter objects stored.serial) object
        changed object same =
            let one : change stored ≡ object = cc in
            subst (IsObject classes (ids_of heap) (replace_at alter objects stored.serial)) one (record {
              shaped = shaped;
              same = ap (slice_get (replace_at alter objects stored.serial)) (keeps.serial stored)
                  ∙ slice_get-replace_same alter objects stored.serial
                  ∙ ap (option_map alter) (is.each address stored there).same ∙ ap Some made;
              live = live;
            })

        kept : (other : ℕ) (object : Stored ℕ) → other ≢ address → object_at heap.objects other ≡ Some object
            → IsObject classes (ids_of heap) (replace_at alter objects stored.serial) object
        kept other object apart found =
            let own = is.each other object found in
            record {
              shaped = own.shaped;
              same = slice_get-replace_at alter objects stored.serial object.serial
                  (λ same. apart (one_address heap.objects other address object stored is.sound.serials found there same)) ∙ own.same;
              live = own.live;
            }
