-- A heap in which one object changes, of the same serial, shape and size.
use Rattle.std.proofs.Common.{◌≡◌, ◌≢◌, ℕ, ◌+◌, ◌<◌, ◌==◌, Bool, true, false, List, [], ◌∷◌, Option, Some, None, map, slice_get, option_map, is_some, length, if◌then◌else◌, refl, ap, sym, subst, ◌∙◌, true≢false, arith, inl, inr}
use Rattle.std.specs.Prelude.{IsTrue, unwrap_or}
use Rattle.std.specs.List.{AllByRecursion, IsDistinct, sum_by}
use Rattle.std.proofs.lemmas.Bool.{cases_eq, eqb-true, eq-eqb}
use Rattle.std.proofs.lemmas.Map.Keys.{IsDistinct-head, IsDistinct-tail}
use Rattle.std.proofs.lemmas.List.Elements.{All-from_recursion, recursion_from_All}
use Rattle.std.proofs.lemmas.List.Sums.{sum_by-cons}
use Rattle.machine_model.specs.Heap.{Object, Heap, replace_at}
use Rattle.run_laws.proofs.Keeping.{length-replace_at, slice_get-replace_at, slice_get-replace_same}
use Rattle.heap_face.specs.declared.shape.Shape.{Shape}
use Rattle.heap_face.specs.Heap.{Stored, Placed, HeapState, object_at, changed_at, header_words, IsWellPlaced, IsSound}
use Rattle.heap_objects.specs.Ids.{Ids, ids_of, are_live, object_by}
use Rattle.heap_objects.specs.Objects.{Classes, object_in, is_shaped, addresses_in, IsObject, IsHeap}

-- ---- what is found

abbrev serial : Stored ℕ → ℕ
serial object = object.serial

abbrev serial_at : Placed → ℕ
serial_at placed = placed.object.serial

abbrev words_at : Placed → ℕ
words_at placed = placed.object.shape.words

differs : (m n : ℕ) → m ≢ n → (m == n) ≡ false
differs m n other = by (m == n) refl
  where
    by : (b : Bool) → (m == n) ≡ b → (m == n) ≡ false
    by true is = absurd (other (eqb-true m n is))
    by false is = is

-- What keeps all of an object but its lock and what its words hold.
pub record Keeps (change : Stored ℕ → Stored ℕ) : Type 0 where
  pub serial : (object : Stored ℕ) → (change object).serial ≡ object.serial
  pub shape : (object : Stored ℕ) → (change object).shape ≡ object.shape
  pub size : (object : Stored ℕ) → length (change object).contents ≡ length object.contents

module _ (a : ℕ) (change : Stored ℕ → Stored ℕ) where
  pub found_same : (objects : List Placed) → object_at (changed_at a change objects) a ≡ option_map change (object_at objects a)
  found_same [] = refl
  found_same (placed ∷ others) = by (found_same others) (placed.address == a) refl
    where
      by : object_at (changed_at a change others) a ≡ option_map change (object_at others a) → (b : Bool)
          → (placed.address == a) ≡ b
          → object_at (if b then record placed { object = change placed.object } ∷ others else placed ∷ changed_at a change others) a
          ≡ option_map change (if b then Some placed.object else object_at others a)
      by rest true is = ap (λ (b : Bool). if b then Some (change placed.object) else object_at others a) is
      by rest false is = ap (λ (b : Bool). if b then Some placed.object else object_at (changed_at a change others) a) is ∙ rest

  pub found_other : (b : ℕ) → b ≢ a → (objects : List Placed) → object_at (changed_at a change objects) b ≡ object_at objects b
  found_other b other [] = refl
  found_other b other (placed ∷ others) = by (found_other b other others) (placed.address == a) refl
    where
      by : object_at (changed_at a change others) b ≡ object_at others b → (t : Bool) → (placed.address == a) ≡ t
          → object_at (if t then record placed { object = change placed.object } ∷ others else placed ∷ changed_at a change others) b
          ≡ (if placed.address == b then Some placed.object else object_at others b)
      by rest true is =
          let apart : (placed.address == b) ≡ false = differs placed.address b (λ same. other (sym same ∙ eqb-true placed.address a is)) in
          ap (λ (t : Bool). if t then Some (change placed.object) else object_at others b) apart
          ∙ ap (λ (t : Bool). if t then Some placed.object else object_at others b) (sym apart)
      by rest false is = ap (λ (o : Option (Stored ℕ)). if placed.address == b then Some placed.object else o) rest

  -- what is read of the object at an address is the same, where the change keeps it
  read_same : {A : Type 0} (read : Option (Stored ℕ) → A)
      → ((found : Option (Stored ℕ)) → read (option_map change found) ≡ read found)
      → (objects : List Placed) (b : ℕ) → read (object_at (changed_at a change objects) b) ≡ read (object_at objects b)
  read_same {A} read same objects b = elim (cases_eq b a) [
    | inl is ↦ subst (λ (n : ℕ). read (object_at (changed_at a change objects) n) ≡ read (object_at objects n)) (sym is)
        (ap read (found_same objects) ∙ same (object_at objects a))
    | inr other ↦ ap read (found_other b other objects)
  ]

  -- ---- what stays

  module _ (keeps : Keeps change) where
    serial_of_found : (found : Option (Stored ℕ)) → option_map serial (option_map change found) ≡ option_map serial found
    serial_of_found None = refl
    serial_of_found (Some object) = ap (λ (n : ℕ). Some n) (keeps.serial object)

    live_found : (found : Option (Stored ℕ)) → is_some (option_map change found) ≡ is_some found
    live_found None = refl
    live_found (Some object) = refl

    pub ids_stay : (heap : HeapState) → ids_of (record heap { objects = changed_at a change heap.objects }) ≡ ids_of heap
    unfolding ids_of
    ids_stay heap = λ i. record {
      id = λ address. unwrap_or (read_same (option_map serial) serial_of_found heap.objects address i) 0;
      is_live = λ address. read_same is_some live_found heap.objects address i;
    }

    addresses_stay : (objects : List Placed)
        → map (λ (placed : Placed). placed.address) (changed_at a change objects) ≡ map (λ (placed : Placed). placed.address) objects
    addresses_stay [] = refl
    addresses_stay (placed ∷ others) = by (addresses_stay others) (placed.address == a)
      where
        by : map (λ (p : Placed). p.address) (changed_at a change others) ≡ map (λ (p : Placed). p.address) others → (b : Bool)
            → map (λ (p : Placed). p.address) (if b then record placed { object = change placed.object } ∷ others else placed ∷ changed_at a change others)
            ≡ placed.address ∷ map (λ (p : Placed). p.address) others
        by rest true = refl
        by rest false = ap (λ (l : List ℕ). placed.address ∷ l) rest

    serials_stay : (objects : List Placed) → map serial_at (changed_at a change objects) ≡ map serial_at objects
    serials_stay [] = refl
    serials_stay (placed ∷ others) = by (serials_stay others) (placed.address == a)
      where
        by : map serial_at (changed_at a change others) ≡ map serial_at others → (b : Bool)
            → map serial_at (if b then record placed { object = change placed.object } ∷ others else placed ∷ changed_at a change others)
            ≡ placed.object.serial ∷ map serial_at others
        by rest true = ap (λ (n : ℕ). n ∷ map serial_at others) (keeps.serial placed.object)
        by rest false = ap (λ (l : List ℕ). placed.object.serial ∷ l) rest

    used_stay : (objects : List Placed) → sum_by words_at (changed_at a change objects) ≡ sum_by words_at objects
    used_stay [] = refl
    used_stay (placed ∷ others) = by (used_stay others) (placed.address == a)
      where
        by : sum_by words_at (changed_at a change others) ≡ sum_by words_at others → (b : Bool)
            → sum_by words_at (if b then record placed { object = change placed.object } ∷ others else placed ∷ changed_at a change others)
            ≡ sum_by words_at (placed ∷ others)
        by rest true =
            sum_by-cons words_at (record placed { object = change placed.object }) others
            ∙ ap (λ (s : Shape). s.words + sum_by words_at others) (keeps.shape placed.object) ∙ sym (sum_by-cons words_at placed others)
        by rest false =
            sum_by-cons words_at placed (changed_at a change others)
            ∙ ap (λ (n : ℕ). placed.object.shape.words + n) rest ∙ sym (sum_by-cons words_at placed others)

    placed_stay : (free : ℕ) (objects : List Placed) → AllByRecursion (IsWellPlaced free) objects
        → AllByRecursion (IsWellPlaced free) (changed_at a change objects)
    placed_stay free [] all = tt
    placed_stay free (placed ∷ others) all = by (placed_stay free others all.1) (placed.address == a)
      where
        by : AllByRecursion (IsWellPlaced free) (changed_at a change others) → (b : Bool)
            → AllByRecursion (IsWellPlaced free) (if b then record placed { object = change placed.object } ∷ others else placed ∷ changed_at a change others)
        by rest true = (
          record {
            not_null = all.0.not_null;
            small = all.0.small;
            serial = subst (λ (n : ℕ). n < free) (sym (keeps.serial placed.object)) all.0.serial;
            words =
                ap (λ (n : ℕ). n + header_words (change placed.object).shape.kind) (keeps.size placed.object)
                ∙ ap (λ (s : Shape). length placed.object.contents + header_words s.kind) (keeps.shape placed.object)
                ∙ all.0.words ∙ ap (λ (s : Shape). s.words) (sym (keeps.shape placed.object));
          },
          all.1,
        )
        by rest false = (all.0, rest)

    pub sound_stays : (heap : HeapState) → IsSound heap → IsSound (record heap { objects = changed_at a change heap.objects })
    sound_stays heap sound = record {
      addresses = subst (IsDistinct ◌==◌) (sym (addresses_stay heap.objects)) sound.addresses;
      serials = subst (IsDistinct ◌==◌) (sym (serials_stay heap.objects)) sound.serials;
      objects = All-from_recursion (IsWellPlaced heap.free_serial) (changed_at a change heap.objects)
          (placed_stay heap.free_serial heap.objects (recursion_from_All (IsWellPlaced heap.free_serial) heap.objects sound.objects));
      room = omega (arith, sound.room, used_stay heap.objects);
    }

-- ---- an object for each serial

later : (n : ℕ) (objects : List Placed) (b : ℕ) (object : Stored ℕ)
    → AllByRecursion (λ m. (n == m) ≡ false) (map serial_at objects) → object_at objects b ≡ Some object → (n == object.serial) ≡ false
later n [] b object apart found = absurd cc
later n (placed ∷ others) b object apart found = by (later n others b object apart.1) (placed.address == b) found
  where
    by : (object_at others b ≡ Some object → (n == object.serial) ≡ false) → (t : Bool)
        → (if t then Some placed.object else object_at others b) ≡ Some object → (n == object.serial) ≡ false
    by rest true is = let same : placed.object ≡ object = cc in subst (λ (o : Stored ℕ). (n == o.serial) ≡ false) same apart.0
    by rest false is = rest is

-- objects of one serial lie at one address
pub one_address : (objects : List Placed) (a b : ℕ) (one other : Stored ℕ) → IsDistinct ◌==◌ (map serial_at objects)
    → object_at objects a ≡ Some one → object_at objects b ≡ Some other → one.serial ≡ other.serial → a ≡ b
one_address [] a b one other distinct at there same = absurd cc
one_address (placed ∷ others) a b one other distinct at there same =
    by (one_address others a b one other (IsDistinct-tail ◌==◌ placed.object.serial (map serial_at others) distinct))
    (placed.address == a) refl at (placed.address == b) refl there
  where
    apart : AllByRecursion (λ m. (placed.object.serial == m) ≡ false) (map serial_at others)
    apart = IsDistinct-head ◌==◌ placed.object.serial (map serial_at others) distinct

    never : (first object : Stored ℕ) (c : ℕ) → placed.object ≡ first → object_at others c ≡ Some object → first.serial ≡ object.serial → ⊥
    never first object c is found same =
        true≢false (sym (eq-eqb placed.object.serial object.serial (ap serial is ∙ same))
        ∙ later placed.object.serial others c object apart found)

    by : (object_at others a ≡ Some one → object_at others b ≡ Some other → one.serial ≡ other.serial → a ≡ b)
        → (s : Bool) → (placed.address == a) ≡ s → (if s then Some placed.object else object_at others a) ≡ Some one
        → (t : Bool) → (placed.address == b) ≡ t → (if t then Some placed.object else object_at others b) ≡ Some other → a ≡ b
    by rest true here at true also there = sym (eqb-true placed.address a here) ∙ eqb-true placed.address b also
    by rest true here at false also there =
        let is : placed.object ≡ one = cc in absurd (never one other b is there same)
    by rest false here at true also there =
        let is : placed.object ≡ other = cc in absurd (never other one a is at (sym same))
    by rest false here at false also there = rest at there same

-- ---- the heap

-- Where an object changes to what is an object of the definitions, the heap is that of the objects with that one changed so.
pub heap_changed : (classes : Classes) (heap : HeapState) (objects : Heap) (a : ℕ) (stored : Stored ℕ) (change : Stored ℕ → Stored ℕ)
    (new : Object → Object) → Keeps change → IsHeap classes heap objects → object_at heap.objects a ≡ Some stored
    → IsTrue (is_shaped classes (change stored).shape.class (change stored).contents (change stored).shape.kind)
    → object_by (ids_of heap).id (object_in classes (change stored)) ≡ new (object_by (ids_of heap).id (object_in classes stored))
    → IsTrue (are_live (ids_of heap) (addresses_in classes (change stored)))
    → IsHeap classes (record heap { objects = changed_at a change heap.objects }) (replace_at new objects stored.serial)
heap_changed classes heap objects a stored change new keeps is there shaped becomes live = record {
  sound = sound_stays a change keeps heap is.sound;
  free = is.free ∙ sym (length-replace_at new objects stored.serial);
  each = λ b object found.
      subst (λ (ids : Ids). IsObject classes ids (replace_at new objects stored.serial) object) (sym (ids_stay a change keeps heap))
      (by b object found);
}
  where
    changed : IsObject classes (ids_of heap) (replace_at new objects stored.serial) (change stored)
    changed = record {
      shaped = shaped;
      same = ap (slice_get (replace_at new objects stored.serial)) (keeps.serial stored)
          ∙ slice_get-replace_same new objects stored.serial ∙ ap (option_map new) (is.each a stored there).same
          ∙ ap (λ (o : Object). Some o) (sym becomes);
      live = live;
    }

    by : (b : ℕ) (object : Stored ℕ) → object_at (changed_at a change heap.objects) b ≡ Some object
        → IsObject classes (ids_of heap) (replace_at new objects stored.serial) object
    by b object found = elim (cases_eq b a) [
      | inl same ↦
          let both : Some (change stored) ≡ Some object =
          ap (option_map change) (sym there) ∙ sym (found_same a change heap.objects)
          ∙ ap (object_at (changed_at a change heap.objects)) (sym same) ∙ found in
          let is_it : change stored ≡ object = cc in
          subst (IsObject classes (ids_of heap) (replace_at new objects stored.serial)) is_it changed
      | inr other ↦
          let own : object_at heap.objects b ≡ Some object = sym (found_other a change b other heap.objects) ∙ found in
          let old = is.each b object own in
          record {
            shaped = old.shaped;
            same = slice_get-replace_at new objects stored.serial object.serial
                (λ same. other (one_address heap.objects b a object stored is.sound.serials own there same)) ∙ old.same;
            live = old.live;
          }
    ]
