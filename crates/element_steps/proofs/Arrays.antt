-- Arrays of a heap.
use Rattle.std.proofs.Common.{◌≡◌, ℕ, ◌+◌, ◌≤◌, ◌==◌, Bool, true, false, List, [], ◌∷◌, Option, Some, None, option_map, is_some, length, if◌then◌else◌, refl, ap, sym, subst, ◌∙◌, arith}
use Rattle.std.specs.Prelude.{unwrap_or}
use Rattle.std.specs.List.{AllByRecursion, sum_by}
use Rattle.std.proofs.lemmas.Bool.{eqb-true}
use Rattle.std.proofs.lemmas.List.Elements.{recursion_from_All}
use Rattle.std.proofs.lemmas.List.Sums.{sum_by-cons}
use Rattle.machine_model.specs.Value as model
use Rattle.machine_model.specs.Heap.{Contents, Object, Heap, contents_at}
use Rattle.machine_model.specs.ArraySteps.{elements_of}
use Rattle.jv_types.specs.declared.number.ClassNo.{ClassNo}
use Rattle.heap_face.specs.declared.shape.Kind.{Kind}
use Rattle.heap_face.specs.declared.shape.Kind.TheVariants as kinds
use Rattle.heap_face.specs.Heap.{Stored, Placed, HeapState, object_at, IsWellPlaced}
use Rattle.heap_objects.specs.Ids.{Ids, ids_of, contents_by}
use Rattle.heap_objects.specs.Objects.{Classes, contents_by_kind, IsHeap}
use Rattle.element_values.specs.Elements.{is_array, IsArrayAt}
use Rattle.element_steps.specs.Arrays.{HasArray, words_of_array}

-- ---- what holds of an object where it lies

placed_at : (free : ℕ) (objects : List Placed) (a : ℕ) (stored : Stored ℕ) → AllByRecursion (IsWellPlaced free) objects
    → object_at objects a ≡ Some stored → IsWellPlaced free (record { address = a; object = stored })
placed_at free [] a stored all there = absurd cc
placed_at free (placed ∷ others) a stored all there = by (placed_at free others a stored all.1) (placed.address == a) refl there
  where
    by : (object_at others a ≡ Some stored → IsWellPlaced free (record { address = a; object = stored })) → (b : Bool)
        → (placed.address == a) ≡ b → (if b then Some placed.object else object_at others a) ≡ Some stored
        → IsWellPlaced free (record { address = a; object = stored })
    by rest true is found =
        let same : placed.object ≡ stored = cc in
        subst (λ (o : Stored ℕ). IsWellPlaced free (record { address = a; object = o })) same
        (subst (λ (n : ℕ). IsWellPlaced free (record { address = n; object = placed.object })) (eqb-true placed.address a is) all.0)
    by rest false is found = rest found

-- it has no more words than all together
within_used : (objects : List Placed) (a : ℕ) (stored : Stored ℕ) → object_at objects a ≡ Some stored
    → stored.shape.words ≤ sum_by (λ (placed : Placed). placed.object.shape.words) objects
within_used [] a stored there = absurd cc
within_used (placed ∷ others) a stored there = by (within_used others a stored) (placed.address == a) there
  where
    whole : sum_by (λ (p : Placed). p.object.shape.words) (placed ∷ others)
        ≡ placed.object.shape.words + sum_by (λ (p : Placed). p.object.shape.words) others
    whole = sum_by-cons (λ (p : Placed). p.object.shape.words) placed others

    by : (object_at others a ≡ Some stored → stored.shape.words ≤ sum_by (λ (p : Placed). p.object.shape.words) others) → (b : Bool)
        → (if b then Some placed.object else object_at others a) ≡ Some stored
        → stored.shape.words ≤ sum_by (λ (p : Placed). p.object.shape.words) (placed ∷ others)
    by rest true found =
        let same : placed.object ≡ stored = cc in
        omega (arith, whole, ap (λ (o : Stored ℕ). o.shape.words) same)
    by rest false found = let few = rest found in omega (arith, whole, few)

-- ---- arrays

-- the contents of an array are its words
pub words_are : (heap : HeapState) (a : ℕ) (stored : Stored ℕ) → object_at heap.objects a ≡ Some stored → words_of_array heap a ≡ stored.contents
words_are heap a stored there =
    ap (λ (o : Option (Stored ℕ)). unwrap_or (option_map (λ (s : Stored ℕ). s.contents) o) []) there

pub one_array : (heap : HeapState) (a : ℕ) (one other : Stored ℕ) → object_at heap.objects a ≡ Some one → object_at heap.objects a ≡ Some other → one ≡ other
one_array heap a one other is also = let both : Some one ≡ Some other = sym is ∙ also in cc

module _ (classes : Classes) (heap : HeapState) (objects : Heap) (is : IsHeap classes heap objects) where
  abbrev own : Ids
  own = ids_of heap

  pub has_array : (a : ℕ) (stored : Stored ℕ) → IsArrayAt heap a stored → HasArray heap a
  has_array a stored at =
      let placed = placed_at heap.free_serial heap.objects a stored
      (recursion_from_All (IsWellPlaced heap.free_serial) heap.objects is.sound.objects) at.there in
      record { stored = stored; at = at; small = placed.small; words = placed.words }

  -- an array has no more elements than the heap words
  pub few_elements : (a : ℕ) (has : HasArray heap a) → length has.stored.contents ≤ heap.half
  few_elements a has = omega (arith, has.words, within_used heap.objects a has.stored has.at.there, is.sound.room)

  serial_is : (a : ℕ) (stored : Stored ℕ) → object_at heap.objects a ≡ Some stored → own.id a ≡ stored.serial
  unfolding ids_of
  serial_is a stored there =
      ap (λ (found : Option (Stored ℕ)). unwrap_or (option_map (λ (o : Stored ℕ). o.serial) found) 0) there

  none_live : (a : ℕ) → object_at heap.objects a ≡ None → own.is_live a ≡ false
  unfolding ids_of
  none_live a none = ap is_some none

  array_kind : (class : ClassNo) (words : List ℕ) (kind : Kind) (elements : List model.Value)
      → elements_of (contents_by own.id (contents_by_kind classes class words kind)) ≡ Some elements → is_array kind ≡ true
  array_kind class words kinds.Object elements found = absurd cc
  array_kind class words kinds.Refs elements found = refl
  array_kind class words kinds.Ints elements found = refl
  array_kind class words kinds.Text elements found = absurd cc

  -- where the definitions have an array, one lies
  pub array_lies : (a : ℕ) (contents : Contents) (elements : List model.Value) → own.is_live a ≡ true
      → contents_at objects (own.id a) ≡ Some contents → elements_of contents ≡ Some elements
      → (stored : Stored ℕ) × IsArrayAt heap a stored
  array_lies a contents elements live found are = by (object_at heap.objects a) refl
    where
      by : (o : Option (Stored ℕ)) → object_at heap.objects a ≡ o → (stored : Stored ℕ) × IsArrayAt heap a stored
      by None none = absurd (let never : false ≡ true = sym (none_live a none) ∙ live in cc)
      by (Some stored) there =
          let object = is.each a stored there in
          let its = contents_by own.id (contents_by_kind classes stored.shape.class stored.contents stored.shape.kind) in
          let both : Some its ≡ Some contents =
          sym (ap (contents_at objects) (serial_is a stored there) ∙ ap (option_map (λ (o : Object). o.contents)) object.same) ∙ found in
          let same : its ≡ contents = cc in (
            stored,
            record {
              there = there;
              array = array_kind stored.shape.class stored.contents stored.shape.kind elements (ap elements_of same ∙ are);
            },
          )
