-- Places of a cache.
use Rattle.std.proofs.Common.{◌≡◌, ℕ, zero, suc, true, ◌<◌, List, [], ◌∷◌, Option, Some, None, length, map, set, refl, sym, ap, subst, ◌∙◌, inl, inr, arith}
use Rattle.std.specs.Prelude.{◌⊎◌, IsSome, is_some, option_map, option_and_then, replicate, slice_get, slice_set, unwrap_or}
use Rattle.std.proofs.lemmas.List.{length-map, length-replicate, length-set, get_or-replicate}
use Rattle.std.proofs.lemmas.Option.{slice_get-map, slice_get_within, slice_get-get_or, get_or_from_slice_get}
use Rattle.jv_model.specs.ClassData.{Const, gap}
use Rattle.world_model.specs.World.{World, Class}
use Rattle.machine_model.specs.Heap.{replace_at}
use Rattle.jv_types.specs.Sequence.{Sequence}
use Rattle.jv_types.specs.declared.number.ClassNo.{ClassNo}
use Rattle.class_versions.specs.Slots.{Slots}
use Rattle.jv_types.specs.ClassData.{const_of, pool_of}
use Rattle.jv_types.specs.declared.class_data.Const.{Const as Entry}
use Rattle.class_world.specs.World.{class_of_origin}
use Rattle.class_world.specs.declared.class_info.Origin.{Origin}
use Rattle.look_up_cache.specs.Targets.{Target, pool_in, pool_at, target_by, target_of, target_at}
use Rattle.look_up_cache.specs.Words.{AreWords}
use Rattle.look_up_cache.specs.Slots.{IsSlotOf, IsSlotAt}
use Rattle.look_up_cache.specs.Kept.{Places, Kept, places_in, place_at, kept_at, with_kept, IsTrueOf, StaysKept}
use Rattle.look_up_cache.specs.declared.slot.Slot.{Slot}
use Rattle.look_up_cache.proofs.Last.{slice_get-set}
use Rattle.look_up_cache.proofs.Rows.{pool_is}

-- ---- where an entry leads somewhere

-- its class has a pool with the entry
pub record IsThere (world : World) (class : ClassNo) (index : ℕ) : Type 0 where
  pub info : Class
  pub at : slice_get world.classes class.0 ≡ Some info
  pub inside : index < length (pool_in info.loaded)

target_inside : (world : World) (pool : List Const) (index : ℕ) → IsSome (target_of world pool index) → index < length pool
target_inside world pool index some = of (slice_get pool index) refl some
  where
    of : (o : Option Const) → slice_get pool index ≡ o → is_some (target_by world pool index (unwrap_or o gap)) ≡ true → index < length pool
    of None at is = absurd cc
    of (Some c) at is = slice_get_within pool index c at

pub is_there : (world : World) (class : ClassNo) (index : ℕ) → IsSome (target_at world class index) → IsThere world class index
is_there world class index some = of (slice_get world.classes class.0) refl (target_inside world (pool_at world class) index some)
  where
    of : (o : Option Class) → slice_get world.classes class.0 ≡ o → index < length (pool_in (option_and_then (λ (c : Class). c.loaded) o)) → IsThere world class index
    of None at inside = absurd (omega (arith, inside))
    of (Some c) at inside = record { info = c; at = at; inside = inside }

-- so there is a place for it
pub place_there : (world : World) (places : Places) (class : ClassNo) (index : ℕ)
    → map (λ (row : List (Option Slot)). length row) places ≡ map (λ (c : Class). length (pool_in c.loaded)) world.classes
    → IsThere world class index → IsSome (place_at places class index)
place_there world places class index lengths there = of (slice_get places class.0) refl
    (sym (slice_get-map (λ (row : List (Option Slot)). length row) places class.0) ∙ ap (λ (l : List ℕ). slice_get l class.0) lengths
    ∙ slice_get-map (λ (c : Class). length (pool_in c.loaded)) world.classes class.0 ∙ ap (option_map (λ (c : Class). length (pool_in c.loaded))) there.at)
  where
    of : (o : Option (List (Option Slot))) → slice_get places class.0 ≡ o → option_map (λ (row : List (Option Slot)). length row) o ≡ Some (length (pool_in there.info.loaded))
        → IsSome (place_at places class index)
    of None at is = absurd cc
    of (Some row) at is =
        let long : length row ≡ length (pool_in there.info.loaded) = cc in
        let inside : index < length row = omega (arith, there.inside, long) in
        ap (λ (r : Option (List (Option Slot))). is_some (option_and_then (λ (row : List (Option Slot)). slice_get row index) r)) at
        ∙ ap (λ (o : Option (Option Slot)). is_some o) (slice_get-get_or row index None inside)

-- ---- a place that is filled

abbrev flat : Option (Option Slot) → Option Slot
flat o = option_and_then (λ (p : Option Slot). p) o

flat_some : (o : Option (Option Slot)) (slot : Slot) → flat o ≡ Some slot → o ≡ Some (Some slot)
flat_some None slot is = absurd cc
flat_some (Some p) slot is = ap (λ (q : Option Slot). Some q) is

abbrev place_in : Places → ℕ → ℕ → Option (Option Slot)
place_in places k i = option_and_then (λ (row : List (Option Slot)). slice_get row i) (slice_get places k)

abbrev filled : ℕ → ℕ → Slot → Places → Places
filled k i slot places = replace_at (λ (row : List (Option Slot)). slice_set row i (Some slot)) places k

-- what is kept then was kept before, or is this
filled_from : (places : Places) (k i : ℕ) (slot : Slot) (l j : ℕ) (other : Slot) → flat (place_in (filled k i slot places) l j) ≡ Some other
    → ((l ≡ k) × (j ≡ i) × (other ≡ slot)) ⊎ (flat (place_in places l j) ≡ Some other)
filled_from [] k i slot l j other is = absurd cc
filled_from (row ∷ places) zero i slot zero j other is = elim (slice_get-set row i (Some slot) j (Some other) (flat_some (slice_get (slice_set row i (Some slot)) j) other is)) [
  | inl new ↦ let both : Some other ≡ Some slot = new.1 in let same : other ≡ slot = cc in inl (refl, new.0, same)
  | inr old ↦ inr (ap flat old.1)
]
filled_from (row ∷ places) zero i slot (suc l) j other is = inr is
filled_from (row ∷ places) (suc k) i slot zero j other is = inr is
filled_from (row ∷ places) (suc k) i slot (suc l) j other is = elim (filled_from places k i slot l j other is) [
  | inl new ↦ inl (ap suc new.0, new.1, new.2)
  | inr old ↦ inr old
]

set_other : {A : Type 0} (xs : List A) (i : ℕ) (v : A) (j : ℕ) (y : A) → slice_get xs j ≡ Some y → (slice_get (set xs i v) j ≡ Some y) ⊎ (j ≡ i)
set_other [] i v j y is = absurd cc
set_other (x ∷ xs) zero v zero y is = inr refl
set_other (x ∷ xs) zero v (suc j) y is = inl is
set_other (x ∷ xs) (suc i) v zero y is = inl is
set_other (x ∷ xs) (suc i) v (suc j) y is = elim (set_other xs i v j y is) [ inl old ↦ inl old | inr same ↦ inr (ap suc same) ]

-- what was kept is kept then, but for that place
filled_keeps : (places : Places) (k i : ℕ) (slot : Slot) (l j : ℕ) (other : Slot) → flat (place_in places l j) ≡ Some other
    → (flat (place_in (filled k i slot places) l j) ≡ Some other) ⊎ ((l ≡ k) × (j ≡ i))
filled_keeps [] k i slot l j other is = absurd cc
filled_keeps (row ∷ places) zero i slot zero j other is = elim (set_other row i (Some slot) j (Some other) (flat_some (slice_get row j) other is)) [
  | inl old ↦ inl (ap flat old)
  | inr same ↦ inr (refl, same)
]
filled_keeps (row ∷ places) zero i slot (suc l) j other is = inl is
filled_keeps (row ∷ places) (suc k) i slot zero j other is = inl is
filled_keeps (row ∷ places) (suc k) i slot (suc l) j other is = elim (filled_keeps places k i slot l j other is) [
  | inl old ↦ inl old
  | inr same ↦ inr (ap suc same.0, same.1)
]

filled_lengths : (places : Places) (k i : ℕ) (slot : Slot)
    → map (λ (row : List (Option Slot)). length row) (filled k i slot places) ≡ map (λ (row : List (Option Slot)). length row) places
filled_lengths [] k i slot = refl
filled_lengths (row ∷ places) zero i slot = ap (λ (n : ℕ). n ∷ map (λ (row : List (Option Slot)). length row) places) (length-set row i (Some slot))
filled_lengths (row ∷ places) (suc k) i slot = ap (λ (l : List ℕ). length row ∷ l) (filled_lengths places k i slot)

-- what is kept already
set_same : {A : Type 0} (list : List A) (n : ℕ) (a : A) → slice_get list n ≡ Some a → set list n a ≡ list
set_same [] n a e = refl
set_same (x ∷ list) zero a e = let same : a ≡ x = cc in ap (λ y. y ∷ list) same
set_same (x ∷ list) (suc n) a e = ap (λ others. x ∷ others) (set_same list n a e)

filled_already : (places : Places) (k i : ℕ) (slot : Slot) → place_in places k i ≡ Some (Some slot) → places ≡ filled k i slot places
filled_already [] k i slot e = refl
filled_already (row ∷ places) zero i slot e = ap (λ r. r ∷ places) (sym (set_same row i (Some slot) e))
filled_already (row ∷ places) (suc k) i slot e = ap (λ others. row ∷ others) (filled_already places k i slot e)

-- ---- the cache

pub kept_already : (kept : Kept) (class : ClassNo) (index : ℕ) (slot : Slot) → place_at kept.places class index ≡ Some (Some slot) → kept ≡ with_kept class index slot kept
kept_already kept class index slot is = ap (λ (p : Places). let k : Kept = record { places = p; words = kept.words } in k) (filled_already kept.places class.0 index slot is)

same_number : (a b : ClassNo) → a.0 ≡ b.0 → a ≡ b
same_number a b same = λ i. record { 0 = same i }

pub stays_true : (world : World) (slots : Slots) (texts : List (List ℕ)) (kept : Kept) (class : ClassNo) (index : ℕ) (slot : Slot) → IsTrueOf world slots texts kept
    → IsSlotAt world slots texts class index slot → IsTrueOf world slots texts (with_kept class index slot kept)
stays_true world slots texts kept class index slot is_true is = record {
  places = filled_lengths kept.places class.0 index slot ∙ is_true.places;
  each = λ other at standing there. elim (filled_from kept.places class.0 index slot other.0 at standing there) [
    | inl new ↦
        subst (λ (n : ClassNo). IsSlotAt world slots texts n at standing) (sym (same_number other class new.0))
        (subst (λ (i : ℕ). IsSlotAt world slots texts class i standing) (sym new.1)
        (subst (IsSlotAt world slots texts class index) (sym new.2) is))
    | inr old ↦ is_true.each other at standing old
  ];
  words = is_true.words;
}

pub stays_kept : (kept : Kept) (class : ClassNo) (index : ℕ) (slot : Slot) → place_at kept.places class index ≡ Some None → StaysKept kept (with_kept class index slot kept)
stays_kept kept class index slot empty other at standing there = elim (filled_keeps kept.places class.0 index slot other.0 at standing there) [
  | inl old ↦ old
  | inr same ↦
      let here : flat (place_in kept.places class.0 index) ≡ Some standing =
      ap (λ (k : ℕ). flat (place_in kept.places k index)) (sym same.0) ∙ ap (λ (i : ℕ). flat (place_in kept.places other.0 i)) (sym same.1) ∙ there in
      let none : flat (place_in kept.places class.0 index) ≡ None = ap flat empty in
      absurd cc
]

-- ---- a new cache

pub begins_true : (world : World) (slots : Slots) (texts : List (List ℕ)) (kept : Kept) → kept.places ≡ places_in world → AreWords world kept.words
    → IsTrueOf world slots texts kept × ((class : ClassNo) (index : ℕ) → kept_at kept class index ≡ None)
begins_true world slots texts kept are words = (
  record {
    places = ap (map (λ (row : List (Option Slot)). length row)) are ∙ lengths world.classes;
    each = λ class index slot there. absurd (let none = empty class index in cc);
    words = words;
  },
  empty,
)
  where
    lengths : (classes : List Class) → map (λ (row : List (Option Slot)). length row) (map (λ (c : Class). replicate (length (pool_in c.loaded)) None) classes)
        ≡ map (λ (c : Class). length (pool_in c.loaded)) classes
    lengths [] = refl
    lengths (c ∷ classes) = λ i. length-replicate (length (pool_in c.loaded)) (let none : Option Slot = None in none) i ∷ lengths classes i

    row_empty : (n index : ℕ) (o : Option (Option Slot)) → slice_get (replicate n None) index ≡ o → flat o ≡ None
    row_empty n index None at = refl
    row_empty n index (Some entry) at =
        let within = slice_get_within (replicate n None) index entry at in
        let inside : index < n = omega (arith, within, length-replicate n (let none : Option Slot = None in none)) in
        sym (get_or_from_slice_get (replicate n None) index entry None at) ∙ get_or-replicate n index None None inside

    rows_empty : (classes : List Class) (k index : ℕ) → flat (place_in (map (λ (c : Class). replicate (length (pool_in c.loaded)) None) classes) k index) ≡ None
    rows_empty [] k index = refl
    rows_empty (c ∷ classes) zero index = row_empty (length (pool_in c.loaded)) index (slice_get (replicate (length (pool_in c.loaded)) None) index) refl
    rows_empty (c ∷ classes) (suc k) index = rows_empty classes k index

    empty : (class : ClassNo) (index : ℕ) → kept_at kept class index ≡ None
    empty class index = ap (λ (p : Places). flat (place_in p class.0 index)) are ∙ rows_empty world.classes class.0 index

-- the empty places of one class
pub places_at : (world : World) (k : ℕ) (c : Class) (names : List (List ℕ)) (origin : Origin) (pool : List Entry) (row : List (Option Slot))
    → slice_get world.classes k ≡ Some c → class_of_origin names origin ≡ c → pool_of pool ≡ pool_in (class_of_origin [] origin).loaded
    → row ≡ replicate (length pool) None → slice_get (places_in world) k ≡ Some row
places_at world k c names origin pool row at is same row_is =
    let long : length pool ≡ length (pool_in c.loaded) =
    sym (length-map pool const_of) ∙ ap length same ∙ ap length (pool_is names origin) ∙ ap (λ (d : Class). length (pool_in d.loaded)) is in
    let none : Option Slot = None in
    slice_get-map (λ (d : Class). replicate (length (pool_in d.loaded)) none) world.classes k
    ∙ ap (option_map (λ (d : Class). replicate (length (pool_in d.loaded)) none)) at
    ∙ ap (λ (n : ℕ). Some (replicate n none)) (sym long) ∙ ap (λ (r : List (Option Slot)). Some r) (sym row_is)

-- ---- what is looked up

pub pool_here : (world : World) (class : ClassNo) (c : Class) (names : List (List ℕ)) (origin : Origin) (pool : List Entry)
    → slice_get world.classes class.0 ≡ Some c → class_of_origin names origin ≡ c → pool_of pool ≡ pool_in (class_of_origin [] origin).loaded
    → (pool_of pool ≡ pool_in c.loaded) × (pool_of pool ≡ pool_at world class)
pool_here world class c names origin pool at is same =
    let own = same ∙ pool_is names origin ∙ ap (λ (d : Class). pool_in d.loaded) is in
    (own, own ∙ sym (ap (λ (o : Option Class). pool_in (option_and_then (λ (d : Class). d.loaded) o)) at))

pub is_slot : (world : World) (slots : Slots) (texts : List (List ℕ)) (class : ClassNo) (index : ℕ) (pool : List Const) (slot : Slot) → pool ≡ pool_at world class
    → IsSome (target_at world class index) → ((target : Target) → target_of world pool index ≡ Some target → IsSlotOf world slots texts target slot)
    → IsSlotAt world slots texts class index slot
is_slot world slots texts class index pool slot same some stands = of (target_at world class index) refl some
  where
    of : (o : Option Target) → target_at world class index ≡ o → is_some o ≡ true → IsSlotAt world slots texts class index slot
    of None named some = absurd cc
    of (Some target) named some = record {
      target = target;
      named = named;
      stands = stands target (ap (λ (p : List Const). target_of world p index) same ∙ named);
    }

-- ---- rows as they are stored

-- a row that was replaced, as its items are seen
pub row_changed : {A : Type 0} (rows : List (Sequence A)) (n : ℕ) (row its : Sequence A) (change : List A → List A) → slice_get rows n ≡ Some row → its.items ≡ change row.items
    → map (λ (r : Sequence A). r.items) (set rows n its) ≡ replace_at change (map (λ (r : Sequence A). r.items) rows) n
row_changed [] n row its change e is = absurd cc
row_changed {A = A} (x ∷ rows) zero row its change e is =
    let same : row ≡ x = cc in
    ap (λ items. items ∷ map (λ (r : Sequence A). r.items) rows) (is ∙ ap (λ (r : Sequence A). change r.items) same)
row_changed {A = A} (x ∷ rows) (suc n) row its change e is = ap (λ others. x.items ∷ others) (row_changed rows n row its change e is)

-- there is a row where there is a place
pub row_there : (places : Places) (class : ClassNo) (index : ℕ) → IsSome (place_at places class index) → class.0 < length places
row_there places class index h = within (slice_get places class.0) refl h
  where
    within : (found : Option (List (Option Slot))) → slice_get places class.0 ≡ found → IsSome (option_and_then (λ (row : List (Option Slot)). slice_get row index) found) → class.0 < length places
    within None e h = absurd cc
    within (Some row) e h = slice_get_within places class.0 row e
