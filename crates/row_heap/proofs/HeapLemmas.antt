-- A table and the heap that it stands for: addresses, changes of one object, a new object, and what holds of the heap.
use Rattle.std.proofs.Common.{◌≡◌, ◌≢◌, ℕ, zero, suc, ◌+◌, ◌-◌, ◌*◌, ◌^◌, ◌<◌, ◌≤◌, Bool, true, false, cond, eqb, List, [], ◌∷◌, ◌++◌, length, get_or, refl, sym, ap, subst, ◌∙◌, arith, length-append, inl, inr}
use Rattle.std.specs.Prelude.{Option, Some, None, slice_get, option_map, unwrap_or, IsTrue, IsSome, IfSome, map, is_some}
use Rattle.std.specs.List.{IsDistinct, AllByRecursion, All, sum_by}
use Rattle.std.proofs.lemmas.Bool.{eqb-true, eq-eqb, or_cases, or_from, false_from_ne_true}
use Rattle.std.proofs.lemmas.List.{map-append}
use Rattle.std.proofs.lemmas.List.Sums.{sum_by-cons, sum_by_push}
use Rattle.std.proofs.lemmas.Option.{slice_get_within, slice_get_past, slice_get-get_or}
use Rattle.run_laws.specs.Reached.{has}
use Rattle.run_laws.proofs.Unseen.{distinct_append, Disjoint}
use Rattle.heap_face.specs.declared.address.Addr.{Addr}
use Rattle.heap_face.specs.declared.shape.Shape.{Shape}
use Rattle.heap_face.specs.Heap.{Stored, Placed, HeapState, object_at, object_of, contents_of, used_words, changed_at, zero_object, with_new, header_words, IsWellPlaced, IsSound}
use Rattle.row_heap.specs.declared.heap.RowHeap.TheInside.{Inside}
use Rattle.row_heap.specs.Table.{Table, table_words, changed_row, IsWhole, AllWhole}
use Rattle.row_heap.specs.Placing.{placed_from, state_of, HasSerials}
use Rattle.row_heap.specs.declared.search.Search.{Search}
use Rattle.row_heap.specs.Found.{capacity}
use Rattle.row_heap.specs.Tables.{AreTables}
use Rattle.row_heap.proofs.RowLemmas.{object_words}
use Rattle.row_heap.proofs.Reading.{object_at_place}
use Rattle.row_heap.proofs.Following.{IsRoot, is_root, three_all}

-- ---- at an address

pub record IsAt (table : Table) (state : HeapState) (a : Addr) : Type 0 where
  pub some : 0 < a.0
  pub place : a.0 - 1 < length table.objects
  pub object : slice_get table.objects (a.0 - 1) ≡ object_of state a

pub at_live : (table : Table) (state : HeapState) (a : Addr) → state_of table ≡ state → IsTrue (is_some (object_of state a)) → IsAt table state a
at_live table state a view live =
    let at = is_root table a (subst (λ (s : HeapState). IsTrue (is_some (object_of s a))) (sym view) live) in
    let address : a.0 ≡ 1 + (a.0 - 1) = omega (arith, at.some) in
    record {
      some = at.some;
      place = at.place;
      object = sym (object_at_place 1 table.objects (a.0 - 1) a.0 address) ∙ ap (λ (s : HeapState). object_of s a) view;
    }

pub is_at : (table : Table) (state : HeapState) (a : Addr) → state_of table ≡ state → IsSome (object_of state a) → IsAt table state a
is_at table state a view live = at_live table state a view live

-- a place within the contents of an object is within those at a live address
word_live : (found : Option (Stored ℕ)) (at : ℕ) → at < length (unwrap_or (option_map (λ (o : Stored ℕ). o.contents) found) []) → IsTrue (is_some found)
word_live None at within = absurd (omega arith)
word_live (Some object) at within = refl

pub has_word : (table : Table) (state : HeapState) (a : Addr) (at : ℕ) → state_of table ≡ state → at < length (contents_of state a) → IsAt table state a
has_word table state a at view within = at_live table state a view (word_live (object_of state a) at within)

pub contents_are : (table : Table) (state : HeapState) (a : Addr) (contents : List ℕ) → IsAt table state a
    → option_map (λ (o : Stored ℕ). o.contents) (slice_get table.objects (a.0 - 1)) ≡ Some contents → contents_of state a ≡ contents
contents_are table state a contents is found =
    ap (λ (o : Option (List ℕ)). unwrap_or o []) (ap (option_map (λ (o : Stored ℕ). o.contents)) (sym is.object) ∙ found)

pub word_within : (table : Table) (state : HeapState) (a : Addr) (at : ℕ) → IsAt table state a → at < length (contents_of state a)
    → IfSome (slice_get table.objects (a.0 - 1)) (λ (o : Stored ℕ). at < length o.contents)
word_within table state a at is within =
    subst (λ (o : Option (Stored ℕ)). IfSome o (λ (o : Stored ℕ). at < length o.contents)) (sym is.object) (by_found (object_of state a) within)
  where
    by_found : (found : Option (Stored ℕ)) → at < length (unwrap_or (option_map (λ (o : Stored ℕ). o.contents) found) []) → IfSome found (λ (o : Stored ℕ). at < length o.contents)
    by_found None within = absurd (omega arith)
    by_found (Some object) within = within

-- the contents fill the words of the shape
pub whole_at : (table : Table) (state : HeapState) (a : Addr) (shape : Shape) → IsAt table state a
    → option_map (λ (o : Stored ℕ). o.shape) (slice_get table.objects (a.0 - 1)) ≡ Some shape
    → IfSome (slice_get table.objects (a.0 - 1)) IsWhole
    → length (contents_of state a) + header_words shape.kind ≡ shape.words
whole_at table state a shape is found whole = by_found (object_of state a) (sym (ap (option_map (λ (o : Stored ℕ). o.shape)) is.object) ∙ found)
    (subst (λ (o : Option (Stored ℕ)). IfSome o IsWhole) is.object whole)
  where
    by_found : (o : Option (Stored ℕ)) → option_map (λ (s : Stored ℕ). s.shape) o ≡ Some shape → IfSome o IsWhole
        → length (unwrap_or (option_map (λ (s : Stored ℕ). s.contents) o) []) + header_words shape.kind ≡ shape.words
    by_found None same whole = absurd cc
    by_found (Some object) same whole =
        let shapes : object.shape ≡ shape = cc in
        subst (λ (b : Shape). length object.contents + header_words b.kind ≡ b.words) shapes whole

pub dead_contents : (found : Option (Stored ℕ)) → is_some found ≡ false
    → length (unwrap_or (option_map (λ (o : Stored ℕ). o.contents) found) []) ≡ 0
dead_contents None dead = refl
dead_contents (Some object) dead = absurd cc

-- ---- a change of one object

changed_placed : (first : ℕ) (objects : List (Stored ℕ)) (place address : ℕ) (change : Stored ℕ → Stored ℕ) → address ≡ first + place
    → placed_from first (changed_row change objects place) ≡ changed_at address change (placed_from first objects)
changed_placed first [] place address change is = refl
changed_placed first (object ∷ objects) zero address change is =
    let same : first ≡ address = omega (arith, is) in
    sym (ap (λ (b : Bool). cond b (record { address = first; object = change object } ∷ placed_from (suc first) objects)
    (record { address = first; object = object } ∷ changed_at address change (placed_from (suc first) objects))) (eq-eqb first address same))
changed_placed first (object ∷ objects) (suc place) address change is =
    let other : eqb first address ≡ false = false_from_ne_true _ (λ h. let same = eqb-true first address h in let never : ⊥ = omega (arith, is, same) in never) in
    ap (λ (list : List Placed). record { address = first; object = object } ∷ list) (changed_placed (suc first) objects place address change (omega (arith, is)))
    ∙ sym (ap (λ (b : Bool). cond b (record { address = first; object = change object } ∷ placed_from (suc first) objects)
    (record { address = first; object = object } ∷ changed_at address change (placed_from (suc first) objects))) other)

pub state_changed : (table now : Table) (a : Addr) (change : Stored ℕ → Stored ℕ) → 0 < a.0
    → now.objects ≡ changed_row change table.objects (a.0 - 1) → now.half ≡ table.half → now.free ≡ table.free
    → state_of now ≡ record (state_of table) { objects = changed_at a.0 change (placed_from 1 table.objects) }
state_changed table now a change some now_is half free =
    let address : a.0 ≡ 1 + (a.0 - 1) = omega (arith, some) in
    let objects : placed_from 1 now.objects ≡ changed_at a.0 change (placed_from 1 table.objects) = ap (placed_from 1) now_is ∙ changed_placed 1 table.objects (a.0 - 1) a.0 change address in
    let of : List Placed → ℕ → ℕ → HeapState = λ list most next. record { objects = list; half = most; free_serial = next; is_draft_open = false } in
    ap (λ (list : List Placed). of list now.half now.free) objects
    ∙ ap (λ (n : ℕ). of (changed_at a.0 change (placed_from 1 table.objects)) n now.free) half
    ∙ ap (λ (n : ℕ). of (changed_at a.0 change (placed_from 1 table.objects)) table.half n) free

serials_same : (objects : List (Stored ℕ)) (place : ℕ) (change : Stored ℕ → Stored ℕ) → ((o : Stored ℕ) → (change o).serial ≡ o.serial)
    → map (λ (o : Stored ℕ). o.serial) (changed_row change objects place) ≡ map (λ (o : Stored ℕ). o.serial) objects
serials_same [] place change same = refl
serials_same (object ∷ objects) zero change same = ap (λ (n : ℕ). n ∷ map (λ (o : Stored ℕ). o.serial) objects) (same object)
serials_same (object ∷ objects) (suc place) change same = ap (λ (list : List ℕ). object.serial ∷ list) (serials_same objects place change same)

words_same : (objects : List (Stored ℕ)) (place : ℕ) (change : Stored ℕ → Stored ℕ) → ((o : Stored ℕ) → (change o).shape ≡ o.shape)
    → table_words (changed_row change objects place) ≡ table_words objects
words_same [] place change same = refl
words_same (object ∷ objects) zero change same =
    sum_by-cons object_words (change object) objects ∙ ap (λ (s : Shape). s.words + table_words objects) (same object) ∙ sym (sum_by-cons object_words object objects)
words_same (object ∷ objects) (suc place) change same =
    sum_by-cons object_words object (changed_row change objects place) ∙ ap (λ (n : ℕ). object.shape.words + n) (words_same objects place change same) ∙ sym (sum_by-cons object_words object objects)

tails : (m n : ℕ) (ms ns : List ℕ) → m ∷ ms ≡ n ∷ ns → ms ≡ ns
tails m n ms ns same = cc

heads : (m n : ℕ) (ms ns : List ℕ) → m ∷ ms ≡ n ∷ ns → m ≡ n
heads m n ms ns same = cc

given_same : (objects now : List (Stored ℕ)) (free : ℕ) → map (λ (o : Stored ℕ). o.serial) now ≡ map (λ (o : Stored ℕ). o.serial) objects
    → ((place : ℕ) (o : Stored ℕ) → slice_get objects place ≡ Some o → o.serial < free)
    → (place : ℕ) (o : Stored ℕ) → slice_get now place ≡ Some o → o.serial < free
given_same objects [] free same given place object found = absurd cc
given_same [] (o ∷ now) free same given place object found = absurd cc
given_same (first ∷ objects) (o ∷ now) free same given zero object found =
    let here : o ≡ object = cc in
    let serials : first.serial ≡ o.serial = sym (heads _ _ _ _ same) in
    subst (λ (n : ℕ). n < free) (serials ∙ ap (λ (s : Stored ℕ). s.serial) here) (given zero first refl)
given_same (first ∷ objects) (o ∷ now) free same given (suc place) object found =
    let rest : map (λ (s : Stored ℕ). s.serial) now ≡ map (λ (s : Stored ℕ). s.serial) objects = tails _ _ _ _ same in
    given_same objects now free rest (λ p. given (suc p)) place object found

pub tables_changed : (it : Inside) (now : Table) (place : ℕ) (change : Stored ℕ → Stored ℕ) → AreTables it
    → ((o : Stored ℕ) → (change o).serial ≡ o.serial) → ((o : Stored ℕ) → (change o).shape ≡ o.shape)
    → now.objects ≡ changed_row change it.present.objects place → now.half ≡ it.present.half → now.free ≡ it.present.free
    → AreTables record { present = now; other = it.other; search = it.search }
tables_changed it now place change are serial shape now_is half free =
    let serials : map (λ (o : Stored ℕ). o.serial) now.objects ≡ map (λ (o : Stored ℕ). o.serial) it.present.objects = ap (map (λ (o : Stored ℕ). o.serial)) now_is ∙ serials_same it.present.objects place change serial in
    record {
      serials = record {
        distinct = subst (IsDistinct eqb) (sym serials) are.serials.distinct;
        given = λ p o found. subst (λ (n : ℕ). o.serial < n) (sym free) (given_same it.present.objects now.objects it.present.free serials are.serials.given p o found);
      };
      room = omega (arith, are.room, half, ap table_words now_is, words_same it.present.objects place change shape);
      half = are.half ∙ sym half;
      order_room = omega (arith, are.order_room, half);
      forwards_room = omega (arith, are.forwards_room, half);
    }

-- ---- a new object

placed_push : (first : ℕ) (objects : List (Stored ℕ)) (object : Stored ℕ)
    → placed_from first (objects ++ object ∷ []) ≡ placed_from first objects ++ record { address = first + length objects; object = object } ∷ []
placed_push first [] object =
    let here : first ≡ first + 0 = omega arith in
    let at : ℕ → List Placed = λ n. record { address = n; object = object } ∷ [] in
    ap at here
placed_push first (o ∷ objects) object =
    let next : suc first + length objects ≡ first + suc (length objects) = omega arith in
    let at : ℕ → List Placed = λ n. record { address = n; object = object } ∷ [] in
    ap (λ (list : List Placed). record { address = first; object = o } ∷ list)
    (placed_push (suc first) objects object ∙ ap (λ (n : ℕ). placed_from (suc first) objects ++ at n) next)

pub state_with_new : (table now : Table) (shape : Shape) (count : ℕ) → now.objects ≡ table.objects ++ zero_object table.free shape ∷ []
    → now.half ≡ table.half → now.free ≡ table.free + 1 → count ≡ length now.objects
    → state_of now ≡ with_new (record { 0 = count }) shape (state_of table)
state_with_new table now shape count now_is half free count_is =
    let new = zero_object table.free shape in
    let address : 1 + length table.objects ≡ count = omega (arith, count_is, ap length now_is, length-append table.objects (new ∷ [])) in
    let at : ℕ → List Placed = λ n. placed_from 1 table.objects ++ record { address = n; object = new } ∷ [] in
    let objects : placed_from 1 now.objects ≡ at count = ap (placed_from 1) now_is ∙ placed_push 1 table.objects new ∙ ap at address in
    let of : List Placed → ℕ → ℕ → HeapState = λ list most next. record { objects = list; half = most; free_serial = next; is_draft_open = false } in
    ap (λ (list : List Placed). of list now.half now.free) objects
    ∙ ap (λ (n : ℕ). of (at count) n now.free) half
    ∙ ap (λ (n : ℕ). of (at count) table.half n) free

pub new_is_fresh : (table now : Table) (shape : Shape) (count : ℕ) → now.objects ≡ table.objects ++ zero_object table.free shape ∷ []
    → count ≡ length now.objects → object_of (state_of table) (record { 0 = count }) ≡ None
new_is_fresh table now shape count now_is count_is =
    let address : count ≡ 1 + length table.objects = omega (arith, count_is, ap length now_is, length-append table.objects (zero_object table.free shape ∷ [])) in
    object_at_place 1 table.objects (length table.objects) count address ∙ slice_get_past table.objects (length table.objects) (omega arith)

given_push : (objects : List (Stored ℕ)) (free : ℕ) (shape : Shape)
    → ((place : ℕ) (o : Stored ℕ) → slice_get objects place ≡ Some o → o.serial < free)
    → (place : ℕ) (o : Stored ℕ) → slice_get (objects ++ zero_object free shape ∷ []) place ≡ Some o → o.serial < free + 1
given_push [] free shape given zero object found =
    let same : zero_object free shape ≡ object = cc in
    let serial : object.serial ≡ free = ap (λ (s : Stored ℕ). s.serial) (sym same) in
    omega (arith, serial)
given_push [] free shape given (suc place) object found = absurd cc
given_push (first ∷ objects) free shape given zero object found =
    let here = given zero object found in omega (arith, here)
given_push (first ∷ objects) free shape given (suc place) object found =
    given_push objects free shape (λ p. given (suc p)) place object found

free_apart : (objects : List (Stored ℕ)) (free : ℕ) → ((place : ℕ) (o : Stored ℕ) → slice_get objects place ≡ Some o → o.serial < free)
    → (n : ℕ) → IsTrue (has (map (λ (o : Stored ℕ). o.serial) objects) n) → n < free
free_apart [] free given n h = absurd cc
free_apart (object ∷ objects) free given n h = elim (or_cases (eqb n object.serial) (has (map (λ (o : Stored ℕ). o.serial) objects) n) h) [
  | inl same ↦ subst (λ (m : ℕ). m < free) (sym (eqb-true n object.serial same)) (given zero object refl)
  | inr other ↦ free_apart objects free (λ p. given (suc p)) n other
]

pub serials_with_new : (table now : Table) (shape : Shape) → HasSerials table → now.objects ≡ table.objects ++ zero_object table.free shape ∷ []
    → now.free ≡ table.free + 1 → HasSerials now
unfolding Disjoint IsDistinct
serials_with_new table now shape has_serials now_is free =
    let old = map (λ (o : Stored ℕ). o.serial) table.objects in
    let serials : map (λ (o : Stored ℕ). o.serial) now.objects ≡ old ++ table.free ∷ [] = ap (map (λ (o : Stored ℕ). o.serial)) now_is ∙ map-append (λ (o : Stored ℕ). o.serial) table.objects (zero_object table.free shape ∷ []) in
    let alone : IsDistinct eqb (table.free ∷ []) = (tt, tt) in
    let disjoint : Disjoint old (table.free ∷ []) = λ n h. or_from (eqb n table.free) false
    (false_from_ne_true _ (λ k. let below = free_apart table.objects table.free has_serials.given n h in let same = eqb-true n table.free k in let never : ⊥ = omega (arith, below, same) in never)) refl in
    record {
      distinct = subst (IsDistinct eqb) (sym serials) (distinct_append old (table.free ∷ []) has_serials.distinct alone disjoint);
      given = λ place o found. subst (λ (n : ℕ). o.serial < n) (sym free)
          (given_push table.objects table.free shape has_serials.given place o (sym (ap (λ (list : List (Stored ℕ)). slice_get list place) now_is) ∙ found));
    }

pub words_with_new : (objects : List (Stored ℕ)) (free : ℕ) (shape : Shape)
    → table_words (objects ++ zero_object free shape ∷ []) ≡ table_words objects + shape.words
words_with_new objects free shape = sum_by_push object_words objects (zero_object free shape)

-- ---- what holds of the heap

abbrev pub placed_words : Placed → ℕ
placed_words placed = placed.object.shape.words

used_placed : (first : ℕ) (objects : List (Stored ℕ)) → sum_by placed_words (placed_from first objects) ≡ table_words objects
used_placed first [] = refl
used_placed first (object ∷ objects) =
    sum_by-cons placed_words (record { address = first; object = object }) (placed_from (suc first) objects)
    ∙ ap (λ (n : ℕ). object.shape.words + n) (used_placed (suc first) objects) ∙ sym (sum_by-cons object_words object objects)

pub used_in : (table : Table) (state : HeapState) → state_of table ≡ state → used_words state ≡ table_words table.objects
used_in table state view = sym (ap used_words view) ∙ used_placed 1 table.objects

later_apart : (address first : ℕ) (objects : List (Stored ℕ)) → address < first
    → AllByRecursion (λ y. eqb address y ≡ false) (map (λ (p : Placed). p.address) (placed_from first objects))
later_apart address first [] below = tt
later_apart address first (object ∷ objects) below = (
  false_from_ne_true _ (λ h. let same = eqb-true address first h in let never : ⊥ = omega (arith, same, below) in never),
  later_apart address (suc first) objects (omega (arith, below)),
)

addresses_apart : (first : ℕ) (objects : List (Stored ℕ)) → IsDistinct eqb (map (λ (p : Placed). p.address) (placed_from first objects))
unfolding IsDistinct
addresses_apart first [] = tt
addresses_apart first (object ∷ objects) = (later_apart first (suc first) objects (omega arith), addresses_apart (suc first) objects)

placed_serials : (first : ℕ) (objects : List (Stored ℕ))
    → map (λ (p : Placed). p.object.serial) (placed_from first objects) ≡ map (λ (o : Stored ℕ). o.serial) objects
placed_serials first [] = refl
placed_serials first (object ∷ objects) = ap (λ (list : List ℕ). object.serial ∷ list) (placed_serials (suc first) objects)

well_placed : (first free end : ℕ) (objects : List (Stored ℕ)) → 0 < first → first + length objects ≤ end → end ≤ 2 ^ 32
    → ((place : ℕ) (o : Stored ℕ) → slice_get objects place ≡ Some o → o.serial < free) → AllWhole objects
    → All (IsWellPlaced free) (placed_from first objects)
well_placed first free end [] some enough small given whole k d within = absurd (omega arith)
well_placed first free end (object ∷ objects) some enough small given whole zero d within = record {
  not_null = some;
  small = omega (arith, enough, small);
  serial = given zero object refl;
  words = whole zero object refl;
}
well_placed first free end (object ∷ objects) some enough small given whole (suc k) d within =
    well_placed (suc first) free end objects (omega arith) (omega (arith, enough)) small (λ p. given (suc p)) (λ p. whole (suc p)) k d (omega (arith, within))

pub is_sound : (table : Table) (state : HeapState) (used : ℕ) → state_of table ≡ state → HasSerials table → AllWhole table.objects
    → used ≡ table_words table.objects → used ≤ table.half → used < 2 ^ 32 → IsSound state
is_sound table state used view has_serials whole used_is room small =
    let few = three_all table.objects whole in
    let end : 1 + length table.objects ≤ 2 ^ 32 = omega (arith, few, used_is, small) in
    let here : IsSound (state_of table) = record {
      addresses = addresses_apart 1 table.objects;
      serials = subst (IsDistinct eqb) (sym (placed_serials 1 table.objects)) has_serials.distinct;
      objects = well_placed 1 table.free (1 + length table.objects) table.objects (omega arith) (omega arith) end has_serials.given whole;
      room = omega (arith, used_placed 1 table.objects, used_is, room);
    } in
    subst IsSound view here

-- ---- a heap as it is opened

pub tables_open : (present other : Table) (search : Search) (half : ℕ) → present ≡ record { objects = []; half = half; free = 0 }
    → other ≡ record { objects = []; half = half; free = 0 } → half < 3 * (capacity search.order + 1)
    → half < 3 * (capacity search.forwards + 1) → AreTables record { present = present; other = other; search = search }
unfolding IsDistinct
tables_open present other search half present_is other_is order_room forwards_room =
    let empty : Table = record { objects = []; half = half; free = 0 } in
    let start : AreTables record { present = empty; other = empty; search = search } = record {
      serials = record { distinct = tt; given = λ place object found. absurd cc };
      room = omega arith;
      half = refl;
      order_room = order_room;
      forwards_room = forwards_room;
    } in
    subst (λ (t : Table). AreTables record { present = t; other = other; search = search }) (sym present_is)
    (subst (λ (t : Table). AreTables record { present = empty; other = t; search = search }) (sym other_is) start)
