-- What tests of a heap show.
use Rattle.std.proofs.Common.{◌≡◌, ◌≢◌, ℕ, zero, suc, ◌+◌, ◌-◌, ◌<◌, ◌≤◌, Bool, true, false, cond, eqb, ltb, ◌&&◌, List, [], ◌∷◌, ◌++◌, length, take, get_or, refl, sym, ap, subst, ◌∙◌, arith, inl, inr}
use Rattle.std.specs.Prelude.{Option, Some, None, slice_get, option_map, option_to_list, unwrap_or, IsTrue, IfSome, flat_map, map, not, is_some}
use Rattle.std.specs.List.{list_all, find}
use Rattle.std.proofs.lemmas.Bool.{ltb-true, lt-ltb, eqb-true, eq-eqb, and_parts, false_from_ne_true, cases_eq}
use Rattle.std.proofs.lemmas.List.{take_more, take_all, length-take-le}
use Rattle.std.proofs.lemmas.Option.{slice_get_cases}
use Rattle.heap_face.specs.declared.address.Addr.{Addr}
use Rattle.heap_face.specs.declared.layout.Layouts.{Layouts}
use Rattle.jv_types.specs.declared.number.ClassNo.{ClassNo}
use Rattle.heap_face.specs.declared.layout.Cell.{Cell}
use Rattle.heap_face.specs.declared.shape.Kind.{Kind}
use Rattle.heap_face.specs.declared.shape.Kind.TheVariants.{Object, Refs, Ints, Text}
use Rattle.heap_face.specs.declared.shape.Shape.{Shape}
use Rattle.heap_face.specs.Heap.{Stored, Placed, HeapState, object_at, object_of}
use Rattle.heap_face.specs.Collection.{Content, null, content_of, target, contents_from, refers_at, is_dangling, cells_of, has_cells, can_follow, read_by, by_serial, of_serial, collected, reached, CanCollect}
use Rattle.row_heap.specs.Table.{Table}
use Rattle.row_heap.specs.Placing.{placed_from, state_of}
use Rattle.row_heap.specs.Found.{Follows, EachFollows}
use Rattle.row_heap.proofs.Reading.{object_at_place, object_at_below, contents_from-append, null_is}

-- ---- words of an object

all_append : {A : Type 0} (p : A → Bool) (xs ys : List A) → IsTrue (list_all p xs) → IsTrue (list_all p ys) → IsTrue (list_all p (xs ++ ys))
all_append p [] ys one other = other
all_append p (x ∷ xs) ys one other =
    let parts = and_parts (p x) (list_all p xs) one in
    ap (λ (b : Bool). b && list_all p (xs ++ ys)) parts.0 ∙ all_append p xs ys parts.1 other

abbrev pub is_fine : Content → Bool
is_fine content = not (is_dangling content)

-- the references among the first so many words are null or live
pub record HasLive (objects : List (Stored ℕ)) (refers : ℕ → Bool) (contents : List ℕ) (at : ℕ) : Type 0 where
  pub live : IsTrue (list_all is_fine (contents_from (placed_from 1 objects) refers 0 (take at contents)))

pub none_live : (objects : List (Stored ℕ)) (refers : ℕ → Bool) (contents : List ℕ) → HasLive objects refers contents 0
none_live objects refers contents = record { live = refl }

live_more : (objects : List (Stored ℕ)) (refers : ℕ → Bool) (contents : List ℕ) (at : ℕ) → HasLive objects refers contents at
    → at < length contents → IsTrue (is_fine (content_of (placed_from 1 objects) (refers at) (get_or contents at 0)))
    → HasLive objects refers contents (at + 1)
live_more objects refers contents at is within fine =
    let long : 0 + length (take at contents) ≡ at = omega (arith, length-take-le at contents (omega (arith, within))) in
    let front = contents_from (placed_from 1 objects) refers 0 (take at contents) in
    let more : contents_from (placed_from 1 objects) refers 0 (take (at + 1) contents) ≡ front ++ content_of (placed_from 1 objects) (refers at) (get_or contents at 0) ∷ [] =
    ap (contents_from (placed_from 1 objects) refers 0) (take_more contents at 0 within)
    ∙ contents_from-append (placed_from 1 objects) refers 0 (take at contents) (get_or contents at 0)
    ∙ ap (λ (n : ℕ). front ++ content_of (placed_from 1 objects) (refers n) (get_or contents at 0) ∷ []) long in
    let one : IsTrue (list_all is_fine (content_of (placed_from 1 objects) (refers at) (get_or contents at 0) ∷ [])) = ap (λ (b : Bool). b && true) fine in
    record { live = subst (λ (list : List Content). IsTrue (list_all is_fine list)) (sym more) (all_append is_fine front (content_of (placed_from 1 objects) (refers at) (get_or contents at 0) ∷ []) is.live one) }

bits_fine : (objects : List Placed) (on : Bool) (word : ℕ) → on ≡ false → IsTrue (is_fine (content_of objects on word))
bits_fine objects on word off = ap (λ (b : Bool). is_fine (content_of objects b word)) off

within_fine : (objects : List (Stored ℕ)) (on : Bool) (word : ℕ) → word ≤ length objects → IsTrue (is_fine (content_of (placed_from 1 objects) on word))
within_fine objects false word within = refl
within_fine objects true word within = elim (cases_eq word 0) [
  | inl none ↦ ap is_fine (null_is (placed_from 1 objects) word none)
  | inr some ↦
      let off : eqb word 0 ≡ false = false_from_ne_true _ (λ h. some (eqb-true word 0 h)) in
      let address : word ≡ 1 + (word - 1) = omega (arith, some) in
      elim (slice_get_cases objects (word - 1)).1 [
        | inl there ↦
            ap (λ (b : Bool). is_fine (cond b null (target (object_at (placed_from 1 objects) word)))) off
            ∙ ap (λ (o : Option (Stored ℕ)). is_fine (target o)) (object_at_place 1 objects (word - 1) word address ∙ there.2)
        | inr past ↦ absurd (omega (arith, past.0, within, some))
      ]
]

pub live_bits : (objects : List (Stored ℕ)) (refers : ℕ → Bool) (contents : List ℕ) (at : ℕ) → HasLive objects refers contents at
    → at < length contents → refers at ≡ false → HasLive objects refers contents (at + 1)
live_bits objects refers contents at is within off =
    live_more objects refers contents at is within (bits_fine (placed_from 1 objects) (refers at) (get_or contents at 0) off)

pub live_within : (objects : List (Stored ℕ)) (refers : ℕ → Bool) (contents : List ℕ) (at : ℕ) → HasLive objects refers contents at
    → at < length contents → get_or contents at 0 ≤ length objects → HasLive objects refers contents (at + 1)
live_within objects refers contents at is within small =
    live_more objects refers contents at is within (within_fine objects (refers at) (get_or contents at 0) small)

-- ---- an object

length-contents_from : (objects : List Placed) (refers : ℕ → Bool) (at : ℕ) (words : List ℕ) → length (contents_from objects refers at words) ≡ length words
length-contents_from objects refers at [] = refl
length-contents_from objects refers at (word ∷ words) = ap suc (length-contents_from objects refers (suc at) words)

-- the same of an object by its parts
pub follows_is : (layouts : Layouts) (objects : List (Stored ℕ)) (found : Option (Stored ℕ)) (shape : Shape) (contents : List ℕ) (at : ℕ)
    → option_map (λ (o : Stored ℕ). o.shape) found ≡ Some shape → option_map (λ (o : Stored ℕ). o.contents) found ≡ Some contents
    → HasLive objects (refers_at layouts shape) contents at → length contents ≤ at
    → ((o : Stored Content) → o.shape ≡ shape → length o.contents ≡ length contents → IsTrue (has_cells layouts o shape.kind))
    → IfSome found (Follows layouts objects)
follows_is layouts objects None shape contents at s c live past cells = absurd cc
follows_is layouts objects (Some object) shape contents at s c live past cells =
    let shapes : shape ≡ object.shape = cc in
    let same : contents ≡ object.contents = cc in
    let all : IsTrue (list_all is_fine (contents_from (placed_from 1 objects) (refers_at layouts shape) 0 contents)) =
    subst (λ (ws : List ℕ). IsTrue (list_all is_fine (contents_from (placed_from 1 objects) (refers_at layouts shape) 0 ws))) (take_all at contents past) live.live in
    let here : IsTrue (list_all is_fine (contents_from (placed_from 1 objects) (refers_at layouts object.shape) 0 object.contents)) =
    subst (λ (ws : List ℕ). IsTrue (list_all is_fine (contents_from (placed_from 1 objects) (refers_at layouts object.shape) 0 ws))) same
    (subst (λ (b : Shape). IsTrue (list_all is_fine (contents_from (placed_from 1 objects) (refers_at layouts b) 0 contents))) shapes all) in
    let read = read_by layouts (placed_from 1 objects) object in
    let has : IsTrue (has_cells layouts read object.shape.kind) = subst (λ (b : Shape). IsTrue (has_cells layouts read b.kind)) shapes
    (cells read (sym shapes) (length-contents_from (placed_from 1 objects) (refers_at layouts object.shape) 0 object.contents ∙ ap length (sym same))) in
    ap (λ (b : Bool). b && list_all is_fine read.contents) has ∙ here

-- ---- all objects

list_follows : (q : Stored Content → Bool) (read : Stored ℕ → Stored Content) (first : ℕ) (objects : List (Stored ℕ))
    → ((place : ℕ) → place < length objects → IfSome (slice_get objects place) (λ (o : Stored ℕ). IsTrue (q (read o))))
    → IsTrue (list_all q (map (λ (p : Placed). read p.object) (placed_from first objects)))
list_follows q read first [] each = refl
list_follows q read first (object ∷ objects) each =
    ap (λ (b : Bool). b && list_all q (map (λ (p : Placed). read p.object) (placed_from (suc first) objects))) (each zero (omega arith))
    ∙ list_follows q read (suc first) objects (λ place within. each (suc place) (omega (arith, within)))

found_passes : (q p : Stored Content → Bool) (list : List (Stored Content)) → IsTrue (list_all q list) → IsTrue (list_all q (option_to_list (find p list)))
found_passes q p [] all = refl
found_passes q p (o ∷ list) all = by_test (and_parts (q o) (list_all q list) all).0 (found_passes q p list (and_parts (q o) (list_all q list) all).1) (p o)
  where
    by_test : IsTrue (q o) → IsTrue (list_all q (option_to_list (find p list))) → (test : Bool) → IsTrue (list_all q (option_to_list (cond test (Some o) (find p list))))
    by_test here rest true = ap (λ (b : Bool). b && true) here
    by_test here rest false = rest

serials_pass : (q : Stored Content → Bool) (objects : List (Stored Content)) (serials : List ℕ) → IsTrue (list_all q objects)
    → IsTrue (list_all q (flat_map (λ serial. option_to_list (of_serial objects serial)) serials))
serials_pass q objects [] all = refl
serials_pass q objects (serial ∷ serials) all =
    all_append q (option_to_list (of_serial objects serial)) (flat_map (λ n. option_to_list (of_serial objects n)) serials)
    (found_passes q (λ o. eqb o.serial serial) objects all) (serials_pass q objects serials all)

-- Where all objects can be followed, so can those that are reached.
pub can_collect_is : (layouts : Layouts) (table : Table) (state : HeapState) (roots : List Addr) (at : ℕ) → state_of table ≡ state
    → EachFollows layouts table.objects → IsTrue (list_all (λ a. is_some (object_of state a)) (take at roots)) → length roots ≤ at
    → CanCollect layouts state roots
can_collect_is layouts table state roots at view each live past =
    let all : IsTrue (list_all (can_follow layouts) (by_serial layouts (state_of table))) = list_follows (can_follow layouts) (read_by layouts (placed_from 1 table.objects)) 1 table.objects each in
    record {
      live = subst (λ (list : List Addr). IsTrue (list_all (λ a. is_some (object_of state a)) list)) (take_all at roots past) live;
      followed = subst (λ (s : HeapState). IsTrue (list_all (can_follow layouts) (collected layouts s roots))) view
          (serials_pass (can_follow layouts) (by_serial layouts (state_of table)) (reached layouts (state_of table) roots) all);
    }

pub live_roots : (p : Addr → Bool) (roots : List Addr) (at : ℕ) (d : Addr) → at < length roots → IsTrue (list_all p (take at roots))
    → IsTrue (p (get_or roots at d)) → IsTrue (list_all p (take (at + 1) roots))
live_roots p roots at d within all here =
    subst (λ (list : List Addr). IsTrue (list_all p list)) (sym (take_more roots at d within))
    (all_append p (take at roots) (get_or roots at d ∷ []) all (ap (λ (b : Bool). b && true) here))

-- ---- cells

pub cells_object : (layouts : Layouts) (class : ClassNo) (count : ℕ) (o : Stored Content)
    → option_map (λ (cells : List Cell). length cells) (cells_of layouts class) ≡ Some count → o.shape.class ≡ class → length o.contents ≡ count
    → IsTrue (has_cells layouts o Object)
cells_object layouts class count o cells same long =
    ap (λ (k : ClassNo). unwrap_or (option_map (λ (list : List Cell). eqb (length list) (length o.contents)) (cells_of layouts k)) false) same
    ∙ by_cells (cells_of layouts class) cells
  where
    by_cells : (found : Option (List Cell)) → option_map (λ (list : List Cell). length list) found ≡ Some count
        → unwrap_or (option_map (λ (list : List Cell). eqb (length list) (length o.contents)) found) false ≡ true
    by_cells None is = absurd cc
    by_cells (Some list) is = let count_is : length list ≡ count = cc in eq-eqb (length list) (length o.contents) (count_is ∙ sym long)

pub cells_other : (layouts : Layouts) (o : Stored Content) (kind : Kind) → (kind ≡ Object → ⊥) → IsTrue (has_cells layouts o kind)
cells_other layouts o Object other = absurd (other refl)
cells_other layouts o Refs other = refl
cells_other layouts o Ints other = refl
cells_other layouts o Text other = refl

-- ---- an address

pub is_live_test : (table : Table) (state : HeapState) (a : Addr) (count : ℕ) → state_of table ≡ state → (a.0 ≡ 0 → ⊥)
    → count ≡ length table.objects → ltb (a.0 - 1) count ≡ is_some (object_of state a)
is_live_test table state a count view some same =
    let address : a.0 ≡ 1 + (a.0 - 1) = omega (arith, some) in
    let here : is_some (object_of state a) ≡ is_some (slice_get table.objects (a.0 - 1)) =
    ap (λ (s : HeapState). is_some (object_of s a)) (sym view) ∙ ap is_some (object_at_place 1 table.objects (a.0 - 1) a.0 address) in
    elim (slice_get_cases table.objects (a.0 - 1)).1 [
      | inl there ↦ lt-ltb (a.0 - 1) count (omega (arith, there.1, same)) ∙ sym (here ∙ ap is_some there.2)
      | inr past ↦ false_from_ne_true _ (λ h. let below = ltb-true (a.0 - 1) count h in let never : ⊥ = omega (arith, below, past.0, same) in never) ∙ sym (here ∙ ap is_some past.1)
    ]

pub null_is_dead : (table : Table) (state : HeapState) (a : Addr) → state_of table ≡ state → a.0 ≡ 0 → is_some (object_of state a) ≡ false
null_is_dead table state a view none =
    let below : a.0 < 1 = omega (arith, none) in
    ap (λ (s : HeapState). is_some (object_of s a)) (sym view) ∙ ap is_some (object_at_below 1 table.objects a.0 below)
