-- What a collection leaves is what can be reached, by serials.
use Rattle.std.proofs.Common.{◌≡◌, ◌≢◌, ℕ, zero, suc, ◌+◌, ◌-◌, ◌<◌, ◌≤◌, Bool, true, false, cond, eqb, List, [], ◌∷◌, ◌++◌, length, get_or, refl, sym, ap, subst, ◌∙◌, arith, inl, inr}
use Rattle.std.specs.Prelude.{Option, Some, None, slice_get, option_map, option_to_list, unwrap_or, IsTrue, IfSome, flat_map, map, not, is_some}
use Rattle.std.specs.List.{IsDistinct, list_all, sum_by, All}
use Rattle.std.proofs.lemmas.Bool.{eqb-true, eq-eqb, both_ways, and_parts, or_left, or_right, false_from_ne_true}
use Rattle.std.proofs.lemmas.List.{append-nil, map-append}
use Rattle.std.proofs.lemmas.Option.{slice_get_within, slice_get_cases, slice_get-get_or}
use Rattle.run_laws.specs.Reached.{has, Reached, root, child, ListsReached}
use Rattle.run_laws.proofs.Unseen.{has_left, has_right}
use Rattle.run_laws.proofs.ReachOrders.{below_lists}
use Rattle.heap_face.specs.declared.address.Addr.{Addr}
use Rattle.heap_face.specs.declared.layout.Layouts.{Layouts}
use Rattle.heap_face.specs.Heap.{Stored, Placed, HeapState, object_at, object_of, serial_of}
use Rattle.heap_face.specs.Collection.{Content, null, reference, content_of, target, contents_from, refers_at, read_by, by_serial, referred, of_serial, children, root_serials, reached, collected, CanCollect}
use Rattle.row_heap.specs.Table.{Table, table_words}
use Rattle.row_heap.specs.Placing.{placed_from, state_of, HasSerials}
use Rattle.row_heap.specs.Found.{serial_at, serials_of, IsFound, contents_in, CanVisit, CanFollow}
use Rattle.row_heap.specs.Forwards.{forwarded, forwarded_word, copy_of, copies_at, copies, forwarded_root, HasForwards, IsForwarded}
use Rattle.row_heap.proofs.CopyLemmas.{copies_words}
use Rattle.row_heap.proofs.FoundLemmas.{serial_has}
use Rattle.row_heap.proofs.Reading.{object_at_place, RefersTo, ref_at}
use Rattle.row_heap.proofs.Following.{of_serial_is, serial_found, children_at, are_given, can_follow_all, serials_given, IsRoot, is_root}

-- ---- where copies stand

copy_at : (layouts : Layouts) (objects : List (Stored ℕ)) (forwards : List ℕ) (place : ℕ) (object : Stored ℕ)
    → slice_get objects place ≡ Some object → copies_at layouts objects forwards place ≡ copy_of layouts forwards object ∷ []
copy_at layouts objects forwards place object found =
    ap (λ (o : Option (Stored ℕ)). map (copy_of layouts forwards) (option_to_list o)) found

pub copies_get : (layouts : Layouts) (objects : List (Stored ℕ)) (forwards order : List ℕ) (k place : ℕ) (object : Stored ℕ)
    → ((j p : ℕ) → slice_get order j ≡ Some p → p < length objects) → slice_get order k ≡ Some place
    → slice_get objects place ≡ Some object
    → slice_get (copies layouts objects forwards order) k ≡ Some (copy_of layouts forwards object)
copies_get layouts objects forwards [] k place object within there found = absurd cc
copies_get layouts objects forwards (first ∷ order) zero place object within there found =
    let same : first ≡ place = cc in
    let here : slice_get objects first ≡ Some object = ap (slice_get objects) same ∙ found in
    ap (λ (list : List (Stored ℕ)). slice_get (list ++ copies layouts objects forwards order) zero) (copy_at layouts objects forwards first object here)
copies_get layouts objects forwards (first ∷ order) (suc k) place object within there found =
    elim (slice_get_cases objects first).1 [
      | inl at ↦
          ap (λ (list : List (Stored ℕ)). slice_get (list ++ copies layouts objects forwards order) (suc k)) (copy_at layouts objects forwards first at.0 at.2)
          ∙ copies_get layouts objects forwards order k place object (λ j. within (suc j)) there found
      | inr past ↦ absurd (omega (arith, past.0, within zero first refl))
    ]

-- a found object has a forward, at which its copy stands
record HasCopy (layouts : Layouts) (objects : List (Stored ℕ)) (forwards order : List ℕ) (place : ℕ) (object : Stored ℕ) : Type 0 where
  pub some : 0 < get_or forwards place 0
  pub copy : slice_get (copies layouts objects forwards order) (get_or forwards place 0 - 1) ≡ Some (copy_of layouts forwards object)

has_copy : (layouts : Layouts) (objects : List (Stored ℕ)) (forwards order : List ℕ) (place : ℕ) (object : Stored ℕ)
    → IsFound objects order forwards → slice_get objects place ≡ Some object
    → IsTrue (has (serials_of objects order) (serial_at objects place)) → HasCopy layouts objects forwards order place object
has_copy layouts objects forwards order place object is found stands =
    let within = slice_get_within objects place object found in
    let some_is : get_or forwards place 0 ≢ 0 = λ none. both_ways _ (is.unfound place within none) stands in
    let some : 0 < get_or forwards place 0 = omega (arith, some_is) in
    record {
      some = some;
      copy = copies_get layouts objects forwards order (get_or forwards place 0 - 1) place object is.within (is.found place within some) found;
    }

-- the copy lies at the address of the forward
copy_lies : (layouts : Layouts) (objects : List (Stored ℕ)) (forwards order : List ℕ) (place : ℕ) (object : Stored ℕ)
    → HasCopy layouts objects forwards order place object
    → object_at (placed_from 1 (copies layouts objects forwards order)) (get_or forwards place 0) ≡ Some (copy_of layouts forwards object)
copy_lies layouts objects forwards order place object has =
    let address : get_or forwards place 0 ≡ 1 + (get_or forwards place 0 - 1) = omega (arith, has.some) in
    object_at_place 1 (copies layouts objects forwards order) (get_or forwards place 0 - 1) (get_or forwards place 0) address ∙ has.copy

-- ---- contents of copies

-- What is known of a reference of a found object.
pub record IsKept (objects : List (Stored ℕ)) (order : List ℕ) (word : ℕ) : Type 0 where
  pub to : RefersTo objects word
  pub stands : IsTrue (has (serials_of objects order) (serial_at objects (word - 1)))

kept_content : (layouts : Layouts) (objects : List (Stored ℕ)) (forwards order : List ℕ) (word : ℕ) → IsFound objects order forwards
    → IsKept objects order word
    → content_of (placed_from 1 (copies layouts objects forwards order)) true (get_or forwards (word - 1) 0)
    ≡ content_of (placed_from 1 objects) true word
kept_content layouts objects forwards order word is kept = elim (slice_get_cases objects (word - 1)).1 [
  | inl there ↦
      let place = word - 1 in
      let has = has_copy layouts objects forwards order place there.0 is there.2 kept.stands in
      let off : eqb (get_or forwards place 0) 0 ≡ false = false_from_ne_true _ (λ h. let none = eqb-true (get_or forwards place 0) 0 h in let no_forward : ⊥ = omega (arith, none, has.some) in no_forward) in
      ap (λ (b : Bool). cond b null (target (object_at (placed_from 1 (copies layouts objects forwards order)) (get_or forwards place 0)))) off
      ∙ ap target (copy_lies layouts objects forwards order place there.0 has)
      ∙ ap reference (sym (serial_found objects place there.0 there.2)) ∙ sym kept.to.content
  | inr past ↦ absurd (omega (arith, past.0, kept.to.place))
]

by_zero : (layouts : Layouts) (objects : List (Stored ℕ)) (forwards order : List ℕ) (word : ℕ) → IsFound objects order forwards
    → (test : Bool) → eqb word 0 ≡ test → (word ≢ 0 → IsKept objects order word)
    → content_of (placed_from 1 (copies layouts objects forwards order)) true (cond test word (get_or forwards (word - 1) 0)) ≡ content_of (placed_from 1 objects) true word
by_zero layouts objects forwards order word is true none kept =
    ap (λ (b : Bool). cond b null (target (object_at (placed_from 1 (copies layouts objects forwards order)) word))) none
    ∙ sym (ap (λ (b : Bool). cond b null (target (object_at (placed_from 1 objects) word))) none)
by_zero layouts objects forwards order word is false some kept =
    kept_content layouts objects forwards order word is (kept (λ h. both_ways _ some (eq-eqb word 0 h)))

by_on : (layouts : Layouts) (objects : List (Stored ℕ)) (forwards order : List ℕ) (word : ℕ) → IsFound objects order forwards
    → (on : Bool) → (on ≡ true → word ≢ 0 → IsKept objects order word)
    → content_of (placed_from 1 (copies layouts objects forwards order)) on (forwarded_word forwards on word) ≡ content_of (placed_from 1 objects) on word
by_on layouts objects forwards order word is false kept = refl
by_on layouts objects forwards order word is true kept =
    by_zero layouts objects forwards order word is (eqb word 0) refl (kept refl)

contents_kept : (layouts : Layouts) (objects : List (Stored ℕ)) (forwards order : List ℕ) (refers : ℕ → Bool) (at : ℕ) (words : List ℕ)
    → IsFound objects order forwards
    → ((i : ℕ) → i < length words → refers (at + i) ≡ true → get_or words i 0 ≢ 0 → IsKept objects order (get_or words i 0))
    → contents_from (placed_from 1 (copies layouts objects forwards order)) refers at (forwarded forwards refers at words)
    ≡ contents_from (placed_from 1 objects) refers at words
contents_kept layouts objects forwards order refers at [] is kept = refl
contents_kept layouts objects forwards order refers at (word ∷ words) is kept =
    let T = placed_from 1 (copies layouts objects forwards order) in
    let here : at + 0 ≡ at = omega arith in
    let first : content_of T (refers at) (forwarded_word forwards (refers at) word) ≡ content_of (placed_from 1 objects) (refers at) word =
    by_on layouts objects forwards order word is (refers at) (λ on some. kept zero (omega arith) (ap refers here ∙ on) some) in
    let rest = contents_kept layouts objects forwards order refers (suc at) words is
    (λ i within on some. let next : at + suc i ≡ suc at + i = omega arith in kept (suc i) (omega (arith, within)) (ap refers next ∙ on) some) in
    ap (λ (c : Content). c ∷ contents_from T refers (suc at) (forwarded forwards refers (suc at) words)) first
    ∙ ap (λ (list : List Content). content_of (placed_from 1 objects) (refers at) word ∷ list) rest

-- ---- what a found object refers to was found

has_ref : (objects : List Placed) (refers : ℕ → Bool) (at : ℕ) (words : List ℕ) (i serial : ℕ) → i < length words
    → content_of objects (refers (at + i)) (get_or words i 0) ≡ reference serial
    → IsTrue (has (flat_map referred (contents_from objects refers at words)) serial)
has_ref objects refers at [] i serial within is = absurd (omega arith)
has_ref objects refers at (word ∷ words) zero serial within is =
    let here : at + 0 ≡ at = omega arith in
    let content : content_of objects (refers at) word ≡ reference serial = subst (λ (n : ℕ). content_of objects (refers n) word ≡ reference serial) here is in
    has_left (referred (content_of objects (refers at) word)) (flat_map referred (contents_from objects refers (suc at) words)) serial
    (subst (λ (c : Content). IsTrue (has (referred c) serial)) (sym content) (or_left (eqb serial serial) false (eq-eqb serial serial refl)))
has_ref objects refers at (word ∷ words) (suc i) serial within is =
    let next : at + suc i ≡ suc at + i = omega arith in
    has_right (referred (content_of objects (refers at) word)) (flat_map referred (contents_from objects refers (suc at) words)) serial
    (has_ref objects refers (suc at) words i serial (omega (arith, within)) (subst (λ (n : ℕ). content_of objects (refers n) (get_or words i 0) ≡ reference serial) next is))

-- What is known once a search has ended.
pub record IsSearched (layouts : Layouts) (table : Table) (roots : List Addr) (order forwards : List ℕ) : Type 0 where
  pub given : HasSerials table
  pub found : IsFound table.objects order forwards
  pub serials : serials_of table.objects order ≡ reached layouts (state_of table) roots
  pub can : CanCollect layouts (state_of table) roots

pub searched : (layouts : Layouts) (table : Table) (state : HeapState) (roots slice : List Addr) (order forwards : List ℕ) → HasSerials table
    → IsFound table.objects order forwards → serials_of table.objects order ≡ reached layouts (state_of table) slice → slice ≡ roots
    → state_of table ≡ state → CanCollect layouts state roots → IsSearched layouts table roots order forwards
searched layouts table state roots slice order forwards given found serials same view can = record {
  given = given;
  found = found;
  serials = serials ∙ ap (reached layouts (state_of table)) same;
  can = subst (λ (s : HeapState). CanCollect layouts s roots) (sym view) can;
}

reached_lists : (layouts : Layouts) (table : Table) (roots : List Addr) → HasSerials table
    → ListsReached (children (by_serial layouts (state_of table))) (root_serials (state_of table) roots) (reached layouts (state_of table) roots)
reached_lists layouts table roots given =
    below_lists table.free (children (by_serial layouts (state_of table))) (root_serials (state_of table) roots) (are_given layouts table roots given)

can_visit : (layouts : Layouts) (table : Table) (roots : List Addr) (order forwards : List ℕ) (place : ℕ) (object : Stored ℕ)
    → IsSearched layouts table roots order forwards → slice_get table.objects place ≡ Some object
    → IsTrue (has (serials_of table.objects order) (serial_at table.objects place)) → CanVisit layouts table.objects object
can_visit layouts table roots order forwards place object is found stands =
    subst (λ (o : Option (Stored ℕ)). IfSome o (CanVisit layouts table.objects)) found
    (can_follow_all layouts table roots is.given is.can place (slice_get_within table.objects place object found)
    (subst (λ (list : List ℕ). IsTrue (has list (serial_at table.objects place))) is.serials stands))

refs_kept : (layouts : Layouts) (table : Table) (roots : List Addr) (order forwards : List ℕ) (place : ℕ) (object : Stored ℕ)
    → IsSearched layouts table roots order forwards → slice_get table.objects place ≡ Some object
    → IsTrue (has (serials_of table.objects order) (serial_at table.objects place))
    → (i : ℕ) → i < length object.contents → refers_at layouts object.shape i ≡ true → get_or object.contents i 0 ≢ 0
    → IsKept table.objects order (get_or object.contents i 0)
refs_kept layouts table roots order forwards place object is found stands i within on some =
    let objects = table.objects in
    let word = get_or object.contents i 0 in
    let to = ref_at objects (refers_at layouts object.shape) object.contents i (can_visit layouts table roots order forwards place object is found stands) within on some in
    let lists = reached_lists layouts table roots is.given in
    let here : 0 + i ≡ i = omega arith in
    let content : content_of (placed_from 1 objects) (refers_at layouts object.shape (0 + i)) word ≡ reference (serial_at objects (word - 1)) =
    ap (λ (b : Bool). content_of (placed_from 1 objects) b word) (ap (refers_at layouts object.shape) here ∙ on) ∙ to.content in
    let refers : IsTrue (has (flat_map referred (contents_in layouts objects object)) (serial_at objects (word - 1))) = has_ref (placed_from 1 objects) (refers_at layouts object.shape) 0 object.contents i (serial_at objects (word - 1)) within content in
    let children_are : children (by_serial layouts (state_of table)) (serial_at objects place) ≡ flat_map referred (contents_in layouts objects object) =
    children_at layouts table place object is.given found
    ∙ ap (λ (o : Option (Stored ℕ)). flat_map (λ (s : Stored ℕ). flat_map referred (contents_in layouts objects s)) (option_to_list o)) found
    ∙ append-nil (flat_map referred (contents_in layouts objects object)) in
    let parent : Reached (children (by_serial layouts (state_of table))) (root_serials (state_of table) roots) (serial_at objects place) = lists.only (serial_at objects place) (subst (λ (list : List ℕ). IsTrue (has list (serial_at objects place))) is.serials stands) in
    let reached_is = child (serial_at objects place) (serial_at objects (word - 1)) parent (subst (λ (list : List ℕ). IsTrue (has list (serial_at objects (word - 1)))) (sym children_are) refers) in
    record {
      to = to;
      stands = subst (λ (list : List ℕ). IsTrue (has list (serial_at objects (word - 1)))) (sym is.serials) (lists.each (serial_at objects (word - 1)) reached_is);
    }

-- ---- what is left

read_kept : (layouts : Layouts) (table : Table) (roots : List Addr) (order forwards : List ℕ) (place : ℕ) (object : Stored ℕ)
    → IsSearched layouts table roots order forwards → slice_get table.objects place ≡ Some object
    → IsTrue (has (serials_of table.objects order) (serial_at table.objects place))
    → read_by layouts (placed_from 1 (copies layouts table.objects forwards order)) (copy_of layouts forwards object) ≡ read_by layouts (placed_from 1 table.objects) object
read_kept layouts table roots order forwards place object is found stands =
    let with_contents : List Content → Stored Content = λ contents. record { serial = object.serial; shape = object.shape; lock = object.lock; contents = contents } in
    ap with_contents (contents_kept layouts table.objects forwards order (refers_at layouts object.shape) 0 object.contents is.found
    (λ i within on some. let here : 0 + i ≡ i = omega arith in refs_kept layouts table roots order forwards place object is found stands i within (ap (refers_at layouts object.shape) (sym here) ∙ on) some))

map_placed : (read : Stored ℕ → Stored Content) (first : ℕ) (objects : List (Stored ℕ))
    → map (λ (p : Placed). read p.object) (placed_from first objects) ≡ map read objects
map_placed read first [] = refl
map_placed read first (object ∷ objects) = ap (λ (list : List (Stored Content)). read object ∷ list) (map_placed read (suc first) objects)

left_is : (layouts : Layouts) (table : Table) (roots : List Addr) (order forwards part : List ℕ) → IsSearched layouts table roots order forwards
    → ((k place : ℕ) → slice_get part k ≡ Some place → (place < length table.objects) × IsTrue (has (serials_of table.objects order) (serial_at table.objects place)))
    → map (read_by layouts (placed_from 1 (copies layouts table.objects forwards order))) (copies layouts table.objects forwards part)
    ≡ flat_map (λ serial. option_to_list (of_serial (by_serial layouts (state_of table)) serial)) (serials_of table.objects part)
left_is layouts table roots order forwards [] is each = refl
left_is layouts table roots order forwards (place ∷ part) is each =
    let objects = table.objects in
    let read = read_by layouts (placed_from 1 (copies layouts objects forwards order)) in
    let left : ℕ → List (Stored Content) = λ serial. option_to_list (of_serial (by_serial layouts (state_of table)) serial) in
    let rest = left_is layouts table roots order forwards part is (λ k. each (suc k)) in
    let here = each zero place refl in
    elim (slice_get_cases objects place).1 [
      | inl there ↦
          let found : left (serial_at objects place) ≡ read_by layouts (placed_from 1 objects) there.0 ∷ [] =
          ap left (serial_found objects place there.0 there.2) ∙ ap option_to_list (of_serial_is layouts table place there.0 is.given there.2) in
          map-append read (copies_at layouts objects forwards place) (copies layouts objects forwards part)
          ∙ ap (λ (list : List (Stored ℕ)). map read list ++ map read (copies layouts objects forwards part)) (copy_at layouts objects forwards place there.0 there.2)
          ∙ ap (λ (s : Stored Content). s ∷ map read (copies layouts objects forwards part)) (read_kept layouts table roots order forwards place there.0 is there.2 here.1)
          ∙ ap (λ (list : List (Stored Content)). read_by layouts (placed_from 1 objects) there.0 ∷ list) rest
          ∙ ap (λ (list : List (Stored Content)). list ++ flat_map left (serials_of objects part)) (sym found)
      | inr past ↦ absurd (omega (arith, past.0, here.0))
    ]

-- What the copies say by serials is what a collection leaves.
pub collected_is : (layouts : Layouts) (table now : Table) (roots : List Addr) (order forwards : List ℕ)
    → IsSearched layouts table roots order forwards → now.objects ≡ copies layouts table.objects forwards order
    → by_serial layouts (state_of now) ≡ collected layouts (state_of table) roots
collected_is layouts table now roots order forwards is now_is =
    let left : ℕ → List (Stored Content) = λ serial. option_to_list (of_serial (by_serial layouts (state_of table)) serial) in
    let read : List (Stored ℕ) → Stored ℕ → Stored Content = λ objects. read_by layouts (placed_from 1 objects) in
    map_placed (read now.objects) 1 now.objects
    ∙ ap (λ (objects : List (Stored ℕ)). map (read objects) objects) now_is
    ∙ left_is layouts table roots order forwards order is (λ k place there. (is.found.within k place there, serial_has table.objects order k place there))
    ∙ ap (flat_map left) is.serials

-- ---- roots

root_kept : (layouts : Layouts) (table now : Table) (roots : List Addr) (order forwards : List ℕ) (a : Addr) → IsSearched layouts table roots order forwards
    → now.objects ≡ copies layouts table.objects forwards order → IsRoot table a
    → IsTrue (has (root_serials (state_of table) roots) (serial_at table.objects (a.0 - 1)))
    → serial_of (state_of now) (forwarded_root forwards a) ≡ serial_of (state_of table) a
root_kept layouts table now roots order forwards a is now_is a_root stands = elim (slice_get_cases table.objects (a.0 - 1)).1 [
  | inl there ↦
      let lists = reached_lists layouts table roots is.given in
      let found : IsTrue (has (serials_of table.objects order) (serial_at table.objects (a.0 - 1))) = subst (λ (list : List ℕ). IsTrue (has list (serial_at table.objects (a.0 - 1)))) (sym is.serials) (lists.each (serial_at table.objects (a.0 - 1)) (root (serial_at table.objects (a.0 - 1)) stands)) in
      let has = has_copy layouts table.objects forwards order (a.0 - 1) there.0 is.found there.2 found in
      ap (λ (objects : List (Stored ℕ)). option_map (λ (o : Stored ℕ). o.serial) (object_at (placed_from 1 objects) (get_or forwards (a.0 - 1) 0))) now_is
      ∙ ap (option_map (λ (o : Stored ℕ). o.serial)) (copy_lies layouts table.objects forwards order (a.0 - 1) there.0 has)
      ∙ ap Some (sym (serial_found table.objects (a.0 - 1) there.0 there.2)) ∙ sym a_root.serial
  | inr past ↦ absurd (omega (arith, past.0, a_root.place))
]

roots_kept : (layouts : Layouts) (table now : Table) (roots part : List Addr) (order forwards : List ℕ) → IsSearched layouts table roots order forwards
    → now.objects ≡ copies layouts table.objects forwards order
    → IsTrue (list_all (λ a. is_some (object_of (state_of table) a)) part)
    → ((n : ℕ) → IsTrue (has (root_serials (state_of table) part) n) → IsTrue (has (root_serials (state_of table) roots) n))
    → map (serial_of (state_of now)) (map (forwarded_root forwards) part) ≡ map (serial_of (state_of table)) part
roots_kept layouts table now roots [] order forwards is now_is live stand = refl
roots_kept layouts table now roots (a ∷ part) order forwards is now_is live stand =
    let parts = and_parts (is_some (object_of (state_of table) a)) (list_all (λ b. is_some (object_of (state_of table) b)) part) live in
    let a_root = is_root table a parts.0 in
    let serial = serial_at table.objects (a.0 - 1) in
    let first : IsTrue (has (option_to_list (serial_of (state_of table) a)) serial) = subst (λ (o : Option ℕ). IsTrue (has (option_to_list o) serial)) (sym a_root.serial) (or_left (eqb serial serial) false (eq-eqb serial serial refl)) in
    let here = root_kept layouts table now roots order forwards a is now_is a_root (stand serial (has_left (option_to_list (serial_of (state_of table) a)) (root_serials (state_of table) part) serial first)) in
    let rest = roots_kept layouts table now roots part order forwards is now_is parts.1 (λ n h. stand n (has_right (option_to_list (serial_of (state_of table) a)) (root_serials (state_of table) part) n h)) in
    ap (λ (o : Option ℕ). o ∷ map (serial_of (state_of now)) (map (forwarded_root forwards) part)) here
    ∙ ap (λ (list : List (Option ℕ)). serial_of (state_of table) a ∷ list) rest

pub roots_are : (layouts : Layouts) (table now : Table) (roots : List Addr) (order forwards : List ℕ) → IsSearched layouts table roots order forwards
    → now.objects ≡ copies layouts table.objects forwards order
    → map (serial_of (state_of now)) (map (forwarded_root forwards) roots) ≡ map (serial_of (state_of table)) roots
roots_are layouts table now roots order forwards is now_is = roots_kept layouts table now roots roots order forwards is now_is is.can.live (λ n h. h)

-- each root has a place among the objects
pub root_places : (table : Table) (count : ℕ) (roots : List Addr) → count ≡ length table.objects
    → IsTrue (list_all (λ a. is_some (object_of (state_of table) a)) roots)
    → All (λ (a : Addr). (0 < a.0) × (a.0 - 1 < count)) roots
root_places table count [] same live k d within = absurd (omega arith)
root_places table count (a ∷ roots) same live zero d within =
    let a_root = is_root table a (and_parts _ _ live).0 in
    (a_root.some, omega (arith, a_root.place, same))
root_places table count (a ∷ roots) same live (suc k) d within =
    root_places table count roots same (and_parts _ _ live).1 k d (omega (arith, within))

-- ---- references have forwards

pub is_forwarded : (layouts : Layouts) (table : Table) (roots : List Addr) (order forwards : List ℕ) → IsSearched layouts table roots order forwards
    → IsForwarded layouts table.objects order
is_forwarded layouts table roots order forwards is k place there = elim (slice_get_cases table.objects place).1 [
  | inl at ↦ subst (λ (o : Option (Stored ℕ)). IfSome o (HasForwards layouts (length table.objects))) (sym at.2)
      (λ i within on some. (refs_kept layouts table roots order forwards place at.0 is at.2 (serial_has table.objects order k place there) i within on some).to.place)
  | inr past ↦ absurd (omega (arith, past.0, is.found.within k place there))
]

-- ---- serials

copy_serials : (layouts : Layouts) (objects : List (Stored ℕ)) (forwards order : List ℕ)
    → ((k place : ℕ) → slice_get order k ≡ Some place → place < length objects)
    → map (λ (o : Stored ℕ). o.serial) (copies layouts objects forwards order) ≡ serials_of objects order
copy_serials layouts objects forwards [] within = refl
copy_serials layouts objects forwards (place ∷ order) within = elim (slice_get_cases objects place).1 [
  | inl there ↦
      ap (λ (list : List (Stored ℕ)). map (λ (o : Stored ℕ). o.serial) (list ++ copies layouts objects forwards order)) (copy_at layouts objects forwards place there.0 there.2)
      ∙ ap (λ (list : List ℕ). there.0.serial ∷ list) (copy_serials layouts objects forwards order (λ k. within (suc k)))
      ∙ ap (λ (n : ℕ). n ∷ serials_of objects order) (sym (serial_found objects place there.0 there.2))
  | inr past ↦ absurd (omega (arith, past.0, within zero place refl))
]

serial_in : (objects : List (Stored ℕ)) (place : ℕ) (object : Stored ℕ) → slice_get objects place ≡ Some object
    → IsTrue (has (map (λ (o : Stored ℕ). o.serial) objects) object.serial)
serial_in [] place object found = absurd cc
serial_in (first ∷ objects) zero object found =
    let same : first ≡ object = cc in
    or_left (eqb object.serial first.serial) _ (eq-eqb object.serial first.serial (ap (λ (o : Stored ℕ). o.serial) (sym same)))
serial_in (first ∷ objects) (suc place) object found =
    or_right (eqb object.serial first.serial) _ (serial_in objects place object found)

pub serials_kept : (layouts : Layouts) (table now : Table) (roots : List Addr) (order forwards : List ℕ) → IsSearched layouts table roots order forwards
    → now.objects ≡ copies layouts table.objects forwards order → now.free ≡ table.free → HasSerials now
serials_kept layouts table now roots order forwards is now_is free =
    let serials : map (λ (o : Stored ℕ). o.serial) now.objects ≡ serials_of table.objects order = ap (map (λ (o : Stored ℕ). o.serial)) now_is ∙ copy_serials layouts table.objects forwards order is.found.within in
    record {
      distinct = subst (IsDistinct eqb) (sym serials) is.found.distinct;
      given = λ place object found. subst (λ (n : ℕ). object.serial < n) (sym free)
          (serials_given table order is.given is.found.within object.serial (subst (λ (list : List ℕ). IsTrue (has list object.serial)) serials (serial_in now.objects place object found)));
    }

-- copies have no more words than what they were made from
pub copies_room : (layouts : Layouts) (table now : Table) (order forwards : List ℕ) → IsFound table.objects order forwards
    → now.objects ≡ copies layouts table.objects forwards order → table_words now.objects ≤ table_words table.objects
copies_room layouts table now order forwards is now_is =
    omega (arith, ap table_words now_is, copies_words layouts table.objects forwards order, is.words)
