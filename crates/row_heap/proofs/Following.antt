-- Following the found objects in order finds what reach order has.
use Rattle.std.proofs.Common.{◌≡◌, ◌≢◌, ℕ, zero, suc, ◌+◌, ◌-◌, ◌*◌, ◌<◌, ◌≤◌, Bool, true, false, cond, eqb, ◌&&◌, List, [], ◌∷◌, ◌++◌, length, take, drop, get_or, refl, sym, ap, subst, ◌∙◌, arith, inl, inr, append_assoc}
use Rattle.std.specs.Prelude.{Option, Some, None, slice_get, option_map, option_to_list, unwrap_or, IsTrue, IfSome, flat_map, map, not, is_some, replicate}
use Rattle.std.specs.List.{IsDistinct, AllByRecursion, list_all, find, sum_by}
use Rattle.std.proofs.lemmas.Bool.{eqb-true, eq-eqb, both_ways, or_cases, and_parts, cases_eq}
use Rattle.std.proofs.lemmas.List.{append-nil, take_more, drop_more, take-append-le, drop-append-le, take-append-drop, length-map, length-replicate, get_or-replicate, take_all, drop_all, length-take-le}
use Rattle.std.proofs.lemmas.List.Sums.{sum_by-cons}
use Rattle.std.proofs.lemmas.List.Concat.{flat_map-append}
use Rattle.std.proofs.lemmas.Option.{slice_get_within, slice_get_cases}
use Rattle.std.proofs.lemmas.Map.Steps.{length-le_from_distinct_below}
use Rattle.machine_model.specs.Reach.{unseen, reach_order}
use Rattle.run_laws.specs.Reached.{has, AllBelow, AreBelow}
use Rattle.run_laws.specs.Worklist.{worked_off}
use Rattle.run_laws.proofs.Unseen.{has_append, has_left, has_right, has_children}
use Rattle.run_laws.proofs.ReachOrders.{listed_below}
use Rattle.run_laws.proofs.Worklists.{work_is_reach_order, unseen-append}
use Rattle.heap_face.specs.declared.address.Addr.{Addr}
use Rattle.heap_face.specs.declared.layout.Layouts.{Layouts}
use Rattle.heap_face.specs.Heap.{Stored, Placed, HeapState, object_at, object_of, serial_of}
use Rattle.heap_face.specs.Collection.{Content, bits, null, reference, dangling, content_of, target, contents_from, refers_at, read_by, by_serial, referred, of_serial, children, root_serials, reached, collected, can_follow, CanCollect}
use Rattle.row_heap.specs.Table.{Table, table_words, AllWhole}
use Rattle.row_heap.specs.Placing.{placed_from, state_of, HasSerials}
use Rattle.row_heap.specs.Found.{serial_at, serials_of, IsFound, unfound_words, contents_in, found_by, CanVisit, CanFollow, order_with, forwards_with}
use Rattle.row_heap.proofs.RowLemmas.{object_words, three_words}
use Rattle.row_heap.proofs.FoundLemmas.{apart_at, serial_has, IsVisited, visited}
use Rattle.row_heap.proofs.Reading.{object_at_place, object_at_below}

-- ---- the object of a serial

find_serial : (read : Stored ℕ → Stored Content) → ((o : Stored ℕ) → (read o).serial ≡ o.serial)
    → (first : ℕ) (objects : List (Stored ℕ)) (place : ℕ) (object : Stored ℕ)
    → IsDistinct eqb (map (λ (o : Stored ℕ). o.serial) objects) → slice_get objects place ≡ Some object
    → find (λ (o : Stored Content). eqb o.serial object.serial) (map (λ (p : Placed). read p.object) (placed_from first objects)) ≡ Some (read object)
unfolding IsDistinct
find_serial read same first [] place object distinct found = absurd cc
find_serial read same first (o ∷ objects) zero object distinct found =
    let here : o ≡ object = cc in
    let on : eqb (read o).serial object.serial ≡ true = eq-eqb _ _ (same o ∙ ap (λ (s : Stored ℕ). s.serial) here) in
    ap (λ (b : Bool). cond b (Some (read o)) (find (λ (o : Stored Content). eqb o.serial object.serial) (map (λ (p : Placed). read p.object) (placed_from (suc first) objects)))) on
    ∙ ap (λ (s : Stored ℕ). Some (read s)) here
find_serial read same first (o ∷ objects) (suc place) object distinct found =
    let within = slice_get_within objects place object found in
    let serial : serial_at objects place ≡ object.serial = ap (λ (x : Option (Stored ℕ)). unwrap_or (option_map (λ (s : Stored ℕ). s.serial) x) 0) found in
    let off : eqb (read o).serial object.serial ≡ false = ap (λ (n : ℕ). eqb n object.serial) (same o) ∙ ap (eqb o.serial) (sym serial) ∙ apart_at o.serial objects place distinct.0 within in
    ap (λ (b : Bool). cond b (Some (read o)) (find (λ (o : Stored Content). eqb o.serial object.serial) (map (λ (p : Placed). read p.object) (placed_from (suc first) objects)))) off
    ∙ find_serial read same (suc first) objects place object distinct.1 found

pub of_serial_is : (layouts : Layouts) (table : Table) (place : ℕ) (object : Stored ℕ) → HasSerials table
    → slice_get table.objects place ≡ Some object
    → of_serial (by_serial layouts (state_of table)) object.serial ≡ Some (read_by layouts (placed_from 1 table.objects) object)
of_serial_is layouts table place object has found =
    find_serial (read_by layouts (placed_from 1 table.objects)) (λ o. refl) 1 table.objects place object has.distinct found

pub serial_found : (objects : List (Stored ℕ)) (place : ℕ) (object : Stored ℕ) → slice_get objects place ≡ Some object
    → serial_at objects place ≡ object.serial
serial_found objects place object found = ap (λ (x : Option (Stored ℕ)). unwrap_or (option_map (λ (s : Stored ℕ). s.serial) x) 0) found

pub children_at : (layouts : Layouts) (table : Table) (place : ℕ) (object : Stored ℕ) → HasSerials table
    → slice_get table.objects place ≡ Some object
    → children (by_serial layouts (state_of table)) (serial_at table.objects place)
    ≡ flat_map (λ (o : Stored ℕ). flat_map referred (contents_in layouts table.objects o)) (option_to_list (slice_get table.objects place))
children_at layouts table place object has found =
    ap (children (by_serial layouts (state_of table))) (serial_found table.objects place object found)
    ∙ ap (λ (o : Option (Stored Content)). flat_map (λ (s : Stored Content). flat_map referred s.contents) (option_to_list o)) (of_serial_is layouts table place object has found)
    ∙ ap (λ (o : Option (Stored ℕ)). flat_map (λ (s : Stored ℕ). flat_map referred (contents_in layouts table.objects s)) (option_to_list o)) (sym found)

-- ---- all serials were given

object_given : (first : ℕ) (objects : List (Stored ℕ)) (address : ℕ) (object : Stored ℕ) (free : ℕ)
    → ((place : ℕ) (o : Stored ℕ) → slice_get objects place ≡ Some o → o.serial < free)
    → object_at (placed_from first objects) address ≡ Some object → object.serial < free
object_given first [] address object free given found = absurd cc
object_given first (o ∷ objects) address object free given found =
    by_test (λ there. object_given (suc first) objects address object free (λ place. given (suc place)) there) (eqb first address) found
  where
    by_test : (object_at (placed_from (suc first) objects) address ≡ Some object → object.serial < free)
        → (test : Bool) → cond test (Some o) (object_at (placed_from (suc first) objects) address) ≡ Some object → object.serial < free
    by_test rest true here = let same : o ≡ object = cc in subst (λ (s : Stored ℕ). s.serial < free) same (given zero o refl)
    by_test rest false there = rest there

content_given : (objects : List (Stored ℕ)) (free : ℕ) (on : Bool) (word n : ℕ)
    → ((place : ℕ) (o : Stored ℕ) → slice_get objects place ≡ Some o → o.serial < free)
    → IsTrue (has (referred (content_of (placed_from 1 objects) on word)) n) → n < free
content_given objects free false word n given h = absurd cc
content_given objects free true word n given h = by_test (eqb word 0) h
  where
    by_target : (found : Option (Stored ℕ)) → object_at (placed_from 1 objects) word ≡ found → IsTrue (has (referred (target found)) n) → n < free
    by_target None is h = absurd cc
    by_target (Some object) is h = elim (or_cases (eqb n object.serial) false h) [
      | inl same ↦ subst (λ (m : ℕ). m < free) (sym (eqb-true n object.serial same)) (object_given 1 objects word object free given is)
      | inr never ↦ absurd cc
    ]

    by_test : (test : Bool) → IsTrue (has (referred (cond test null (target (object_at (placed_from 1 objects) word)))) n) → n < free
    by_test true h = absurd cc
    by_test false h = by_target (object_at (placed_from 1 objects) word) refl h

contents_given : (objects : List (Stored ℕ)) (free : ℕ) (refers : ℕ → Bool) (at : ℕ) (words : List ℕ) (n : ℕ)
    → ((place : ℕ) (o : Stored ℕ) → slice_get objects place ≡ Some o → o.serial < free)
    → IsTrue (has (flat_map referred (contents_from (placed_from 1 objects) refers at words)) n) → n < free
contents_given objects free refers at [] n given h = absurd cc
contents_given objects free refers at (word ∷ words) n given h =
    elim (has_append (referred (content_of (placed_from 1 objects) (refers at) word)) (flat_map referred (contents_from (placed_from 1 objects) refers (suc at) words)) n h) [
      | inl here ↦ content_given objects free (refers at) word n given here
      | inr there ↦ contents_given objects free refers (suc at) words n given there
    ]

child_given : (layouts : Layouts) (table : Table) (first : ℕ) (objects : List (Stored ℕ)) (serial n : ℕ) → HasSerials table
    → IsTrue (has (flat_map (λ (s : Stored Content). flat_map referred s.contents)
    (option_to_list (find (λ (o : Stored Content). eqb o.serial serial) (map (λ (p : Placed). read_by layouts (placed_from 1 table.objects) p.object) (placed_from first objects))))) n)
    → n < table.free
child_given layouts table first [] serial n given h = absurd cc
child_given layouts table first (o ∷ objects) serial n given h =
    by_test (λ there. child_given layouts table (suc first) objects serial n given there) (eqb o.serial serial) h
  where
    by_test : (IsTrue (has (flat_map (λ (s : Stored Content). flat_map referred s.contents)
        (option_to_list (find (λ (o : Stored Content). eqb o.serial serial) (map (λ (p : Placed). read_by layouts (placed_from 1 table.objects) p.object) (placed_from (suc first) objects))))) n) → n < table.free)
        → (test : Bool) → IsTrue (has (flat_map (λ (s : Stored Content). flat_map referred s.contents)
        (option_to_list (cond test (Some (read_by layouts (placed_from 1 table.objects) o)) (find (λ (o : Stored Content). eqb o.serial serial) (map (λ (p : Placed). read_by layouts (placed_from 1 table.objects) p.object) (placed_from (suc first) objects)))))) n)
        → n < table.free
    by_test rest true h = contents_given table.objects table.free (refers_at layouts o.shape) 0 o.contents n given.given
        (subst (λ (list : List ℕ). IsTrue (has list n)) (append-nil (flat_map referred (contents_in layouts table.objects o))) h)
    by_test rest false h = rest h

root_given : (table : Table) (roots : List Addr) (n : ℕ) → HasSerials table → IsTrue (has (root_serials (state_of table) roots) n) → n < table.free
root_given table [] n given h = absurd cc
root_given table (a ∷ roots) n given h =
    elim (has_append (option_to_list (serial_of (state_of table) a)) (root_serials (state_of table) roots) n h) [
      | inl here ↦ by_object (object_at (placed_from 1 table.objects) a.0) refl here
      | inr there ↦ root_given table roots n given there
    ]
  where
    by_object : (found : Option (Stored ℕ)) → object_at (placed_from 1 table.objects) a.0 ≡ found
        → IsTrue (has (option_to_list (option_map (λ (o : Stored ℕ). o.serial) found)) n) → n < table.free
    by_object None is h = absurd cc
    by_object (Some object) is h = elim (or_cases (eqb n object.serial) false h) [
      | inl same ↦ subst (λ (m : ℕ). m < table.free) (sym (eqb-true n object.serial same)) (object_given 1 table.objects a.0 object table.free given.given is)
      | inr never ↦ absurd cc
    ]

pub are_given : (layouts : Layouts) (table : Table) (roots : List Addr) → HasSerials table
    → AreBelow table.free (children (by_serial layouts (state_of table))) (root_serials (state_of table) roots)
are_given layouts table roots given = record {
  roots = λ n h. root_given table roots n given h;
  children = λ n m below h. child_given layouts table 1 table.objects n m given h;
}

-- What is found from the roots on is what can be reached.
pub found_is_reached : (layouts : Layouts) (table : Table) (roots : List Addr) → HasSerials table
    → found_by layouts table (unseen [] (root_serials (state_of table) roots)) ≡ reached layouts (state_of table) roots
found_is_reached layouts table roots given =
    let objects = by_serial layouts (state_of table) in
    let serials = root_serials (state_of table) roots in
    work_is_reach_order table.free (children objects) serials (listed_below table.free (children objects) serials (are_given layouts table roots given))

-- ---- one object more

get_serial : (objects : List (Stored ℕ)) (order : List ℕ) (k place : ℕ) → slice_get order k ≡ Some place
    → get_or (serials_of objects order) k 0 ≡ serial_at objects place
get_serial objects [] k place there = absurd cc
get_serial objects (first ∷ order) zero place there = let same : first ≡ place = cc in ap (serial_at objects) same
get_serial objects (first ∷ order) (suc k) place there = get_serial objects order k place there

pub serials_given : (table : Table) (order : List ℕ) → HasSerials table
    → ((k place : ℕ) → slice_get order k ≡ Some place → place < length table.objects)
    → (n : ℕ) → IsTrue (has (serials_of table.objects order) n) → n < table.free
serials_given table [] given within n h = absurd cc
serials_given table (place ∷ order) given within n h =
    elim (or_cases (eqb n (serial_at table.objects place)) (has (serials_of table.objects order) n) h) [
      | inl same ↦ elim (slice_get_cases table.objects place).1 [
        | inl there ↦ subst (λ (m : ℕ). m < table.free) (sym (eqb-true n (serial_at table.objects place) same ∙ serial_found table.objects place there.0 there.2)) (given.given place there.0 there.2)
        | inr past ↦ absurd (omega (arith, past.0, within zero place refl))
      ]
      | inr other ↦ serials_given table order given (λ k. within (suc k)) n other
    ]

pub fewer : (table : Table) (order forwards : List ℕ) → HasSerials table → IsFound table.objects order forwards
    → length order ≤ table.free
fewer table order forwards given is =
    omega (arith, length-le_from_distinct_below (serials_of table.objects order) table.free is.distinct (serials_given table order given is.within), length-map order (serial_at table.objects))

pub worked_stays : (turns : ℕ) (children_of : ℕ → List ℕ) (done waiting : List ℕ) (n : ℕ) → IsTrue (has (done ++ waiting) n)
    → IsTrue (has (worked_off turns children_of done waiting) n)
unfolding worked_off
worked_stays zero children_of done waiting n h = h
worked_stays (suc turns) children_of done [] n h = subst (λ (list : List ℕ). IsTrue (has list n)) (append-nil done) h
worked_stays (suc turns) children_of done (first ∷ waiting) n h =
    let more = unseen (done ++ first ∷ waiting) (children_of first) in
    let same : (done ++ first ∷ []) ++ (waiting ++ more) ≡ (done ++ first ∷ waiting) ++ more = simp append_assoc in
    worked_stays turns children_of (done ++ first ∷ []) (waiting ++ more) n
    (subst (λ (list : List ℕ). IsTrue (has list n)) (sym same) (has_left (done ++ first ∷ waiting) more n h))

work_step : (turns : ℕ) (children_of : ℕ → List ℕ) (done waiting : List ℕ) (n : ℕ)
    → worked_off (suc turns) children_of done (n ∷ waiting) ≡ worked_off turns children_of (done ++ n ∷ []) (waiting ++ unseen (done ++ n ∷ waiting) (children_of n))
unfolding worked_off
work_step turns children_of done waiting n = refl

no_work : (turns : ℕ) (children_of : ℕ → List ℕ) (done : List ℕ) → worked_off turns children_of done [] ≡ done
unfolding worked_off
no_work zero children_of done = append-nil done
no_work (suc turns) children_of done = refl

-- what is to be found, where the first so many of these serials were followed
abbrev pub found_from : Layouts → Table → ℕ → List ℕ → List ℕ
found_from layouts table done serials =
    worked_off (table.free - done) (children (by_serial layouts (state_of table))) (take done serials) (drop done serials)

pub found_start : (layouts : Layouts) (table : Table) (serials : List ℕ) → found_from layouts table 0 serials ≡ found_by layouts table serials
found_start layouts table serials =
    let all : table.free - 0 ≡ table.free = omega arith in
    ap (λ (n : ℕ). worked_off n (children (by_serial layouts (state_of table))) [] serials) all

pub found_end : (layouts : Layouts) (table : Table) (done : ℕ) (serials : List ℕ) → length serials ≤ done → found_from layouts table done serials ≡ serials
found_end layouts table done serials past =
    let turns = table.free - done in
    let children_of = children (by_serial layouts (state_of table)) in
    ap (λ (list : List ℕ). worked_off turns children_of (take done serials) list) (drop_all done serials past)
    ∙ no_work turns children_of (take done serials) ∙ take_all done serials past

pub found_next : (layouts : Layouts) (table : Table) (done place : ℕ) (object : Stored ℕ) (order now forwards : List ℕ) → HasSerials table
    → IsFound table.objects order forwards → slice_get order done ≡ Some place → slice_get table.objects place ≡ Some object
    → serials_of table.objects now ≡ serials_of table.objects order ++ unseen (serials_of table.objects order)
    (flat_map (λ (o : Stored ℕ). flat_map referred (contents_in layouts table.objects o)) (option_to_list (slice_get table.objects place)))
    → found_from layouts table (done + 1) (serials_of table.objects now) ≡ found_from layouts table done (serials_of table.objects order)
found_next layouts table done place object order now forwards given is there found serials_are =
    let serials = serials_of table.objects order in
    let children_of = children (by_serial layouts (state_of table)) in
    let serial = serial_at table.objects place in
    let more = unseen serials (children_of serial) in
    let within : done < length serials = omega (arith, slice_get_within order done place there, length-map order (serial_at table.objects)) in
    let upto : done + 1 ≤ length serials = omega (arith, within) in
    let turns : table.free - done ≡ suc (table.free - (done + 1)) = omega (arith, within, fewer table order forwards given is, length-map order (serial_at table.objects)) in
    let now_is : serials_of table.objects now ≡ serials ++ more = serials_are ∙ ap (λ (list : List ℕ). serials ++ unseen serials list) (sym (children_at layouts table place object given found)) in
    let here : get_or serials done 0 ≡ serial = get_serial table.objects order done place there in
    let rest : drop done serials ≡ serial ∷ drop (done + 1) serials = drop_more serials done 0 within ∙ ap (λ (n : ℕ). n ∷ drop (done + 1) serials) here in
    let front : take (done + 1) serials ≡ take done serials ++ serial ∷ [] = take_more serials done 0 within ∙ ap (λ (n : ℕ). take done serials ++ n ∷ []) here in
    let all : take done serials ++ serial ∷ drop (done + 1) serials ≡ serials = ap (λ (list : List ℕ). take done serials ++ list) (sym rest) ∙ take-append-drop done serials in
    sym (ap (λ (n : ℕ). worked_off n children_of (take done serials) (drop done serials)) turns
    ∙ ap (λ (list : List ℕ). worked_off (suc (table.free - (done + 1))) children_of (take done serials) list) rest
    ∙ work_step (table.free - (done + 1)) children_of (take done serials) (drop (done + 1) serials) serial
    ∙ ap (λ (list : List ℕ). worked_off (table.free - (done + 1)) children_of (take done serials ++ serial ∷ []) (drop (done + 1) serials ++ unseen list (children_of serial))) all
    ∙ ap (λ (list : List ℕ). worked_off (table.free - (done + 1)) children_of list (drop (done + 1) serials ++ more)) (sym front)
    ∙ ap (λ (list : List ℕ). worked_off (table.free - (done + 1)) children_of list (drop (done + 1) serials ++ more)) (sym (take-append-le (done + 1) serials more upto))
    ∙ ap (λ (list : List ℕ). worked_off (table.free - (done + 1)) children_of (take (done + 1) (serials ++ more)) list) (sym (drop-append-le (done + 1) serials more upto))
    ∙ ap (λ (list : List ℕ). found_from layouts table (done + 1) list) (sym now_is))

pub found_more : (layouts : Layouts) (table : Table) (done place : ℕ) (order now forwards : List ℕ) → HasSerials table
    → IsFound table.objects order forwards → slice_get order done ≡ Some place
    → serials_of table.objects now ≡ serials_of table.objects order ++ unseen (serials_of table.objects order)
    (flat_map (λ (o : Stored ℕ). flat_map referred (contents_in layouts table.objects o)) (option_to_list (slice_get table.objects place)))
    → found_from layouts table (done + 1) (serials_of table.objects now) ≡ found_from layouts table done (serials_of table.objects order)
found_more layouts table done place order now forwards given is there serials_are =
    elim (slice_get_cases table.objects place).1 [
      | inl at ↦ found_next layouts table done place at.0 order now forwards given is there at.2 serials_are
      | inr past ↦ absurd (omega (arith, past.0, is.within done place there))
    ]

-- an object that waits can be visited
pub can_visit : (layouts : Layouts) (table : Table) (done place : ℕ) (order forwards : List ℕ) (all : List ℕ)
    → IsFound table.objects order forwards → slice_get order done ≡ Some place
    → found_from layouts table done (serials_of table.objects order) ≡ all → CanFollow layouts table.objects all
    → IfSome (slice_get table.objects place) (CanVisit layouts table.objects)
can_visit layouts table done place order forwards all is there found live =
    let serials = serials_of table.objects order in
    let stands : IsTrue (has (take done serials ++ drop done serials) (serial_at table.objects place)) =
    subst (λ (list : List ℕ). IsTrue (has list (serial_at table.objects place))) (sym (take-append-drop done serials)) (serial_has table.objects order done place there) in
    live place (is.within done place there) (subst (λ (list : List ℕ). IsTrue (has list (serial_at table.objects place))) found
    (worked_stays (table.free - done) (children (by_serial layouts (state_of table))) (take done serials) (drop done serials) (serial_at table.objects place) stands))

-- ---- what a collection asks is what following asks

pass_of : (q : Stored Content → Bool) (f : ℕ → List (Stored Content)) (list : List ℕ) (n : ℕ) → IsTrue (list_all q (flat_map f list))
    → IsTrue (has list n) → IsTrue (list_all q (f n))
pass_of q f [] n all h = absurd cc
pass_of q f (m ∷ list) n all h =
    let parts = all_parts (f m) (flat_map f list) all in
    elim (or_cases (eqb n m) (has list n) h) [
      | inl same ↦ subst (λ (k : ℕ). IsTrue (list_all q (f k))) (sym (eqb-true n m same)) parts.0
      | inr other ↦ pass_of q f list n parts.1 other
    ]
  where
    all_parts : (xs ys : List (Stored Content)) → IsTrue (list_all q (xs ++ ys)) → IsTrue (list_all q xs) × IsTrue (list_all q ys)
    all_parts [] ys all = (refl, all)
    all_parts (x ∷ xs) ys all =
        let first = and_parts (q x) (list_all q (xs ++ ys)) all in
        let rest = all_parts xs ys first.1 in
        (ap (λ (b : Bool). b && list_all q xs) first.0 ∙ rest.0, rest.1)

pub can_follow_all : (layouts : Layouts) (table : Table) (roots : List Addr) → HasSerials table
    → CanCollect layouts (state_of table) roots → CanFollow layouts table.objects (reached layouts (state_of table) roots)
can_follow_all layouts table roots given can place within h = elim (slice_get_cases table.objects place).1 [
  | inl there ↦
      let objects = by_serial layouts (state_of table) in
      let object = there.0 in
      let stands : IsTrue (has (reached layouts (state_of table) roots) object.serial) = subst (λ (n : ℕ). IsTrue (has (reached layouts (state_of table) roots) n)) (serial_found table.objects place object there.2) h in
      let pass = pass_of (can_follow layouts) (λ serial. option_to_list (of_serial objects serial)) (reached layouts (state_of table) roots) object.serial can.followed stands in
      let one = subst (λ (o : Option (Stored Content)). IsTrue (list_all (can_follow layouts) (option_to_list o))) (of_serial_is layouts table place object given there.2) pass in
      let first = and_parts (can_follow layouts (read_by layouts (placed_from 1 table.objects) object)) true one in
      subst (λ (o : Option (Stored ℕ)). IfSome o (CanVisit layouts table.objects)) (sym there.2) (and_parts _ _ first.0).1
  | inr past ↦ absurd (omega (arith, within, past.0))
]

-- ---- the begin

all_unfound : (objects : List (Stored ℕ)) → unfound_words objects (replicate (length objects) 0) ≡ table_words objects
all_unfound [] = refl
all_unfound (object ∷ objects) = omega (arith, all_unfound objects, sum_by-cons object_words object objects)

pub none_found : (objects : List (Stored ℕ)) → IsFound objects [] (replicate (length objects) 0)
unfolding IsDistinct
none_found objects = record {
  each = length-replicate (length objects) 0;
  within = λ k place h. absurd cc;
  unfound = λ place within h. refl;
  found = λ place within h. absurd (let zero_is = get_or-replicate {A = ℕ} (length objects) place 0 0 within in omega (arith, zero_is, h));
  distinct = tt;
  words = omega (arith, all_unfound objects);
}

pub three_all : (objects : List (Stored ℕ)) → AllWhole objects → 3 * length objects ≤ table_words objects
three_all [] whole = omega arith
three_all (object ∷ objects) whole =
    let is = whole zero object refl in
    omega (arith, three_words object.shape.kind, is, three_all objects (λ place. whole (suc place)), sum_by-cons object_words object objects)

-- There is room for a forward of each object.
pub forward_room : (table : Table) (count spare : ℕ) → AllWhole table.objects → table_words table.objects ≤ table.half
    → table.half < 3 * (spare + 1) → count ≡ length table.objects → count ≤ spare
forward_room table count spare whole room enough is = omega (arith, three_all table.objects whole, room, enough, is)

-- ---- roots

pub record IsRoot (table : Table) (a : Addr) : Type 0 where
  pub some : 0 < a.0
  pub place : a.0 - 1 < length table.objects
  pub serial : serial_of (state_of table) a ≡ Some (serial_at table.objects (a.0 - 1))

pub is_root : (table : Table) (a : Addr) → IsTrue (is_some (object_of (state_of table) a)) → IsRoot table a
is_root table a live =
    let some : 0 < a.0 = elim (cases_eq a.0 0) [
      | inl zero_is ↦
          let below : a.0 < 1 = omega (arith, zero_is) in
          let lost : is_some (object_of (state_of table) a) ≡ false = ap is_some (object_at_below 1 table.objects a.0 below) in
          absurd (both_ways _ lost live)
      | inr other ↦ omega (arith, other)
    ] in
    let address : a.0 ≡ 1 + (a.0 - 1) = omega (arith, some) in
    let found = object_at_place 1 table.objects (a.0 - 1) a.0 address in
    elim (slice_get_cases table.objects (a.0 - 1)).1 [
      | inl there ↦ record {
        some = some;
        place = there.1;
        serial = ap (option_map (λ (o : Stored ℕ). o.serial)) (found ∙ there.2) ∙ ap Some (sym (serial_found table.objects (a.0 - 1) there.0 there.2));
      }
      | inr past ↦
          let lost : is_some (object_of (state_of table) a) ≡ false = ap is_some (found ∙ past.1) in
          absurd (both_ways _ lost live)
    ]

pub live_root : (p : Addr → Bool) (roots : List Addr) (at : ℕ) (a : Addr) → IsTrue (list_all p roots) → at < length roots
    → a ≡ get_or roots at a → IsTrue (p a)
live_root p [] at a live within is = absurd (omega arith)
live_root p (root ∷ roots) zero a live within is = subst (λ (r : Addr). IsTrue (p r)) (sym is) (and_parts _ _ live).0
live_root p (root ∷ roots) (suc at) a live within is = live_root p roots at a (and_parts _ _ live).1 (omega arith) is

pub record HasRoots (table : Table) (roots : List Addr) (at : ℕ) (order forwards : List ℕ) : Type 0 where
  pub found : IsFound table.objects order forwards
  pub serials : serials_of table.objects order ≡ unseen [] (root_serials (state_of table) (take at roots))

pub no_roots : (table : Table) (roots : List Addr) (order forwards : List ℕ) → order ≡ []
    → forwards ≡ replicate (length table.objects) 0 → HasRoots table roots 0 order forwards
unfolding unseen
no_roots table roots order forwards none zeros =
    let here : HasRoots table roots 0 [] (replicate (length table.objects) 0) = record { found = none_found table.objects; serials = refl } in
    subst (λ (list : List ℕ). HasRoots table roots 0 list forwards) (sym none)
    (subst (λ (list : List ℕ). HasRoots table roots 0 [] list) (sym zeros) here)

pub root_step : (table : Table) (roots : List Addr) (at : ℕ) (a : Addr) (order forwards now forwards_now : List ℕ) → HasSerials table
    → HasRoots table roots at order forwards → at < length roots → a ≡ get_or roots at a → IsRoot table a
    → now ≡ order_with order forwards (a.0 - 1) → forwards_now ≡ forwards_with order forwards (a.0 - 1)
    → HasRoots table roots (at + 1) now forwards_now
root_step table roots at a order forwards now forwards_now given is within is_a root now_is forwards_are =
    let next = visited table.objects order forwards (a.0 - 1) given.distinct is.found root.place in
    let front = root_serials (state_of table) (take at roots) in
    let last : root_serials (state_of table) (take (at + 1) roots) ≡ front ++ serial_at table.objects (a.0 - 1) ∷ [] =
    ap (root_serials (state_of table)) (take_more roots at a within ∙ ap (λ (r : Addr). take at roots ++ r ∷ []) (sym is_a))
    ∙ flat_map-append (λ (r : Addr). option_to_list (serial_of (state_of table) r)) (take at roots) (a ∷ [])
    ∙ ap (λ (o : Option ℕ). front ++ (option_to_list o ++ [])) root.serial in
    let here : HasRoots table roots (at + 1) (order_with order forwards (a.0 - 1)) (forwards_with order forwards (a.0 - 1)) = record {
      found = next.found;
      serials = next.serials
          ∙ ap (λ (list : List ℕ). list ++ unseen list (serial_at table.objects (a.0 - 1) ∷ [])) is.serials
          ∙ sym (unseen-append [] front (serial_at table.objects (a.0 - 1) ∷ []))
          ∙ ap (unseen []) (sym last);
    } in
    subst (λ (list : List ℕ). HasRoots table roots (at + 1) list forwards_now) (sym now_is)
    (subst (λ (list : List ℕ). HasRoots table roots (at + 1) (order_with order forwards (a.0 - 1)) list) (sym forwards_are) here)
