-- A visit of a place keeps what holds of a search, and finds what wasn't seen.
use Rattle.std.proofs.Common.{◌≡◌, ◌≢◌, ℕ, zero, suc, ◌+◌, ◌-◌, ◌*◌, ◌<◌, ◌≤◌, Bool, true, false, cond, eqb, List, [], ◌∷◌, ◌++◌, length, set, get_or, refl, sym, ap, subst, ◌∙◌, arith, length-append, inl, inr}
use Rattle.std.specs.Prelude.{Option, Some, None, map, slice_get, slice_index, option_map, unwrap_or, IsTrue, ◌⊎◌}
use Rattle.std.specs.List.{IsDistinct, AllByRecursion, sum_by}
use Rattle.std.proofs.lemmas.Bool.{eqb-true, eq-eqb, both_ways, false_from_ne_true, or_from, or_left, or_right, cases_eq}
use Rattle.std.proofs.lemmas.List.{append-nil, map-append, length-set, get_or-set_same, get_or-set_other}
use Rattle.std.proofs.lemmas.List.Sums.{sum_by-cons, sum_by_push}
use Rattle.std.proofs.lemmas.List.Folds.{list_any-append}
use Rattle.std.proofs.lemmas.Option.{slice_get_within, slice_get_cases}
use Rattle.machine_model.specs.Reach.{unseen}
use Rattle.run_laws.specs.Reached.{has}
use Rattle.run_laws.proofs.Keeping.{slice_get-append}
use Rattle.run_laws.proofs.Unseen.{distinct_append, Disjoint}
use Rattle.heap_face.specs.Heap.{Stored, header_words}
use Rattle.row_heap.specs.Table.{words_at, table_words, AllWhole}
use Rattle.row_heap.specs.Found.{order_with, forwards_with, serial_at, serials_of, unfound_words, IsFound}
use Rattle.row_heap.proofs.RowLemmas.{object_words, three_words}

-- ---- each object has a serial of its own

pub apart_at : (serial : ℕ) (objects : List (Stored ℕ)) (place : ℕ)
    → AllByRecursion (λ y. eqb serial y ≡ false) (map (λ (o : Stored ℕ). o.serial) objects)
    → place < length objects → eqb serial (serial_at objects place) ≡ false
apart_at serial [] place apart within = absurd (omega arith)
apart_at serial (object ∷ objects) zero apart within = apart.0
apart_at serial (object ∷ objects) (suc place) apart within = apart_at serial objects place apart.1 (omega arith)

differ : (m n : ℕ) → eqb m n ≡ false → m ≡ n → ⊥
differ m n h same = both_ways _ h (eq-eqb m n same)

pub serials_apart : (objects : List (Stored ℕ)) → IsDistinct eqb (map (λ (o : Stored ℕ). o.serial) objects)
    → (i j : ℕ) → i < length objects → j < length objects → serial_at objects i ≡ serial_at objects j → i ≡ j
unfolding IsDistinct
serials_apart [] distinct i j within other same = absurd (omega arith)
serials_apart (object ∷ objects) distinct zero zero within other same = refl
serials_apart (object ∷ objects) distinct zero (suc j) within other same =
    absurd (differ _ _ (apart_at object.serial objects j distinct.0 (omega arith)) same)
serials_apart (object ∷ objects) distinct (suc i) zero within other same =
    absurd (differ _ _ (apart_at object.serial objects i distinct.0 (omega arith)) (sym same))
serials_apart (object ∷ objects) distinct (suc i) (suc j) within other same =
    ap suc (serials_apart objects distinct.1 i j (omega arith) (omega arith) same)

-- ---- words of what wasn't found

pub unfound_set : (objects : List (Stored ℕ)) (forwards : List ℕ) (place forward : ℕ) → length forwards ≡ length objects
    → place < length objects → slice_index forwards place ≡ 0 → 0 < forward
    → unfound_words objects (set forwards place forward) + words_at objects place ≡ unfound_words objects forwards
unfound_set [] forwards place forward each within none some = absurd (omega arith)
unfound_set (object ∷ objects) [] place forward each within none some = absurd (omega (arith, each))
unfound_set (object ∷ objects) (f ∷ forwards) zero forward each within none some =
    let off : eqb forward 0 ≡ false = false_from_ne_true _ (λ h. let zero_is : forward ≡ 0 = eqb-true forward 0 h in let no : ⊥ = omega (arith, zero_is, some) in no) in
    let on : eqb f 0 ≡ true = eq-eqb f 0 none in
    let old : cond (eqb f 0) object.shape.words 0 ≡ object.shape.words = ap (λ (b : Bool). cond b object.shape.words 0) on in
    let new : cond (eqb forward 0) object.shape.words 0 ≡ 0 = ap (λ (b : Bool). cond b object.shape.words 0) off in
    omega (arith, old, new)
unfound_set (object ∷ objects) (f ∷ forwards) (suc place) forward each within none some =
    omega (arith, unfound_set objects forwards place forward (omega (arith, each)) (omega arith) none some)

-- ---- what stands in the order

pub serial_has : (objects : List (Stored ℕ)) (order : List ℕ) (k place : ℕ) → slice_get order k ≡ Some place
    → IsTrue (has (serials_of objects order) (serial_at objects place))
serial_has objects [] k place there = absurd cc
serial_has objects (first ∷ order) zero place there =
    let same : first ≡ place = cc in
    or_left _ (has (serials_of objects order) (serial_at objects place)) (eq-eqb _ _ (ap (serial_at objects) (sym same)))
serial_has objects (first ∷ order) (suc k) place there =
    or_right (eqb (serial_at objects place) (serial_at objects first)) _ (serial_has objects order k place there)

slice_get_push : (order : List ℕ) (last k place : ℕ) → slice_get (order ++ last ∷ []) k ≡ Some place
    → (slice_get order k ≡ Some place) ⊎ (last ≡ place)
slice_get_push [] last zero place there = inr cc
slice_get_push [] last (suc k) place there = absurd cc
slice_get_push (first ∷ order) last zero place there = inl there
slice_get_push (first ∷ order) last (suc k) place there = slice_get_push order last k place there

slice_get_last : (order : List ℕ) (last : ℕ) → slice_get (order ++ last ∷ []) (length order) ≡ Some last
slice_get_last [] last = refl
slice_get_last (first ∷ order) last = slice_get_last order last

-- ---- a visit

pub record IsVisited (objects : List (Stored ℕ)) (order forwards : List ℕ) (place : ℕ) (now forwards_now : List ℕ) : Type 0 where
  pub found : IsFound objects now forwards_now
  pub serials : serials_of objects now
      ≡ serials_of objects order ++ unseen (serials_of objects order) (serial_at objects place ∷ [])

visited_new : (objects : List (Stored ℕ)) (order forwards : List ℕ) (place : ℕ)
    → IsDistinct eqb (map (λ (o : Stored ℕ). o.serial) objects) → IsFound objects order forwards → place < length objects
    → slice_index forwards place ≡ 0
    → IsVisited objects order forwards place (order ++ place ∷ []) (set forwards place (length order + 1))
unfolding unseen Disjoint IsDistinct
visited_new objects order forwards place apart is within none =
    let seen = serials_of objects order in
    let serial = serial_at objects place in
    let fresh : has seen serial ≡ false = is.unfound place within none in
    let serials_are : serials_of objects (order ++ place ∷ []) ≡ seen ++ serial ∷ [] = map-append (serial_at objects) order (place ∷ []) in
    let new_is : unseen seen (serial ∷ []) ≡ serial ∷ [] = ap (λ (b : Bool). cond b [] (serial ∷ [])) fresh in
    let there : place < length forwards = omega (arith, is.each, within) in
    let some : 0 < length order + 1 = omega arith in
    let stored : get_or (set forwards place (length order + 1)) place 0 ≡ length order + 1 = get_or-set_same forwards place (length order + 1) 0 there in
    let alone : IsDistinct eqb (serial ∷ []) = (tt, tt) in
    let disjoint : Disjoint seen (serial ∷ []) = λ n h. or_from (eqb n serial) false (false_from_ne_true _ (λ k. both_ways _ fresh (subst (λ (m : ℕ). IsTrue (has seen m)) (eqb-true n serial k) h))) refl in
    record {
      found = record {
        each = length-set forwards place (length order + 1) ∙ is.each;
        within = λ k p h. elim (slice_get_push order place k p h) [ inl old ↦ is.within k p old | inr same ↦ subst (λ (q : ℕ). q < length objects) same within ];
        unfound = λ p below h. elim (cases_eq p place) [
          | inl same ↦ let zero_is : length order + 1 ≡ 0 = sym stored ∙ subst (λ (q : ℕ). get_or (set forwards place (length order + 1)) q 0 ≡ 0) same h in absurd (omega (arith, zero_is))
          | inr other ↦
              let before : get_or forwards p 0 ≡ 0 = sym (get_or-set_other forwards place p (length order + 1) 0 other) ∙ h in
              let unlike : eqb (serial_at objects p) serial ≡ false = false_from_ne_true _ (λ k. other (serials_apart objects apart p place below within (eqb-true _ _ k))) in
              ap (λ (list : List ℕ). has list (serial_at objects p)) serials_are ∙ list_any-append (eqb (serial_at objects p)) seen (serial ∷ [])
              ∙ or_from _ _ (is.unfound p below before) (or_from _ _ unlike refl)
        ];
        found = λ p below h. elim (cases_eq p place) [
          | inl same ↦
              let value : get_or (set forwards place (length order + 1)) p 0 ≡ length order + 1 = subst (λ (q : ℕ). get_or (set forwards place (length order + 1)) q 0 ≡ length order + 1) (sym same) stored in
              let at : get_or (set forwards place (length order + 1)) p 0 - 1 ≡ length order = omega (arith, value) in
              ap (slice_get (order ++ place ∷ [])) at ∙ slice_get_last order place ∙ ap Some (sym same)
          | inr other ↦
              let value : get_or (set forwards place (length order + 1)) p 0 ≡ get_or forwards p 0 = get_or-set_other forwards place p (length order + 1) 0 other in
              let before = is.found p below (subst (λ (n : ℕ). 0 < n) value h) in
              ap (λ (n : ℕ). slice_get (order ++ place ∷ []) (n - 1)) value
              ∙ slice_get-append order (place ∷ []) (get_or forwards p 0 - 1) (slice_get_within order _ p before) ∙ before
        ];
        distinct = subst (IsDistinct eqb) (sym serials_are) (distinct_append seen (serial ∷ []) is.distinct alone disjoint);
        words = omega (arith, is.words, sum_by_push (words_at objects) order place, unfound_set objects forwards place (length order + 1) is.each within none some);
      };
      serials = serials_are ∙ ap (λ (list : List ℕ). seen ++ list) (sym new_is);
    }

visited_old : (objects : List (Stored ℕ)) (order forwards : List ℕ) (place : ℕ) → IsFound objects order forwards
    → place < length objects → 0 < slice_index forwards place → IsVisited objects order forwards place order forwards
unfolding unseen
visited_old objects order forwards place is within some =
    let seen = serials_of objects order in
    let serial = serial_at objects place in
    let there : has seen serial ≡ true = serial_has objects order (slice_index forwards place - 1) place (is.found place within some) in
    let none : unseen seen (serial ∷ []) ≡ [] = ap (λ (b : Bool). cond b [] (serial ∷ [])) there in
    record {
      found = is;
      serials = sym (append-nil seen) ∙ ap (λ (list : List ℕ). seen ++ list) (sym none);
    }

pub visited : (objects : List (Stored ℕ)) (order forwards : List ℕ) (place : ℕ)
    → IsDistinct eqb (map (λ (o : Stored ℕ). o.serial) objects) → IsFound objects order forwards → place < length objects
    → IsVisited objects order forwards place (order_with order forwards place) (forwards_with order forwards place)
visited objects order forwards place apart is within = by_test (eqb (slice_index forwards place) 0) refl
  where
    by_test : (test : Bool) → eqb (slice_index forwards place) 0 ≡ test
        → IsVisited objects order forwards place (cond test (order ++ place ∷ []) order) (cond test (set forwards place (length order + 1)) forwards)
    by_test true none = visited_new objects order forwards place apart is within (eqb-true _ _ none)
    by_test false some = visited_old objects order forwards place is within
        (let positive : slice_index forwards place ≢ 0 = λ h. differ _ _ some h in omega (arith, positive))

-- ---- there is room for a place that wasn't found

pub three_each : (objects : List (Stored ℕ)) (order : List ℕ) → AllWhole objects
    → ((k place : ℕ) → slice_get order k ≡ Some place → place < length objects)
    → 3 * length order ≤ sum_by (words_at objects) order
three_each objects [] whole within = omega arith
three_each objects (place ∷ order) whole within =
    let rest = three_each objects order whole (λ k. within (suc k)) in
    omega (arith, rest, sum_by-cons (words_at objects) place order, three_at objects place whole (within zero place refl))
  where
    three_at : (objects : List (Stored ℕ)) (place : ℕ) → AllWhole objects → place < length objects → 3 ≤ words_at objects place
    three_at objects place whole within = elim (slice_get_cases objects place).1 [
      | inl there ↦
          let same : words_at objects place ≡ there.0.shape.words = ap (λ (o : Option (Stored ℕ)). unwrap_or (option_map (λ (s : Stored ℕ). s.shape.words) o) 0) there.2 in
          let is = whole place there.0 there.2 in
          omega (arith, same, is, three_words there.0.shape.kind)
      | inr past ↦ absurd (omega (arith, past.0, within))
    ]
