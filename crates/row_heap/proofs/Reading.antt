-- What the words of an object say, and what visits of all that they refer to find.
use Rattle.std.proofs.Common.{◌≡◌, ◌≢◌, ℕ, zero, suc, ◌+◌, ◌-◌, ◌*◌, ◌<◌, ◌≤◌, Bool, true, false, cond, eqb, List, [], ◌∷◌, ◌++◌, length, take, get_or, refl, sym, ap, subst, ◌∙◌, arith, inl, inr, append_assoc}
use Rattle.std.specs.Prelude.{Option, Some, None, slice_get, option_map, unwrap_or, IsTrue, IfSome, flat_map, map, not, option_to_list}
use Rattle.std.specs.List.{IsDistinct, list_all, sum_by}
use Rattle.std.proofs.lemmas.Bool.{eqb-true, eq-eqb, both_ways, false_from_ne_true, and_parts, cases_eq}
use Rattle.std.proofs.lemmas.List.{append-nil, take_more, length-take-le}
use Rattle.std.proofs.lemmas.List.Sums.{sum_by-cons}
use Rattle.std.proofs.lemmas.List.Concat.{flat_map-append}
use Rattle.std.proofs.lemmas.Option.{slice_get_cases}
use Rattle.machine_model.specs.Reach.{unseen}
use Rattle.run_laws.specs.Reached.{has}
use Rattle.run_laws.proofs.Worklists.{unseen-append}
use Rattle.heap_face.specs.declared.layout.Layouts.{Layouts}
use Rattle.heap_face.specs.declared.shape.Shape.{Shape}
use Rattle.heap_face.specs.Heap.{Stored, Placed, object_at}
use Rattle.heap_face.specs.Collection.{Content, bits, null, reference, dangling, content_of, target, contents_from, refers_at, referred, is_dangling}
use Rattle.row_heap.specs.Table.{Table, words_at, table_words, AllWhole}
use Rattle.row_heap.specs.Placing.{placed_from}
use Rattle.row_heap.specs.Found.{order_with, forwards_with, serial_at, serials_of, IsFound, unfound_words, contents_in, CanVisit}
use Rattle.row_heap.proofs.FoundLemmas.{IsVisited, visited, three_each, unfound_set}

-- ---- objects by their addresses

apart : (m n : ℕ) → m ≢ n → eqb m n ≡ false
apart m n other = false_from_ne_true _ (λ h. other (eqb-true m n h))

pub object_at_place : (first : ℕ) (objects : List (Stored ℕ)) (place address : ℕ) → address ≡ first + place
    → object_at (placed_from first objects) address ≡ slice_get objects place
object_at_place first [] place address is = refl
object_at_place first (object ∷ objects) zero address is =
    let same : first ≡ address = omega (arith, is) in
    ap (λ (b : Bool). cond b (Some object) (object_at (placed_from (suc first) objects) address)) (eq-eqb first address same)
object_at_place first (object ∷ objects) (suc place) address is =
    let other : first ≢ address = λ h. omega (arith, is, h) in
    ap (λ (b : Bool). cond b (Some object) (object_at (placed_from (suc first) objects) address)) (apart first address other)
    ∙ object_at_place (suc first) objects place address (omega (arith, is))

pub object_at_below : (first : ℕ) (objects : List (Stored ℕ)) (address : ℕ) → address < first
    → object_at (placed_from first objects) address ≡ None
object_at_below first [] address below = refl
object_at_below first (object ∷ objects) address below =
    let other : first ≢ address = λ h. omega (arith, below, h) in
    ap (λ (b : Bool). cond b (Some object) (object_at (placed_from (suc first) objects) address)) (apart first address other)
    ∙ object_at_below (suc first) objects address (omega (arith, below))

-- ---- a reference

pub record RefersTo (objects : List (Stored ℕ)) (word : ℕ) : Type 0 where
  pub place : word - 1 < length objects
  pub content : content_of (placed_from 1 objects) true word ≡ reference (serial_at objects (word - 1))

pub refers_to : (objects : List (Stored ℕ)) (word : ℕ) → word ≢ 0
    → IsTrue (not (is_dangling (content_of (placed_from 1 objects) true word))) → RefersTo objects word
refers_to objects word some live =
    let off = apart word 0 some in
    let address : word ≡ 1 + (word - 1) = omega (arith, some) in
    let content : content_of (placed_from 1 objects) true word ≡ target (slice_get objects (word - 1)) =
    ap (λ (b : Bool). cond b null (target (object_at (placed_from 1 objects) word))) off
    ∙ ap target (object_at_place 1 objects (word - 1) word address) in
    elim (slice_get_cases objects (word - 1)).1 [
      | inl there ↦ record {
        place = there.1;
        content = content ∙ ap (λ (o : Option (Stored ℕ)). target o) there.2
            ∙ ap (λ (o : Option (Stored ℕ)). reference (unwrap_or (option_map (λ (s : Stored ℕ). s.serial) o) 0)) (sym there.2);
      }
      | inr past ↦
          let lost : content_of (placed_from 1 objects) true word ≡ dangling = content ∙ ap target past.1 in
          absurd (both_ways _ (ap (λ (c : Content). not (is_dangling c)) lost) live)
    ]

pub null_is : (objects : List Placed) (word : ℕ) → word ≡ 0 → content_of objects true word ≡ null
null_is objects word is = ap (λ (b : Bool). cond b null (target (object_at objects word))) (eq-eqb word 0 is)

-- ---- contents word by word

pub contents_from-append : (objects : List Placed) (refers : ℕ → Bool) (at : ℕ) (words : List ℕ) (word : ℕ)
    → contents_from objects refers at (words ++ word ∷ [])
    ≡ contents_from objects refers at words ++ content_of objects (refers (at + length words)) word ∷ []
contents_from-append objects refers at [] word =
    let here : at ≡ at + 0 = omega arith in
    ap (λ (n : ℕ). content_of objects (refers n) word ∷ []) here
contents_from-append objects refers at (first ∷ words) word =
    let next : suc at + length words ≡ at + suc (length words) = omega arith in
    ap (λ (list : List Content). content_of objects (refers at) first ∷ list)
    (contents_from-append objects refers (suc at) words word
    ∙ ap (λ (n : ℕ). contents_from objects refers (suc at) words ++ content_of objects (refers n) word ∷ []) next)

pub live_at : (objects : List Placed) (refers : ℕ → Bool) (first at : ℕ) (words : List ℕ)
    → IsTrue (list_all (λ content. not (is_dangling content)) (contents_from objects refers first words))
    → at < length words → IsTrue (not (is_dangling (content_of objects (refers (first + at)) (get_or words at 0))))
live_at objects refers first at [] live within = absurd (omega arith)
live_at objects refers first zero (word ∷ words) live within =
    let here : first ≡ first + 0 = omega arith in
    subst (λ (n : ℕ). IsTrue (not (is_dangling (content_of objects (refers n) word)))) here (and_parts _ _ live).0
live_at objects refers first (suc at) (word ∷ words) live within =
    let next : suc first + at ≡ first + suc at = omega arith in
    subst (λ (n : ℕ). IsTrue (not (is_dangling (content_of objects (refers n) (get_or words at 0))))) next
    (live_at objects refers (suc first) at words (and_parts _ _ live).1 (omega arith))

-- ---- visits of the references of an object, one after the other

pub record HasVisited (objects : List (Stored ℕ)) (refers : ℕ → Bool) (contents : List ℕ) (at : ℕ) (before order forwards : List ℕ) : Type 0 where
  pub found : IsFound objects order forwards
  pub serials : serials_of objects order ≡ serials_of objects before
      ++ unseen (serials_of objects before) (flat_map referred (contents_from (placed_from 1 objects) refers 0 (take at contents)))

pub none_visited : (objects : List (Stored ℕ)) (refers : ℕ → Bool) (contents order forwards : List ℕ)
    → IsFound objects order forwards → HasVisited objects refers contents 0 order order forwards
unfolding unseen
none_visited objects refers contents order forwards is =
    record { found = is; serials = sym (append-nil (serials_of objects order)) }

-- what is referred to by one word more
pub referred_more : (objects : List (Stored ℕ)) (refers : ℕ → Bool) (contents : List ℕ) (at : ℕ) → at < length contents
    → flat_map referred (contents_from (placed_from 1 objects) refers 0 (take (at + 1) contents))
    ≡ flat_map referred (contents_from (placed_from 1 objects) refers 0 (take at contents))
    ++ referred (content_of (placed_from 1 objects) (refers at) (get_or contents at 0))
referred_more objects refers contents at within =
    let long : 0 + length (take at contents) ≡ at = omega (arith, length-take-le at contents (omega (arith, within))) in
    ap (λ (ws : List ℕ). flat_map referred (contents_from (placed_from 1 objects) refers 0 ws)) (take_more contents at 0 within)
    ∙ ap (flat_map referred) (contents_from-append (placed_from 1 objects) refers 0 (take at contents) (get_or contents at 0))
    ∙ flat_map-append referred (contents_from (placed_from 1 objects) refers 0 (take at contents)) (content_of (placed_from 1 objects) (refers (0 + length (take at contents))) (get_or contents at 0) ∷ [])
    ∙ ap (λ (list : List ℕ). flat_map referred (contents_from (placed_from 1 objects) refers 0 (take at contents)) ++ list) (append-nil (referred (content_of (placed_from 1 objects) (refers (0 + length (take at contents))) (get_or contents at 0))))
    ∙ ap (λ (n : ℕ). flat_map referred (contents_from (placed_from 1 objects) refers 0 (take at contents)) ++ referred (content_of (placed_from 1 objects) (refers n) (get_or contents at 0))) long

pub visited_none : (objects : List (Stored ℕ)) (refers : ℕ → Bool) (contents : List ℕ) (at : ℕ) (before order forwards : List ℕ)
    → HasVisited objects refers contents at before order forwards → at < length contents
    → referred (content_of (placed_from 1 objects) (refers at) (get_or contents at 0)) ≡ []
    → HasVisited objects refers contents (at + 1) before order forwards
visited_none objects refers contents at before order forwards is within none =
    let front = flat_map referred (contents_from (placed_from 1 objects) refers 0 (take at contents)) in
    let same : front ≡ flat_map referred (contents_from (placed_from 1 objects) refers 0 (take (at + 1) contents)) =
    sym (referred_more objects refers contents at within ∙ ap (λ (list : List ℕ). front ++ list) none ∙ append-nil front) in
    record {
      found = is.found;
      serials = is.serials ∙ ap (λ (list : List ℕ). serials_of objects before ++ unseen (serials_of objects before) list) same;
    }

pub visited_one : (objects : List (Stored ℕ)) (refers : ℕ → Bool) (contents : List ℕ) (at : ℕ) (before order forwards : List ℕ)
    → IsDistinct eqb (map (λ (o : Stored ℕ). o.serial) objects)
    → HasVisited objects refers contents at before order forwards → at < length contents
    → RefersTo objects (get_or contents at 0) → refers at ≡ true
    → HasVisited objects refers contents (at + 1) before (order_with order forwards (get_or contents at 0 - 1)) (forwards_with order forwards (get_or contents at 0 - 1))
visited_one objects refers contents at before order forwards distinct is within to on =
    let word = get_or contents at 0 in
    let seen = serials_of objects before in
    let front = flat_map referred (contents_from (placed_from 1 objects) refers 0 (take at contents)) in
    let next = visited objects order forwards (word - 1) distinct is.found to.place in
    let last : referred (content_of (placed_from 1 objects) (refers at) word) ≡ serial_at objects (word - 1) ∷ [] =
    ap (λ (b : Bool). referred (content_of (placed_from 1 objects) b word)) on ∙ ap referred to.content in
    let all : front ++ serial_at objects (word - 1) ∷ [] ≡ flat_map referred (contents_from (placed_from 1 objects) refers 0 (take (at + 1) contents)) =
    sym (referred_more objects refers contents at within ∙ ap (λ (list : List ℕ). front ++ list) last) in
    record {
      found = next.found;
      serials = next.serials
          ∙ ap (λ (list : List ℕ). list ++ unseen list (serial_at objects (word - 1) ∷ [])) is.serials
          ∙ append_assoc seen (unseen seen front) _
          ∙ ap (λ (list : List ℕ). seen ++ list) (sym (unseen-append seen front (serial_at objects (word - 1) ∷ [])))
          ∙ ap (λ (list : List ℕ). seen ++ unseen seen list) all;
    }

-- ---- room

unfound_least : (objects : List (Stored ℕ)) (forwards : List ℕ) (place : ℕ) → length forwards ≡ length objects
    → place < length objects → get_or forwards place 0 ≡ 0 → words_at objects place ≤ unfound_words objects forwards
unfound_least objects forwards place each within none =
    omega (arith, unfound_set objects forwards place 1 each within none (omega arith))

-- There is room for a place that wasn't found.
pub place_room : (table : Table) (order forwards : List ℕ) (spare place : ℕ) → IsFound table.objects order forwards
    → AllWhole table.objects → table_words table.objects ≤ table.half → table.half < 3 * (length order + spare + 1)
    → place < length table.objects → get_or forwards place 0 ≡ 0 → 0 < spare
place_room table order forwards spare place is whole room enough within none =
    omega (
      arith,
      is.words,
      room,
      enough,
      three_each table.objects order whole is.within,
      unfound_least table.objects forwards place is.each within none,
      three_each table.objects (place ∷ []) whole (one table.objects place within),
      sum_by-cons (words_at table.objects) place [],
    )
  where
    one : (objects : List (Stored ℕ)) (place : ℕ) → place < length objects → (k p : ℕ) → slice_get (place ∷ []) k ≡ Some p → p < length objects
    one objects place within zero p there = let same : place ≡ p = cc in subst (λ (q : ℕ). q < length objects) same within
    one objects place within (suc k) p there = absurd cc

-- ---- the references of the object at a place

pub ref_at : (objects : List (Stored ℕ)) (refers : ℕ → Bool) (contents : List ℕ) (at : ℕ)
    → IsTrue (list_all (λ content. not (is_dangling content)) (contents_from (placed_from 1 objects) refers 0 contents))
    → at < length contents → refers at ≡ true → get_or contents at 0 ≢ 0 → RefersTo objects (get_or contents at 0)
ref_at objects refers contents at live within on some =
    let here : 0 + at ≡ at = omega arith in
    refers_to objects (get_or contents at 0) some
    (subst (λ (b : Bool). IsTrue (not (is_dangling (content_of (placed_from 1 objects) b (get_or contents at 0))))) (ap refers here ∙ on)
    (live_at (placed_from 1 objects) refers 0 at contents live within))

pub none_at_zero : (objects : List Placed) (on : Bool) (word : ℕ) → word ≡ 0 → referred (content_of objects on word) ≡ []
none_at_zero objects false word is = refl
none_at_zero objects true word is = ap referred (null_is objects word is)

pub none_at_bits : (objects : List Placed) (on : Bool) (word : ℕ) → on ≡ false → referred (content_of objects on word) ≡ []
none_at_bits objects on word off = ap (λ (b : Bool). referred (content_of objects b word)) off

pub record HasContents (layouts : Layouts) (objects : List (Stored ℕ)) (found : Option (Stored ℕ)) (shape : Shape) (contents : List ℕ) : Type 0 where
  pub live : IsTrue (list_all (λ content. not (is_dangling content)) (contents_from (placed_from 1 objects) (refers_at layouts shape) 0 contents))
  pub referred_is : flat_map referred (contents_from (placed_from 1 objects) (refers_at layouts shape) 0 contents)
      ≡ flat_map (λ (object : Stored ℕ). flat_map referred (contents_in layouts objects object)) (option_to_list found)

pub has_contents : (layouts : Layouts) (objects : List (Stored ℕ)) (found : Option (Stored ℕ)) (shape : Shape) (contents : List ℕ)
    → option_map (λ (o : Stored ℕ). o.shape) found ≡ Some shape → option_map (λ (o : Stored ℕ). o.contents) found ≡ Some contents
    → IfSome found (CanVisit layouts objects) → HasContents layouts objects found shape contents
has_contents layouts objects None shape contents s c live = absurd cc
has_contents layouts objects (Some object) shape contents s c live =
    let shapes : object.shape ≡ shape = cc in
    let same : object.contents ≡ contents = cc in
    let here : HasContents layouts objects (Some object) object.shape object.contents =
    record { live = live; referred_is = sym (append-nil (flat_map referred (contents_in layouts objects object))) } in
    subst (λ (list : List ℕ). HasContents layouts objects (Some object) shape list) same
    (subst (λ (b : Shape). HasContents layouts objects (Some object) b object.contents) shapes here)

-- a visit, by what it leaves of both lists
pub visited_step : (objects : List (Stored ℕ)) (refers : ℕ → Bool) (contents : List ℕ) (at : ℕ) (before order forwards now forwards_now : List ℕ)
    → IsDistinct eqb (map (λ (o : Stored ℕ). o.serial) objects)
    → HasVisited objects refers contents at before order forwards → at < length contents
    → RefersTo objects (get_or contents at 0) → refers at ≡ true
    → now ≡ order_with order forwards (get_or contents at 0 - 1) → forwards_now ≡ forwards_with order forwards (get_or contents at 0 - 1)
    → HasVisited objects refers contents (at + 1) before now forwards_now
visited_step objects refers contents at before order forwards now forwards_now distinct is within to on now_is forwards_are =
    let next = visited_one objects refers contents at before order forwards distinct is within to on in
    subst (λ (list : List ℕ). HasVisited objects refers contents (at + 1) before list forwards_now) (sym now_is)
    (subst (λ (list : List ℕ). HasVisited objects refers contents (at + 1) before (order_with order forwards (get_or contents at 0 - 1)) list) (sym forwards_are) next)
