-- What signatures spell as texts are added, and one signature more.
use Rattle.std.proofs.Common.{◌≡◌, ℕ, ◌+◌, ◌<◌, ◌≤◌, Bool, true, false, not, ◌&&◌, ◌||◌, if◌then◌else◌, List, [], ◌∷◌, ◌++◌, Some, length, map, slice_get, get_or, nat_lt, bytes_eq, take, drop, IsTrue, ap, sym, subst, ◌∙◌, refl, append_assoc, add-one, true≢false, arith}
use Rattle.std.specs.List.{list_any, list_all, IsDistinct}
use Rattle.std.proofs.lemmas.Bool.{false≢true}
use Rattle.std.proofs.lemmas.Bool.Decides.{Decides-ltb}
use Rattle.std.proofs.lemmas.Cmp.{nat_list_eq_equiv}
use Rattle.std.proofs.lemmas.List.{append-nil, length-append, map-append, take-append-drop, take_all}
use Rattle.std.proofs.Math.ListN.{get_or-append}
use Rattle.std.proofs.Math.Seq.{take-suc}
use Rattle.std.proofs.lemmas.List.Folds.{list_all-append, list_any-append}
use Rattle.std.proofs.lemmas.Map.Keys.{IsDistinct-push}
use Rattle.std.proofs.lemmas.Option.{get_or_from_slice_get}
use Rattle.class_graph.proofs.Passing.{and_left, and_right}
use Rattle.class_names.specs.Distinct.{with_item, same_signature}
use Rattle.class_names.specs.declared.signatures.Signature.{Signature}
use Rattle.link_model.specs.ClassFaults.{has_twice}
use Rattle.class_world.specs.World.{spelled, is_spelled}
use Rattle.class_world.specs.Signatures.{Pair, same_pair, Extends, Spells, AddsSignature, SpellsOnce, SpellsAll}
use Rattle.class_world.proofs.Places.{bytes_eq-symm, bytes_eq-places}
use Rattle.class_world.proofs.LookUps.{inside_from_at}

-- ---- texts behind others

pub extends_self : (texts : List (List ℕ)) → Extends texts texts
extends_self texts = ([], sym (append-nil texts))

pub extends_more : (one two three : List (List ℕ)) → Extends one two → Extends two three → Extends one three
extends_more one two three first second =
    (first.0 ++ second.0, second.1 ∙ ap (λ (l : List (List ℕ)). l ++ second.0) first.1 ∙ append_assoc one first.0 second.0)

with_item_extends : (texts : List (List ℕ)) (text : List ℕ) → Extends texts (with_item bytes_eq texts text)
with_item_extends texts text = by (list_any (bytes_eq text) texts)
  where
    by : (b : Bool) → Extends texts (if b then texts else texts ++ text ∷ [])
    by true = extends_self texts
    by false = (text ∷ [], refl)

with_item_distinct : (texts : List (List ℕ)) (text : List ℕ) → IsDistinct bytes_eq texts → IsDistinct bytes_eq (with_item bytes_eq texts text)
with_item_distinct texts text distinct = by (list_any (bytes_eq text) texts) refl
  where
    by : (b : Bool) → list_any (bytes_eq text) texts ≡ b → IsDistinct bytes_eq (if b then texts else texts ++ text ∷ [])
    by true is = distinct
    by false is = IsDistinct-push nat_list_eq_equiv texts text distinct is

-- a text that stands at a number stands there still
still_at : (texts more : List (List ℕ)) (n : ℕ) → Extends texts more → n < length texts → get_or more n [] ≡ get_or texts n []
still_at texts more n grows inside = ap (λ (l : List (List ℕ)). get_or l n []) grows.1 ∙ get_or-append texts grows.0 [] n inside

more_inside : (texts more : List (List ℕ)) (n : ℕ) → Extends texts more → n < length texts → n < length more
more_inside texts more n grows inside = omega (arith, inside, ap (λ (l : List (List ℕ)). length l) grows.1, length-append texts grows.0)

-- ---- what stands spelled

module _ (texts : List (List ℕ)) (s : Signature) (within : IsTrue (is_spelled texts s)) where
  pub name_inside : s.name < length texts
  name_inside =
      (Decides-ltb s.name (length texts)).0 (and_left (nat_lt s.name (length texts)) (list_all (λ n. nat_lt n (length texts)) (s.descriptor ∷ [])) within)

  pub descriptor_inside : s.descriptor < length texts
  descriptor_inside =
      (Decides-ltb s.descriptor (length texts)).0 (and_left (nat_lt s.descriptor (length texts)) true
      (and_right (nat_lt s.name (length texts)) (list_all (λ n. nat_lt n (length texts)) (s.descriptor ∷ [])) within))

spelled_inside : (texts : List (List ℕ)) (s : Signature) → s.name < length texts → s.descriptor < length texts → IsTrue (is_spelled texts s)
spelled_inside texts s name descriptor =
    λ i. (Decides-ltb s.name (length texts)).1 name i && ((Decides-ltb s.descriptor (length texts)).1 descriptor i && true)

module _ (texts more : List (List ℕ)) (grows : Extends texts more) where
  still_within : (s : Signature) → IsTrue (is_spelled texts s) → IsTrue (is_spelled more s)
  still_within s within =
      spelled_inside more s (more_inside texts more s.name grows (name_inside texts s within))
      (more_inside texts more s.descriptor grows (descriptor_inside texts s within))

  still_spelled : (s : Signature) → IsTrue (is_spelled texts s) → spelled more s ≡ spelled texts s
  still_spelled s within =
      let name = still_at texts more s.name grows (name_inside texts s within) in
      let descriptor = still_at texts more s.descriptor grows (descriptor_inside texts s within) in
      λ i. (name i, descriptor i)

  all_still_within : (rows : List Signature) → IsTrue (list_all (is_spelled texts) rows) → IsTrue (list_all (is_spelled more) rows)
  all_still_within [] all = refl
  all_still_within (s ∷ rows) all =
      let first = still_within s (and_left (is_spelled texts s) (list_all (is_spelled texts) rows) all) in
      let rest = all_still_within rows (and_right (is_spelled texts s) (list_all (is_spelled texts) rows) all) in
      λ i. first i && rest i

  all_still_spelled : (rows : List Signature) → IsTrue (list_all (is_spelled texts) rows) → map (spelled more) rows ≡ map (spelled texts) rows
  all_still_spelled [] all = refl
  all_still_spelled (s ∷ rows) all =
      let first = still_spelled s (and_left (is_spelled texts s) (list_all (is_spelled texts) rows) all) in
      let rest = all_still_spelled rows (and_right (is_spelled texts s) (list_all (is_spelled texts) rows) all) in
      λ i. first i ∷ rest i

  pub still_spells : IsDistinct bytes_eq more → (rows : List Signature) (pairs : List Pair) → Spells texts rows pairs → Spells more rows pairs
  still_spells distinct rows pairs is = record {
    distinct = distinct;
    within = all_still_within rows is.within;
    are = all_still_spelled rows is.within ∙ is.are;
  }

  lists_still_within : (rows : List (List Signature)) → IsTrue (list_all (list_all (is_spelled texts)) rows) → IsTrue (list_all (list_all (is_spelled more)) rows)
  lists_still_within [] all = refl
  lists_still_within (row ∷ rows) all =
      let first = all_still_within row (and_left (list_all (is_spelled texts) row) (list_all (list_all (is_spelled texts)) rows) all) in
      let rest = lists_still_within rows (and_right (list_all (is_spelled texts) row) (list_all (list_all (is_spelled texts)) rows) all) in
      λ i. first i && rest i

  lists_still_spelled : (rows : List (List Signature)) → IsTrue (list_all (list_all (is_spelled texts)) rows) → map (map (spelled more)) rows ≡ map (map (spelled texts)) rows
  lists_still_spelled [] all = refl
  lists_still_spelled (row ∷ rows) all =
      let first = all_still_spelled row (and_left (list_all (is_spelled texts) row) (list_all (list_all (is_spelled texts)) rows) all) in
      let rest = lists_still_spelled rows (and_right (list_all (is_spelled texts) row) (list_all (list_all (is_spelled texts)) rows) all) in
      λ i. first i ∷ rest i

  pub all_still_spell : (rows : List (List Signature)) (pairs : List (List Pair)) → SpellsAll texts rows pairs → SpellsAll more rows pairs
  all_still_spell rows pairs is = record {
    within = lists_still_within rows is.within;
    are = lists_still_spelled rows is.within ∙ is.are;
  }

-- one list of signatures more
pub spells_more : (texts : List (List ℕ)) (rows : List (List Signature)) (pairs : List (List Pair)) (row : List Signature) (own : List Pair)
    → SpellsAll texts rows pairs → Spells texts row own → SpellsAll texts (rows ++ row ∷ []) (pairs ++ own ∷ [])
spells_more texts rows pairs row own all one = record {
  within = list_all-append (list_all (is_spelled texts)) rows (row ∷ []) ∙ (λ i. all.within i && (one.within i && true));
  are = map-append (map (spelled texts)) rows (row ∷ []) ∙ (λ i. all.are i ++ one.are i ∷ []);
}

-- ---- one signature more

module _ (texts : List (List ℕ)) (distinct : IsDistinct bytes_eq texts) (s : Signature) (within : IsTrue (is_spelled texts s)) where
  same_by_number : (r : Signature) → IsTrue (is_spelled texts r) → same_signature s r ≡ same_pair (spelled texts r) (spelled texts s)
  same_by_number r there =
      let name = sym (bytes_eq-places texts distinct s.name r.name (name_inside texts s within) (name_inside texts r there))
      ∙ bytes_eq-symm (get_or texts s.name []) (get_or texts r.name []) in
      let descriptor = sym (bytes_eq-places texts distinct s.descriptor r.descriptor (descriptor_inside texts s within) (descriptor_inside texts r there))
      ∙ bytes_eq-symm (get_or texts s.descriptor []) (get_or texts r.descriptor []) in
      λ i. name i && descriptor i

  any_by_number : (rows : List Signature) → IsTrue (list_all (is_spelled texts) rows)
      → list_any (same_signature s) rows ≡ list_any (λ p. same_pair p (spelled texts s)) (map (spelled texts) rows)
  any_by_number [] all = refl
  any_by_number (r ∷ rows) all =
      let first = same_by_number r (and_left (is_spelled texts r) (list_all (is_spelled texts) rows) all) in
      let rest = any_by_number rows (and_right (is_spelled texts r) (list_all (is_spelled texts) rows) all) in
      λ i. first i || rest i

  added_spells : (rows : List Signature) (pairs : List Pair) (b : Bool) → Spells texts rows pairs
      → Spells texts (if b then rows else rows ++ s ∷ []) (if not b then pairs ++ spelled texts s ∷ [] else pairs)
  added_spells rows pairs true is = is
  added_spells rows pairs false is = record {
    distinct = distinct;
    within = list_all-append (is_spelled texts) rows (s ∷ []) ∙ (λ i. is.within i && (within i && true));
    are = map-append (spelled texts) rows (s ∷ []) ∙ (λ i. is.are i ++ spelled texts s ∷ []);
  }

module _ (texts named more : List (List ℕ)) (rows added : List Signature) (name descriptor : List ℕ) (n d : ℕ) (is_new : Bool)
    (adds_name : named ≡ with_item bytes_eq texts name) (name_at : slice_get named n ≡ Some name)
    (adds_descriptor : more ≡ with_item bytes_eq named descriptor) (descriptor_at : slice_get more d ≡ Some descriptor) where
  first_grows : Extends texts named
  first_grows = subst (Extends texts) (sym adds_name) (with_item_extends texts name)

  second_grows : Extends named more
  second_grows = subst (Extends named) (sym adds_descriptor) (with_item_extends named descriptor)

  pub both_grow : Extends texts more
  both_grow = extends_more texts named more first_grows second_grows

  more_distinct : IsDistinct bytes_eq texts → IsDistinct bytes_eq more
  more_distinct old =
      subst (IsDistinct bytes_eq) (sym adds_descriptor) (with_item_distinct named descriptor
      (subst (IsDistinct bytes_eq) (sym adds_name) (with_item_distinct texts name old)))

  name_there : n < length named
  name_there = inside_from_at named n name name_at

  signature_within : IsTrue (is_spelled more (record { name = n; descriptor = d }))
  signature_within =
      spelled_inside more (record { name = n; descriptor = d }) (more_inside named more n second_grows name_there) (inside_from_at more d descriptor descriptor_at)

  signature_spells : spelled more (record { name = n; descriptor = d }) ≡ (name, descriptor)
  signature_spells =
      let first = still_at named more n second_grows name_there ∙ get_or_from_slice_get named n name [] name_at in
      let second = get_or_from_slice_get more d descriptor [] descriptor_at in
      λ i. (first i, second i)

  pub adds_signature : added ≡ with_item same_signature rows (record { name = n; descriptor = d })
      → is_new ≡ not (list_any (same_signature (record { name = n; descriptor = d })) rows)
      → AddsSignature texts more rows added (name, descriptor) is_new
  adds_signature adds news = record {
    grows = both_grow;
    spells = λ pairs is.
        let here = still_spells texts more both_grow (more_distinct is.distinct) rows pairs is in
        let row : Signature = record { name = n; descriptor = d } in
        let all = added_spells more (more_distinct is.distinct) row signature_within rows pairs (list_any (same_signature row) rows) here in
        subst (λ (r : List Signature). Spells more r (if is_new then pairs ++ (name, descriptor) ∷ [] else pairs)) (sym adds)
        (subst (λ (p : Pair). Spells more (with_item same_signature rows row) (if is_new then pairs ++ p ∷ [] else pairs)) signature_spells
        (subst (λ (b : Bool). Spells more (with_item same_signature rows row) (if b then pairs ++ spelled more row ∷ [] else pairs)) (sym news) all));
    news = λ pairs is.
        let here = still_spells texts more both_grow (more_distinct is.distinct) rows pairs is in
        let row : Signature = record { name = n; descriptor = d } in
        news ∙ ap not (any_by_number more (more_distinct is.distinct) row signature_within rows here.within
        ∙ ap (λ (p : Pair). list_any (λ q. same_pair q p) (map (spelled more) rows)) signature_spells
        ∙ ap (list_any (λ q. same_pair q (name, descriptor))) here.are);
  }

-- ---- of a list of members those so far

-- two of them are the same
or_swapped : (a b c d : Bool) → ((a || (b || false)) || (c || d)) ≡ ((a || c) || (b || d))
or_swapped true b c d = refl
or_swapped false true true d = refl
or_swapped false true false d = refl
or_swapped false false true d = refl
or_swapped false false false d = refl

has_twice-push : (pairs : List Pair) (pair : Pair)
    → has_twice same_pair (pairs ++ pair ∷ []) ≡ (has_twice same_pair pairs || list_any (λ p. same_pair p pair) pairs)
unfolding has_twice
has_twice-push [] pair = refl
has_twice-push (p ∷ pairs) pair =
    (λ i. list_any-append (same_pair p) pairs (pair ∷ []) i || has_twice-push pairs pair i)
    ∙ or_swapped (list_any (same_pair p) pairs) (same_pair p pair) (has_twice same_pair pairs) (list_any (λ q. same_pair q pair) pairs)

or_true : (a b : Bool) → b ≡ true → (a || b) ≡ true
or_true true b is = refl
or_true false b is = is

has_twice-front : (front rest : List Pair) → has_twice same_pair front ≡ true → has_twice same_pair (front ++ rest) ≡ true
unfolding has_twice
has_twice-front [] rest is = absurd (false≢true is)
has_twice-front (p ∷ front) rest is = by (list_any (same_pair p) front) refl is (has_twice-front front rest)
  where
    by : (b : Bool) → list_any (same_pair p) front ≡ b → (b || has_twice same_pair front) ≡ true
        → (has_twice same_pair front ≡ true → has_twice same_pair (front ++ rest) ≡ true)
        → (list_any (same_pair p) (front ++ rest) || has_twice same_pair (front ++ rest)) ≡ true
    by true at either later =
        ap (λ (t : Bool). t || has_twice same_pair (front ++ rest)) (list_any-append (same_pair p) front rest ∙ ap (λ (t : Bool). t || list_any (same_pair p) rest) at)
    by false at either later = or_true (list_any (same_pair p) (front ++ rest)) (has_twice same_pair (front ++ rest)) (later either)

module _ {M : Type 0} (pair_of : M → Pair) (members : List M) (texts : List (List ℕ)) where
  -- the first so many are spelled, and none of them stands twice
  pub record SoFar (i : ℕ) (more : List (List ℕ)) (rows : List Signature) : Type 0 where
    pub grows : Extends texts more
    pub spells : Spells more rows (map pair_of (take i members))
    pub once : has_twice same_pair (map pair_of (take i members)) ≡ false

  pub so_far_begins : IsDistinct bytes_eq texts → (rows : List Signature) → rows ≡ [] → SoFar 0 texts rows
  unfolding has_twice
  so_far_begins distinct rows none = record {
    grows = extends_self texts;
    spells = subst (λ (r : List Signature). Spells texts r []) (sym none) (record { distinct = distinct; within = refl; are = refl });
    once = refl;
  }

  module _ (i : ℕ) (more : List (List ℕ)) (rows : List Signature) (so_far : SoFar i more rows) (member : M) (inside : i < length members)
      (is : member ≡ get_or members i member) (last : List (List ℕ)) (added : List Signature) (is_new : Bool)
      (pair : Pair) (is_pair : pair ≡ pair_of member) (adds_it : AddsSignature more last rows added pair is_new) where
    adds : AddsSignature more last rows added (pair_of member) is_new
    adds = subst (λ (p : Pair). AddsSignature more last rows added p is_new) is_pair adds_it

    taken : map pair_of (take (i + 1) members) ≡ map pair_of (take i members) ++ pair_of member ∷ []
    taken =
        ap (λ (n : ℕ). map pair_of (take n members)) (add-one i)
        ∙ ap (map pair_of) (take-suc members i member inside)
        ∙ map-append pair_of (take i members) (get_or members i member ∷ [])
        ∙ ap (λ (m : M). map pair_of (take i members) ++ pair_of m ∷ []) (sym is)

    or_false : (a b : Bool) → a ≡ false → b ≡ false → (a || b) ≡ false
    or_false a b first second = λ i. first i || second i

    not_any : (b : Bool) → true ≡ not b → b ≡ false
    not_any true is = absurd (true≢false is)
    not_any false is = refl

    any : (b : Bool) → false ≡ not b → b ≡ true
    any true is = refl
    any false is = absurd (true≢false (sym is))

    pub so_far_goes_on : is_new ≡ true → SoFar (i + 1) last added
    so_far_goes_on new =
        let pairs = map pair_of (take i members) in
        let none = not_any (list_any (λ p. same_pair p (pair_of member)) pairs) (sym new ∙ adds.news pairs so_far.spells) in
        record {
          grows = extends_more texts more last so_far.grows adds.grows;
          spells = subst (Spells last added) (sym taken)
              (subst (λ (b : Bool). Spells last added (if b then pairs ++ pair_of member ∷ [] else pairs)) new (adds.spells pairs so_far.spells));
          once = ap (has_twice same_pair) taken ∙ has_twice-push pairs (pair_of member)
              ∙ or_false (has_twice same_pair pairs) (list_any (λ p. same_pair p (pair_of member)) pairs) so_far.once none;
        }

    pub so_far_twice : is_new ≡ false → has_twice same_pair (map pair_of members) ≡ true
    so_far_twice old =
        let pairs = map pair_of (take i members) in
        let some = any (list_any (λ p. same_pair p (pair_of member)) pairs) (sym old ∙ adds.news pairs so_far.spells) in
        ap (λ (l : List M). has_twice same_pair (map pair_of l)) (sym (take-append-drop (i + 1) members))
        ∙ ap (has_twice same_pair) (map-append pair_of (take (i + 1) members) (drop (i + 1) members))
        ∙ has_twice-front (map pair_of (take (i + 1) members)) (map pair_of (drop (i + 1) members))
        (ap (has_twice same_pair) taken ∙ has_twice-push pairs (pair_of member)
        ∙ or_true (has_twice same_pair pairs) (list_any (λ p. same_pair p (pair_of member)) pairs) some)

  pub so_far_ends : (i : ℕ) (more : List (List ℕ)) (rows : List Signature) → length members ≤ i → SoFar i more rows
      → SpellsOnce texts more (map pair_of members) rows
  so_far_ends i more rows end so_far =
      let whole = take_all i members end in
      record {
        grows = so_far.grows;
        spells = subst (λ (l : List M). Spells more rows (map pair_of l)) whole so_far.spells;
        once = ap (λ (l : List M). has_twice same_pair (map pair_of l)) (sym whole) ∙ so_far.once;
      }
