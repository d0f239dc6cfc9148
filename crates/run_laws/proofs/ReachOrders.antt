-- Reach order has each number that can be reached, once, and no other.
use Rattle.std.proofs.Common.{◌≡◌, ℕ, zero, suc, ◌+◌, ◌<◌, ◌≤◌, Bool, eqb, List, [], ◌∷◌, ◌++◌, length, refl, sym, ap, subst, ◌∙◌, length-append, arith, inl, inr}
use Rattle.std.specs.Prelude.{IsTrue, flat_map, Option, Some, None, option_map, is_some, slice_get}
use Rattle.std.specs.List.{IsDistinct, list_all}
use Rattle.std.proofs.lemmas.Bool.{or_cases, eqb-true, false_from_ne_true, both_ways, and_parts}
use Rattle.std.proofs.lemmas.List.{append-nil, nil_from_length}
use Rattle.std.proofs.lemmas.Map.Steps.{length-le_from_distinct_below}
use Rattle.std.proofs.lemmas.Option.{slice_get_within}
use Rattle.machine_model.specs.Heap.{Object, contents_at}
use Rattle.machine_model.specs.State.{State}
use Rattle.machine_model.specs.Reach.{unseen, reached_within, reach_order, children_in, roots, reachable}
use Rattle.run_laws.specs.Reached.{has, Reached, root, child, ListsReached, AreBelow, AllBelow}
use Rattle.run_laws.proofs.Unseen.{has_append, has_left, has_right, has_children, children_have, distinct_append, Disjoint, unseen_only, seen_or_unseen, unseen_once}

-- ---- levels

-- What is known where a level begins.
pub record Level (children : ℕ → List ℕ) (found new : List ℕ) : Type 0 where
  pub distinct : IsDistinct eqb (found ++ new)
  pub closed : (n m : ℕ) → IsTrue (has found n) → IsTrue (has (children n) m) → IsTrue (has (found ++ new) m)

-- the next level, from all that was found
unfoldable pub next_new : (ℕ → List ℕ) → List ℕ → List ℕ → List ℕ
next_new children found new = unseen (found ++ new) (flat_map children new)

pub next_level : (children : ℕ → List ℕ) (found new : List ℕ) → Level children found new
    → Level children (found ++ new) (next_new children found new)
unfolding next_new Disjoint
next_level children found new is = record {
  distinct = distinct_append (found ++ new) (next_new children found new) is.distinct (unseen_once (found ++ new) (flat_map children new))
      (λ n h. false_from_ne_true _ (λ k. both_ways _ (unseen_only (found ++ new) (flat_map children new) n k).0 h));
  closed = λ n m h k. elim (has_append found new n h) [
    | inl old ↦ has_left (found ++ new) (next_new children found new) m (is.closed n m old k)
    | inr newer ↦ elim (seen_or_unseen (found ++ new) (flat_map children new) m (children_have children new n m newer k)) [
      | inl seen ↦ has_left (found ++ new) (next_new children found new) m seen
      | inr unseen ↦ has_right (found ++ new) (next_new children found new) m unseen
    ]
  ];
}

-- As many as there are things are all.
pub all_found : (things : ℕ) (children : ℕ → List ℕ) (found new : List ℕ) → AllBelow things (found ++ new)
    → Level children found new → things ≤ length found → new ≡ []
all_found things children found new below is enough =
    let most : length (found ++ new) ≤ things = length-le_from_distinct_below (found ++ new) things is.distinct below in
    nil_from_length new (omega (arith, length-append found new))

-- all that was found, with its children
record Closed (children : ℕ → List ℕ) (found new list : List ℕ) : Type 0 where
  pub from : (n : ℕ) → IsTrue (has (found ++ new) n) → IsTrue (has list n)
  pub closed : (n m : ℕ) → IsTrue (has list n) → IsTrue (has (children n) m) → IsTrue (has list m)
  pub distinct : IsDistinct eqb list

closed_here : (children : ℕ → List ℕ) (found new : List ℕ) → Level children found new → new ≡ []
    → Closed children found new (found ++ new)
closed_here children found new is none = record {
  from = λ n h. h;
  closed = λ n m h k. is.closed n m (subst (λ (list : List ℕ). IsTrue (has list n)) (ap (λ (list : List ℕ). found ++ list) none ∙ append-nil found) h) k;
  distinct = is.distinct;
}

closed_within : (levels things : ℕ) (children : ℕ → List ℕ) (found new : List ℕ)
    → AllBelow things (reached_within levels children found new) → Level children found new
    → things ≤ levels + length found → Closed children found new (reached_within levels children found new)
unfolding reached_within next_new
closed_within zero things children found new below is enough =
    closed_here children found new is (all_found things children found new below is (omega (arith, enough)))
closed_within (suc levels) things children found [] below is enough =
    subst (λ (list : List ℕ). Closed children found [] list) (append-nil found) (closed_here children found [] is refl)
closed_within (suc levels) things children found (n ∷ ns) below is enough =
    let long : things ≤ levels + length (found ++ n ∷ ns) = omega (arith, enough, length-append found (n ∷ ns)) in
    let rest = closed_within levels things children (found ++ n ∷ ns) (next_new children found (n ∷ ns)) below (next_level children found (n ∷ ns) is) long in
    record {
      from = λ m h. rest.from m (has_left (found ++ n ∷ ns) (next_new children found (n ∷ ns)) m h);
      closed = rest.closed;
      distinct = rest.distinct;
    }

-- One level more changes nothing.
same_within : (levels things : ℕ) (children : ℕ → List ℕ) (found new : List ℕ)
    → AllBelow things (reached_within levels children found new) → Level children found new
    → things ≤ levels + length found → reached_within (suc levels) children found new ≡ reached_within levels children found new
unfolding reached_within next_new
same_within zero things children found new below is enough =
    let none : new ≡ [] = all_found things children found new below is (omega (arith, enough)) in
    subst (λ (list : List ℕ). reached_within 1 children found list ≡ found ++ list) (sym none) (sym (append-nil found))
same_within (suc levels) things children found [] below is enough = refl
same_within (suc levels) things children found (n ∷ ns) below is enough =
    let long : things ≤ levels + length (found ++ n ∷ ns) = omega (arith, enough, length-append found (n ∷ ns)) in
    same_within levels things children (found ++ n ∷ ns) (next_new children found (n ∷ ns)) below (next_level children found (n ∷ ns) is) long

-- What was found stays.
pub stays_within : (levels : ℕ) (children : ℕ → List ℕ) (found new : List ℕ) (n : ℕ) → IsTrue (has (found ++ new) n)
    → IsTrue (has (reached_within levels children found new) n)
unfolding reached_within
stays_within zero children found new n h = h
stays_within (suc levels) children found [] n h = subst (λ (list : List ℕ). IsTrue (has list n)) (append-nil found) h
stays_within (suc levels) children found (first ∷ rest) n h =
    stays_within levels children (found ++ first ∷ rest) _ n (has_left (found ++ first ∷ rest) _ n h)

only_within : (levels : ℕ) (children : ℕ → List ℕ) (roots found new : List ℕ)
    → ((n : ℕ) → IsTrue (has (found ++ new) n) → Reached children roots n)
    → (n : ℕ) → IsTrue (has (reached_within levels children found new) n) → Reached children roots n
unfolding reached_within
only_within zero children roots found new are n h = are n h
only_within (suc levels) children roots found [] are n h = are n (has_left found [] n h)
only_within (suc levels) children roots found (first ∷ rest) are n h =
    only_within levels children roots (found ++ first ∷ rest) (unseen (found ++ first ∷ rest) (flat_map children (first ∷ rest))) (λ m k. elim (has_append (found ++ first ∷ rest) _ m k) [
      | inl old ↦ are m old
      | inr newer ↦
          let parent = has_children children (first ∷ rest) m (unseen_only (found ++ first ∷ rest) (flat_map children (first ∷ rest)) m newer).1 in
          child parent.0 m (are parent.0 (has_right found (first ∷ rest) parent.0 parent.1)) parent.2
    ]) n h

-- ---- the order

pub begins : (children : ℕ → List ℕ) (roots : List ℕ) → Level children [] (unseen [] roots)
begins children roots = record {
  distinct = unseen_once [] roots;
  closed = λ n m h k. absurd cc;
}

not_seen : (n : ℕ) → IsTrue (has [] n) → ⊥
not_seen n h = absurd cc

in_closed : (children : ℕ → List ℕ) (roots list : List ℕ) → Closed children [] (unseen [] roots) list → (n : ℕ)
    → Reached children roots n → IsTrue (has list n)
in_closed children roots list is _ (root n h) =
    elim (seen_or_unseen [] roots n h) [ inl seen ↦ absurd (not_seen n seen) | inr new ↦ is.from n new ]
in_closed children roots list is _ (child parent n reached h) =
    is.closed parent n (in_closed children roots list is parent reached) h

-- Reach order has each number that can be reached, once, and no other, where there are as many things as it needs.
pub reach_order_lists : (things : ℕ) (children : ℕ → List ℕ) (roots : List ℕ)
    → AllBelow things (reach_order things children roots)
    → ListsReached children roots (reach_order things children roots)
reach_order_lists things children roots below =
    let is = closed_within things things children [] (unseen [] roots) below (begins children roots) (omega arith) in
    record {
      each = in_closed children roots (reach_order things children roots) is;
      only = only_within things children roots [] (unseen [] roots) (λ n h. root n (unseen_only [] roots n h).1);
      once = is.distinct;
    }

-- More levels than there are things change nothing.
pub reach_order_levels : (more things : ℕ) (children : ℕ → List ℕ) (roots : List ℕ)
    → AllBelow things (reach_order things children roots)
    → reached_within (things + more) children [] (unseen [] roots) ≡ reach_order things children roots
reach_order_levels zero things children roots below =
    let same : things + 0 ≡ things = omega arith in ap (λ (n : ℕ). reached_within n children [] (unseen [] roots)) same
reach_order_levels (suc more) things children roots below =
    let next : things + suc more ≡ suc (things + more) = omega arith in
    let rest = reach_order_levels more things children roots below in
    ap (λ (n : ℕ). reached_within n children [] (unseen [] roots)) next
    ∙ same_within (things + more) things children [] (unseen [] roots) (subst (AllBelow things) (sym rest) below) (begins children roots) (omega arith)
    ∙ rest

-- ---- where the roots are below, and the children of what is below

reached_below : (things : ℕ) (children : ℕ → List ℕ) (roots : List ℕ) → AreBelow things children roots → (n : ℕ)
    → Reached children roots n → n < things
reached_below things children roots are _ (root n h) = are.roots n h
reached_below things children roots are _ (child parent n reached h) =
    are.children parent n (reached_below things children roots are parent reached) h

pub listed_below : (things : ℕ) (children : ℕ → List ℕ) (roots : List ℕ) → AreBelow things children roots
    → AllBelow things (reach_order things children roots)
listed_below things children roots are n h =
    reached_below things children roots are n (only_within things children roots [] (unseen [] roots) (λ n h. root n (unseen_only [] roots n h).1) n h)

pub below_lists : (things : ℕ) (children : ℕ → List ℕ) (roots : List ℕ) → AreBelow things children roots
    → ListsReached children roots (reach_order things children roots)
below_lists things children roots are = reach_order_lists things children roots (listed_below things children roots are)

-- ---- of a machine

all_hold : (p : ℕ → Bool) (list : List ℕ) (n : ℕ) → IsTrue (list_all p list) → IsTrue (has list n) → IsTrue (p n)
all_hold p [] n all h = absurd cc
all_hold p (m ∷ list) n all h =
    let parts = and_parts (p m) (list_all p list) all in
    elim (or_cases (eqb n m) (has list n) h) [ inl same ↦ ap p (eqb-true n m same) ∙ parts.0 | inr other ↦ all_hold p list n parts.1 other ]

there_is : (state : State) (id : ℕ) (found : Option Object) → slice_get state.heap id ≡ found
    → IsTrue (is_some (option_map (λ (o : Object). o.contents) found)) → id < length state.heap
there_is state id None is h = absurd cc
there_is state id (Some object) is h = slice_get_within state.heap id object is

-- Where the reachable objects are there, reach order lists just those that can be reached, each once.
pub reachable_lists : (state : State) → IsTrue (list_all (λ id. is_some (contents_at state.heap id)) (reachable state))
    → ListsReached (children_in state.heap) (roots state) (reachable state)
reachable_lists state are = reach_order_lists (length state.heap) (children_in state.heap) (roots state)
    (λ id h. there_is state id (slice_get state.heap id) refl
    (all_hold (λ id. is_some (contents_at state.heap id)) (reachable state) id are h))
