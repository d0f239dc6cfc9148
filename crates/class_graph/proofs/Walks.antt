-- What holds of a walk at each moment, by the nodes that it met and its stack.
use Rattle.std.proofs.Common.{◌≡◌, ℕ, ◌<◌, ◌==◌, Bool, true, false, ◌&&◌, List, [], ◌∷◌, ◌++◌, length, get_or, filter, nat_lt, IsTrue, ◌⊎◌, inl, inr, sym, subst, ◌∙◌, refl, true≢false, arith}
use Rattle.std.specs.List.{list_all, IsDistinct}
use Rattle.std.proofs.lemmas.Bool.{false≢true}
use Rattle.std.proofs.lemmas.Bool.Decides.{Decides-ltb}
use Rattle.std.proofs.lemmas.Cmp.{nat_eq_equiv}
use Rattle.std.proofs.lemmas.List.{append-nil, length_push}
use Rattle.std.proofs.lemmas.List.Elements.{filter-append}
use Rattle.std.proofs.lemmas.List.Folds.{list_all_at}
use Rattle.std.proofs.lemmas.Map.Keys.{IsDistinct-push}
use Rattle.std.proofs.lemmas.Map.Steps.{length-le_from_distinct_below}
use Rattle.class_graph.specs.Graph.{is_in, children_at, are_inside, IsGraph, Reaches, here, further, once, IsUnfolding, IsPreorder}
use Rattle.class_graph.proofs.Passing.{and_left, and_right, list_all-get_or}
use Rattle.class_graph.proofs.Sets.{in_none, in_head, in_tail, in_cons, in_cases, in_left, in_right, in_filter, not_in}
use Rattle.class_graph.proofs.Traces.{IsTrace, trace_begins, trace_skips, trace_grows}

-- ---- nodes that are there

pub inside_of : (n : ℕ) (xs : List ℕ) (z : ℕ) → IsTrue (are_inside n xs) → IsTrue (is_in xs z) → z < n
inside_of n [] z all h = absurd (in_none z h)
inside_of n (x ∷ xs) z all h = elim (in_cons x xs z h) [
  | inl same ↦ subst (λ (k : ℕ). k < n) (sym same) ((Decides-ltb x n).0 (and_left (nat_lt x n) (are_inside n xs) all))
  | inr rest ↦ inside_of n xs z (and_right (nat_lt x n) (are_inside n xs) all) rest
]

inside_append : (n : ℕ) (xs ys : List ℕ) → IsTrue (are_inside n xs) → IsTrue (are_inside n ys) → IsTrue (are_inside n (xs ++ ys))
inside_append n [] ys all others = others
inside_append n (x ∷ xs) ys all others =
    let first = and_left (nat_lt x n) (are_inside n xs) all in
    let rest = inside_append n xs ys (and_right (nat_lt x n) (are_inside n xs) all) others in
    λ i. first i && rest i

inside_one : (n x : ℕ) → x < n → IsTrue (are_inside n (x ∷ []))
inside_one n x inside = λ i. (Decides-ltb x n).1 inside i && true

-- a way that goes on by one step
pub reaches_on : {graph : List (List ℕ)} (from node next : ℕ) → Reaches graph from node → IsTrue (is_in (children_at graph node) next)
    → Reaches graph from next
reaches_on from node next (here _) step = further from next next step (here next)
reaches_on from node next (further _ between _ first rest) step = further from between next first (reaches_on between node next rest step)

-- ---- walks

pub record IsWalk (graph : List (List ℕ)) (start : ℕ) (met stack : List ℕ) : Type 0 where
  pub distinct : IsDistinct ◌==◌ met
  pub met_inside : IsTrue (are_inside (length graph) met)
  pub stack_inside : IsTrue (are_inside (length graph) stack)
  pub met_reached : (node : ℕ) → IsTrue (is_in met node) → Reaches graph start node
  pub stack_reached : (node : ℕ) → IsTrue (is_in stack node) → Reaches graph start node
  pub begins : IsTrue (is_in met start) ⊎ IsTrue (is_in stack start)
  pub closed : (node child : ℕ) → IsTrue (is_in met node) → IsTrue (is_in (children_at graph node) child)
      → IsTrue (is_in met child) ⊎ IsTrue (is_in stack child)
  pub ordered : (listed : ℕ → Bool) (unfolding_of : ℕ → List ℕ) (rank : ℕ → ℕ) → IsUnfolding graph listed unfolding_of rank
      → IsTrace unfolding_of rank start (filter listed met) met stack

module _ (graph : List (List ℕ)) (start : ℕ) where
  pub walk_begins : start < length graph → IsWalk graph start [] (start ∷ [])
  unfolding IsDistinct
  walk_begins inside = record {
    distinct = tt;
    met_inside = refl;
    stack_inside = inside_one (length graph) start inside;
    met_reached = λ node h. absurd (in_none node h);
    stack_reached = λ node h. elim (in_cons start [] node h) [
      | inl same ↦ subst (λ (n : ℕ). Reaches graph start n) (sym same) (here start)
      | inr none ↦ absurd (in_none node none)
    ];
    begins = inr (in_head start []);
    closed = λ node child h step. absurd (in_none node h);
    ordered = λ listed unfolding_of rank unfolds. trace_begins unfolding_of rank start;
  }

  pub walk_skips : (met : List ℕ) (x : ℕ) (s : List ℕ) → IsTrue (is_in met x) → IsWalk graph start met (x ∷ s) → IsWalk graph start met s
  walk_skips met x s there walk = record {
    distinct = walk.distinct;
    met_inside = walk.met_inside;
    stack_inside = and_right (nat_lt x (length graph)) (are_inside (length graph) s) walk.stack_inside;
    met_reached = walk.met_reached;
    stack_reached = λ node h. walk.stack_reached node (in_tail x s node h);
    begins = elim walk.begins [
      | inl before ↦ inl before
      | inr h ↦ elim (in_cons x s start h) [
        | inl same ↦ inl (subst (λ (n : ℕ). IsTrue (is_in met n)) (sym same) there)
        | inr behind ↦ inr behind
      ]
    ];
    closed = λ node child h step. elim (walk.closed node child h step) [
      | inl before ↦ inl before
      | inr h ↦ elim (in_cons x s child h) [
        | inl same ↦ inl (subst (λ (n : ℕ). IsTrue (is_in met n)) (sym same) there)
        | inr behind ↦ inr behind
      ]
    ];
    ordered = λ listed unfolding_of rank unfolds.
        trace_skips unfolding_of rank start x (filter listed met) met s there (walk.ordered listed unfolding_of rank unfolds);
  }

  pub walk_grows : (met : List ℕ) (x : ℕ) (s : List ℕ) → IsGraph graph → is_in met x ≡ false → IsWalk graph start met (x ∷ s)
      → IsWalk graph start (met ++ x ∷ []) (children_at graph x ++ s)
  walk_grows met x s is_graph new walk =
      let children = children_at graph x in
      let inside = inside_of (length graph) (x ∷ s) x walk.stack_inside (in_head x s) in
      let reached = walk.stack_reached x (in_head x s) in
      let from_x : (z : ℕ) → IsTrue (is_in children z) → Reaches graph start z = λ z step. reaches_on start x z reached step in
      record {
        distinct = IsDistinct-push nat_eq_equiv met x walk.distinct new;
        met_inside = inside_append (length graph) met (x ∷ []) walk.met_inside (inside_one (length graph) x inside);
        stack_inside = inside_append (length graph) children s (list_all-get_or (are_inside (length graph)) graph x [] is_graph inside)
            (and_right (nat_lt x (length graph)) (are_inside (length graph) s) walk.stack_inside);
        met_reached = λ node h. elim (in_cases met (x ∷ []) node h) [
          | inl before ↦ walk.met_reached node before
          | inr now ↦ elim (in_cons x [] node now) [
            | inl same ↦ subst (λ (n : ℕ). Reaches graph start n) (sym same) reached
            | inr none ↦ absurd (in_none node none)
          ]
        ];
        stack_reached = λ node h. elim (in_cases children s node h) [
          | inl child ↦ from_x node child
          | inr behind ↦ walk.stack_reached node (in_tail x s node behind)
        ];
        begins = elim walk.begins [
          | inl before ↦ inl (in_left met (x ∷ []) start before)
          | inr h ↦ elim (in_cons x s start h) [
            | inl same ↦ inl (in_right met (x ∷ []) start (subst (λ (n : ℕ). IsTrue (is_in (x ∷ []) n)) (sym same) (in_head x [])))
            | inr behind ↦ inr (in_right children s start behind)
          ]
        ];
        closed = λ node child h step. elim (in_cases met (x ∷ []) node h) [
          | inl before ↦ elim (walk.closed node child before step) [
            | inl met_too ↦ inl (in_left met (x ∷ []) child met_too)
            | inr on_stack ↦ elim (in_cons x s child on_stack) [
              | inl same ↦ inl (in_right met (x ∷ []) child (subst (λ (n : ℕ). IsTrue (is_in (x ∷ []) n)) (sym same) (in_head x [])))
              | inr behind ↦ inr (in_right children s child behind)
            ]
          ]
          | inr now ↦ elim (in_cons x [] node now) [
            | inl same ↦ inr (in_left children s child (subst (λ (n : ℕ). IsTrue (is_in (children_at graph n) child)) same step))
            | inr none ↦ absurd (in_none node none)
          ]
        ];
        ordered = λ listed unfolding_of rank unfolds.
            let unseen = not_in (filter listed met) x (λ h. true≢false (sym (in_filter listed met x h) ∙ new)) in
            let grown = trace_grows unfolding_of rank start x (listed x) (filter listed met) met children s unseen
            (unfolds.unfolds x inside) (λ z step. unfolds.falls x z inside step) (walk.ordered listed unfolding_of rank unfolds) in
            subst (λ (l : List ℕ). IsTrace unfolding_of rank start l (met ++ x ∷ []) (children ++ s)) (sym (filter-append listed met (x ∷ []))) grown;
      }

  pub walk_ends : (met : List ℕ) → IsWalk graph start met [] → IsPreorder graph start met
  unfolding once
  walk_ends met walk = record {
    distinct = walk.distinct;
    inside = walk.met_inside;
    reached = walk.met_reached;
    begins = elim walk.begins [ inl before ↦ before | inr none ↦ absurd (in_none start none) ];
    closed = λ node child h step. elim (walk.closed node child h step) [
      | inl before ↦ before
      | inr none ↦ absurd (in_none child none)
    ];
    ordered = λ listed unfolding_of rank unfolds.
        sym (append-nil (filter listed met)) ∙ (walk.ordered listed unfolding_of rank unfolds).lists;
  }

  -- a node that wasn't met leaves room among those that were
  pub few_met : (met : List ℕ) (x : ℕ) (s : List ℕ) → is_in met x ≡ false → IsWalk graph start met (x ∷ s) → length met < length graph
  few_met met x s new walk =
      let inside = inside_of (length graph) (x ∷ s) x walk.stack_inside (in_head x s) in
      let both = inside_append (length graph) met (x ∷ []) walk.met_inside (inside_one (length graph) x inside) in
      let most = length-le_from_distinct_below (met ++ x ∷ []) (length graph)
      (IsDistinct-push nat_eq_equiv met x walk.distinct new) (λ q h. inside_of (length graph) (met ++ x ∷ []) q both h) in
      omega (arith, most, length_push met x)
