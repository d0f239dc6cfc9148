-- The steps of a walk, by what its calls leave.
use Rattle.std.proofs.Common.{◌≡◌, ℕ, suc, ◌+◌, ◌-◌, ◌*◌, ◌<◌, ◌≤◌, Bool, true, false, not, if◌then◌else◌, List, [], ◌∷◌, ◌++◌, length, map, get_or, flat_map, ap, sym, subst, ◌∙◌, refl, true≢false, arith}
use Rattle.std.proofs.lemmas.List.{length-map, length-append, length_push, get_or-map}
use Rattle.std.proofs.lemmas.List.Folds.{length-flat_map-take}
use Rattle.class_graph.specs.Graph.{is_in, children_at, IsGraph, IsPreorder}
use Rattle.class_graph.proofs.Sets.{in_head}
use Rattle.class_graph.proofs.Walks.{IsWalk, inside_of, walk_begins, walk_skips, walk_grows, walk_ends, few_met}

not_seen : (b is_new : Bool) → is_new ≡ not b → is_new ≡ true → b ≡ false
not_seen true is_new is new = absurd (true≢false (sym new ∙ is))
not_seen false is_new is new = refl

was_seen : (b is_new : Bool) → is_new ≡ not b → is_new ≡ false → b ≡ true
was_seen true is_new is old = refl
was_seen false is_new is old = absurd (true≢false (sym is ∙ old))

falls : (room less edges stack pushed : ℕ) → less + 1 ≡ room → pushed ≤ edges
    → less * (edges + 1) + (pushed + stack) < room * (edges + 1) + suc stack
falls room less edges stack pushed is few = rw (← is) (omega arith)

module _ {L : Type 0} (items : L → List ℕ) (rows : List L) (start : ℕ) where
  pub begins_at : start < length rows → (met stack : List ℕ) → met ≡ [] → stack ≡ start ∷ [] → IsWalk (map items rows) start met stack
  begins_at inside met stack none one =
      let here : start < length (map items rows) = omega (arith, length-map rows items) in
      subst (λ (m : List ℕ). IsWalk (map items rows) start m stack) (sym none)
      (subst (λ (s : List ℕ). IsWalk (map items rows) start [] s) (sym one) (walk_begins (map items rows) start here))

  module _ (met added stack s : List ℕ) (x : ℕ) (is_new : Bool) (walk : IsWalk (map items rows) start met stack)
      (top : stack ≡ x ∷ s) (is : is_new ≡ not (is_in met x)) (adds : added ≡ (if is_in met x then met else met ++ x ∷ [])) where
    at_top : IsWalk (map items rows) start met (x ∷ s)
    at_top = subst (λ (l : List ℕ). IsWalk (map items rows) start met l) top walk

    pub goes_on : is_new ≡ false → IsWalk (map items rows) start added s
    goes_on old =
        let seen = was_seen (is_in met x) is_new is old in
        let same : added ≡ met = adds ∙ ap (λ (b : Bool). if b then met else met ++ x ∷ []) seen in
        subst (λ (m : List ℕ). IsWalk (map items rows) start m s) (sym same) (walk_skips (map items rows) start met x s seen at_top)

    module _ (new : is_new ≡ true) (row : L) (slice pushed : List ℕ) (is_row : row ≡ get_or rows x row) (is_slice : slice ≡ items row)
        (pushes : pushed ≡ slice ++ s) where
      unseen : is_in met x ≡ false
      unseen = not_seen (is_in met x) is_new is new

      grown : added ≡ met ++ x ∷ []
      grown = adds ∙ ap (λ (b : Bool). if b then met else met ++ x ∷ []) unseen

      inside : x < length rows
      inside =
          let there = inside_of (length (map items rows)) (x ∷ s) x at_top.stack_inside (in_head x s) in
          omega (arith, there, length-map rows items)

      are_children : slice ≡ children_at (map items rows) x
      are_children = is_slice ∙ ap items is_row ∙ sym (get_or-map items rows x row [] inside)

      pub branches : IsGraph (map items rows) → IsWalk (map items rows) start added pushed
      branches is_graph =
          subst (λ (m : List ℕ). IsWalk (map items rows) start m pushed) (sym grown)
          (subst (λ (l : List ℕ). IsWalk (map items rows) start (met ++ x ∷ []) l)
          (sym (pushes ∙ ap (λ (c : List ℕ). c ++ s) are_children))
          (walk_grows (map items rows) start met x s is_graph unseen at_top))

      pub is_smaller : (length rows - length added) * (length (flat_map items rows) + 1) + length pushed
          < (length rows - length met) * (length (flat_map items rows) + 1) + length stack
      is_smaller =
          let few = few_met (map items rows) start met x s unseen at_top in
          let more : length added ≡ length met + 1 = ap length grown ∙ length_push met x in
          let room : (length rows - length added) + 1 ≡ length rows - length met = omega (arith, few, more, length-map rows items) in
          let own : slice ≡ items (get_or rows x row) = is_slice ∙ ap items is_row in
          let edges : length slice ≤ length (flat_map items rows) =
          omega (arith, length-flat_map-take items rows x row inside, ap length own) in
          let sizes : length pushed ≡ length slice + length s = ap length pushes ∙ length-append slice s in
          let tall : length stack ≡ suc (length s) = ap length top in
          rw (sizes, tall) (falls (length rows - length met) (length rows - length added) (length (flat_map items rows)) (length s) (length slice) room edges)

empty_stack : (stack : List ℕ) → (0 < length stack → ⊥) → stack ≡ []
empty_stack [] none = refl
empty_stack (x ∷ stack) none = absurd (none (omega arith))

-- a walk with nothing left
pub ends_at : (graph : List (List ℕ)) (start : ℕ) (met stack nodes : List ℕ) → IsWalk graph start met stack
    → (0 < length stack → ⊥) → nodes ≡ met → IsPreorder graph start nodes
ends_at graph start met stack nodes walk none same =
    subst (λ (l : List ℕ). IsPreorder graph start l) (sym same)
    (walk_ends graph start met (subst (λ (l : List ℕ). IsWalk graph start met l) (empty_stack stack none) walk))
