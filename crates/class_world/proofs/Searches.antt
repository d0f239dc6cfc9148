-- Steps of searches through lists.
use Rattle.std.proofs.Common.{◌≡◌, ℕ, ◌+◌, ◌<◌, ◌≤◌, ◌==◌, ◌||◌, Bool, false, map, List, [], ◌∷◌, Option, None, IsTrue, length, get_or, drop, position, nat_lt, ap, sym, ◌∙◌, refl}
use Rattle.std.specs.List.{list_any}
use Rattle.std.proofs.lemmas.List.{at_drop_more, at_drop_all, get_or-map}
use Rattle.std.proofs.lemmas.Cmp.{nat_eq_equiv}
use Rattle.class_graph.specs.Graph.{is_in, are_inside, leads_to}
use Rattle.class_graph.proofs.Passing.{list_all-get_or}
use Rattle.std.proofs.lemmas.Option.{get_or_from_slice_get, slice_get_read}
use Rattle.std.proofs.lemmas.Bool.Decides.{Decides-ltb}
use Rattle.jv_types.specs.declared.number.ClassNo.{ClassNo}
use Rattle.class_names.specs.declared.signatures.Signature.{Signature}
use Rattle.class_names.specs.Distinct.{same_signature}
use Rattle.class_world.specs.MemberTable.{is_order, at_or, first_with}

-- an item that was read, whatever stands for those past the end
pub get_or-read : {A : Type 0} (xs : List A) (i : ℕ) (x d : A) → i < length xs → x ≡ get_or xs i x → get_or xs i d ≡ x
get_or-read xs i x d inside is = get_or_from_slice_get xs i x d (slice_get_read xs (length xs) i x refl inside is)

module _ (declared : List (List Signature)) (signature : Signature) (order : List ClassNo) (i : ℕ) where
  -- one class more is looked at
  pub first_with-more : (d : ClassNo) (own : List Signature) (found : Option ℕ) → IsTrue (is_order declared order) → i < length order
      → own ≡ get_or declared (get_or order i d).0 own → found ≡ position (same_signature signature) own
      → first_with declared signature (drop i order)
      ≡ at_or (get_or order i d) found (first_with declared signature (drop (i + 1) order))
  unfolding first_with
  first_with-more d own found is_there inside is_own is_found =
      let class = get_or order i d in
      let rest = first_with declared signature (drop (i + 1) order) in
      let at : class.0 < length declared =
      (Decides-ltb class.0 (length declared)).0
      (list_all-get_or (λ (c : ClassNo). nat_lt c.0 (length declared)) order i d is_there inside) in
      at_drop_more (first_with declared signature) order i d inside
      ∙ ap (λ (o : List Signature). at_or class (position (same_signature signature) o) rest)
      (get_or-read declared class.0 own [] at is_own)
      ∙ ap (λ (f : Option ℕ). at_or class f rest) (sym is_found)

  pub first_with-end : length order ≤ i → first_with declared signature (drop i order) ≡ None
  unfolding first_with
  first_with-end end = at_drop_all (first_with declared signature) order i end

-- ---- nodes that lead to another

list_any-symm : (x : ℕ) (xs : List ℕ) → list_any (λ y. y == x) xs ≡ is_in xs x
list_any-symm x [] = refl
list_any-symm x (y ∷ xs) = λ i. nat_eq_equiv.symm y x i || list_any-symm x xs i

module _ {L : Type 0} (items : L → List ℕ) (graph : List L) (last : ℕ) (nodes : List ℕ) where
  -- one node more is looked at
  pub leads_to-more : (i : ℕ) (row : L) (slice : List ℕ) (found : Bool) → i < length nodes
      → IsTrue (are_inside (length graph) nodes) → row ≡ get_or graph (get_or nodes i 0) row → slice ≡ items row
      → found ≡ list_any (λ y. y == last) slice
      → list_any (leads_to (map items graph) last) (drop i nodes)
      ≡ (found || list_any (leads_to (map items graph) last) (drop (i + 1) nodes))
  leads_to-more i row slice found inside all is_row is_slice is_found =
      let node = get_or nodes i 0 in
      let there : node < length graph =
      (Decides-ltb node (length graph)).0 (list_all-get_or (λ n. nat_lt n (length graph)) nodes i 0 all inside) in
      let rest = list_any (leads_to (map items graph) last) (drop (i + 1) nodes) in
      at_drop_more (list_any (leads_to (map items graph) last)) nodes i 0 inside
      ∙ ap (λ (l : List ℕ). is_in l last || rest) (get_or-map items graph node row [] there ∙ sym (ap items is_row) ∙ sym is_slice)
      ∙ ap (λ (b : Bool). b || rest) (sym (list_any-symm last slice) ∙ sym is_found)

  pub leads_to-end : (i : ℕ) → length nodes ≤ i → list_any (leads_to (map items graph) last) (drop i nodes) ≡ false
  leads_to-end i end = at_drop_all (list_any (leads_to (map items graph) last)) nodes i end
