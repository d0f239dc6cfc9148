-- The order of a class, as it's stored and as contracts see it.
use Rattle.std.proofs.Common.{◌≡◌, ℕ, ◌<◌, List, [], Some, IsTrue, length, map, slice_get, option_map, ap, sym, subst, ◌∙◌}
use Rattle.std.proofs.lemmas.Option.{get_or_from_slice_get, slice_get-map}
use Rattle.jv_types.specs.declared.number.ClassNo.{ClassNo}
use Rattle.class_names.specs.declared.signatures.Signature.{Signature}
use Rattle.class_world.specs.MemberTable.{Members, order_at, is_order, IsWithin}
use Rattle.class_graph.proofs.Passing.{list_all-get_or}

module _ {L : Type 0} (items : L → List ClassNo) (lists : List L) (declared : List (List Signature)) (self : Members)
    (view_is : record { orders = map items lists; declared = declared } ≡ self) (k : ℕ) (list : L) (slice : List ClassNo)
    (at : slice_get lists k ≡ Some list) (is_slice : slice ≡ items list) where
  pub order_seen : order_at self k ≡ slice
  order_seen =
      ap (λ (m : Members). order_at m k) (sym view_is)
      ∙ get_or_from_slice_get (map items lists) k (items list) [] (slice_get-map items lists k ∙ ap (option_map items) at)
      ∙ sym is_slice

  pub declared_seen : self.declared ≡ declared
  declared_seen = ap (λ (m : Members). m.declared) (sym view_is)

  pub order_inside : IsWithin (map items lists) declared → k < length self.orders → IsTrue (is_order declared slice)
  order_inside within inside =
      let here : k < length (map items lists) = subst (λ (m : Members). k < length m.orders) (sym view_is) inside in
      subst (λ (o : List ClassNo). IsTrue (is_order declared o))
      (get_or_from_slice_get (map items lists) k (items list) [] (slice_get-map items lists k ∙ ap (option_map items) at)
      ∙ sym is_slice)
      (list_all-get_or (is_order declared) (map items lists) k [] within here)
