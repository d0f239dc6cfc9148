-- In a state that conforms reach order lists just what can be reached.
use Rattle.std.proofs.Common.{◌≡◌, ℕ, zero, suc, Bool, true, false, cond, List, [], ◌∷◌, ◌++◌, ◌==◌, refl, ap, length}
use Rattle.std.specs.Prelude.{flat_map, is_some}
use Rattle.std.specs.List.{AllByRecursion, list_any, list_all}
use Rattle.link_laws.proofs.Lists.{all_weaker}
use Rattle.frame_laws.proofs.Outcome.{both}
use Rattle.machine_model.specs.Heap.{contents_at}
use Rattle.machine_model.specs.State.{State}
use Rattle.machine_model.specs.Reach.{unseen, reached_within, roots, children_in, reachable}
use Rattle.machine_model.specs.Conforms.{Conforms}
use Rattle.run_laws.specs.Reached.{root, child, ListsReached}
use Rattle.run_laws.proofs.ReachOrders.{reachable_lists}
use Rattle.machine_laws.proofs.InUse.{reached_conforms}
use Rattle.reach_laws.specs.Reaching.{IsReached}
use Rattle.reach_laws.proofs.Lists.{all_append, all_of_has, all_flat}

-- ---- what roots have and things hand on to their children holds of all that is listed

module _ (P : ℕ → Type 0) where
  all_unseen : (seen ns : List ℕ) → AllByRecursion P ns → AllByRecursion P (unseen seen ns)
  unfolding unseen
  all_unseen seen [] all = tt
  all_unseen seen (n ∷ ns) all = go (list_any (n ==◌) seen) (all_unseen seen ns all.1) (all_unseen (n ∷ seen) ns all.1)
    where
      go : (b : Bool) → AllByRecursion P (unseen seen ns) → AllByRecursion P (unseen (n ∷ seen) ns)
          → AllByRecursion P (cond b (unseen seen ns) (n ∷ unseen (n ∷ seen) ns))
      go true old new = old
      go false old new = (all.0, new)

  all_within : (children : ℕ → List ℕ) → ((n : ℕ) → P n → AllByRecursion P (children n)) → (levels : ℕ) (found new : List ℕ)
      → AllByRecursion P found → AllByRecursion P new → AllByRecursion P (reached_within levels children found new)
  unfolding reached_within
  all_within children each zero found new old newer = all_append P found new old newer
  all_within children each (suc levels) found [] old newer = old
  all_within children each (suc levels) found (n ∷ ns) old newer =
      all_within children each levels (found ++ n ∷ ns) (unseen (found ++ n ∷ ns) (flat_map children (n ∷ ns)))
      (all_append P found (n ∷ ns) old newer)
      (all_unseen (found ++ n ∷ ns) (flat_map children (n ∷ ns))
      (all_flat P children (n ∷ ns) (all_weaker P (λ m. AllByRecursion P (children m)) (n ∷ ns) each newer)))

-- ---- of a state

listed_reached : (state : State) → AllByRecursion (IsReached state) (reachable state)
listed_reached state =
    all_within (IsReached state) (children_in state.heap)
    (λ n reached. all_of_has (IsReached state) (children_in state.heap n) (λ m h. child n m reached h))
    (length state.heap) [] (unseen [] (roots state)) tt
    (all_unseen (IsReached state) [] (roots state) (all_of_has (IsReached state) (roots state) (λ n h. root n h)))

pub conforming_lists : (state : State) → Conforms state → ListsReached (children_in state.heap) (roots state) (reachable state)
conforming_lists state c = reachable_lists state (all_there (reachable state) (listed_reached state))
  where
    all_there : (ids : List ℕ) → AllByRecursion (IsReached state) ids → list_all (λ id. is_some (contents_at state.heap id)) ids ≡ true
    all_there [] all = refl
    all_there (id ∷ ids) all =
        both (is_some (contents_at state.heap id)) (list_all (λ id. is_some (contents_at state.heap id)) ids)
        (ap is_some (reached_conforms state c.live c.is id all.0).1) (all_there ids all.1)
