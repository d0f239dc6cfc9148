-- What can be reached in a state, and how a later state differs in it.
use Rattle.std.specs.Prelude.{◌≡◌, ℕ, ◌<◌, ◌≤◌, ◌⊎◌, length, ⊤}
use Rattle.machine_model.specs.State.{State}
use Rattle.machine_model.specs.Reach.{roots, children_in}
use Rattle.machine_model.specs.Deed.{Deed, does}
use Rattle.run_laws.specs.Reached.{Reached}

abbrev pub IsReached : State → ℕ → Type 0
IsReached state id = Reached (children_in state.heap) (roots state) id

-- What the later state reaches the earlier one did, or it's the next object that is made.
abbrev pub ReachesOneMore : State → State → Type 0
ReachesOneMore before after = (id : ℕ) → IsReached after id → IsReached before id ⊎ (id ≡ length before.heap)

-- the same of the state in a deed, if there is one
abbrev pub ReachesIn : State → Deed → Type 0
ReachesIn before (does words mark after) = ReachesOneMore before after
ReachesIn before other = ⊤

-- What the later state reaches the earlier one did, or it's new: its id isn't below the number of objects that there
-- were.
abbrev pub ReachesNewOnes : State → State → Type 0
ReachesNewOnes before after = (id : ℕ) → IsReached after id → IsReached before id ⊎ (length before.heap ≤ id)

-- The object is there in the later state, and was neither there nor in reach in the earlier one.
pub record IsMadeSince (before after : State) (id : ℕ) : Type 0 where
  pub there : id < length after.heap
  pub absent : length before.heap ≤ id
  pub unreached : IsReached before id → ⊥
