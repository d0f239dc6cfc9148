-- Values, frames and states that name only objects that an earlier state reached, and the next one.
use Rattle.std.proofs.Common.{◌≡◌, ℕ, List, length, Option, Some, None, inr}
use Rattle.std.specs.Prelude.{◌⊎◌, ⊤}
use Rattle.std.specs.List.{AllByRecursion}
use Rattle.machine_model.specs.Value.{Value, int, long, half, null, reference, onto}
use Rattle.machine_model.specs.Heap.{Contents, contents_at, values_of}
use Rattle.machine_model.specs.State.{Frame, Thread, Static, Interned, State}
use Rattle.reach_laws.specs.Reaching.{IsReached}

-- the earlier state reached it, or it's the next object
abbrev pub MayReach : State → ℕ → Type 0
MayReach before id = IsReached before id ⊎ (id ≡ length before.heap)

-- the object that a value names, if it does, is such a one
abbrev pub Names : State → Value → Type 0
Names before (reference id) = MayReach before id
Names before other = ⊤

abbrev pub Holds : State → List Value → Type 0
Holds before values = AllByRecursion (Names before) values

-- so for the receiver that a frame holds, if it does
abbrev pub HeldIn : State → Option ℕ → Type 0
HeldIn before None = ⊤
HeldIn before (Some id) = MayReach before id

pub record FrameIn (before : State) (frame : Frame) : Type 0 where
  pub held : HeldIn before frame.held
  pub locals : Holds before frame.locals
  pub stack : Holds before frame.stack

abbrev pub FramesIn : State → List Frame → Type 0
FramesIn before frames = AllByRecursion (FrameIn before) frames

abbrev pub ThreadIn : State → Thread → Type 0
ThreadIn before thread = FramesIn before thread.frames

abbrev pub StaticIn : State → Static → Type 0
StaticIn before static = Names before static.value

abbrev pub LiteralIn : State → Interned → Type 0
LiteralIn before row = MayReach before row.id

-- Each root of the state is in reach or the next object, and so is what such an object holds.
pub record Within (before state : State) : Type 0 where
  -- main's array
  pub first : MayReach before 0
  pub threads : AllByRecursion (ThreadIn before) state.threads
  pub statics : AllByRecursion (StaticIn before) state.statics
  pub literals : AllByRecursion (LiteralIn before) state.interned
  pub objects : (id : ℕ) (contents : Contents) → MayReach before id → contents_at state.heap id ≡ Some contents
      → Holds before (values_of contents)

-- where there are as many objects as before, the next one is the same
pub next_in : (before state : State) → length state.heap ≡ length before.heap → MayReach before (length state.heap)
next_in before state same = inr same

-- an operand on top of others
pub onto_in : (before : State) (value : Value) (rest : List Value) → Names before value → Holds before rest
    → Holds before (onto value rest)
onto_in before (long n) rest here all = (tt, (tt, all))
onto_in before (int n) rest here all = (tt, all)
onto_in before half rest here all = (tt, all)
onto_in before null rest here all = (tt, all)
onto_in before (reference id) rest here all = (here, all)
