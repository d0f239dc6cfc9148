-- A thread at its next instruction in a state within reach, and what the words of deeds leave.
use Rattle.std.proofs.Common.{◌≡◌, ℕ, Bool, true, false, cond, List, ◌∷◌, length, Option, Some, None, refl}
use Rattle.std.specs.Prelude.{⊤, IfSome}
use Rattle.jv_model.specs.Instruction.{ValueKind, of_int, of_long, of_reference}
use Rattle.machine_model.specs.Value.{Value, int, long, half, null, reference, Taken, taken_of}
use Rattle.machine_model.specs.Heap.{Contents, contents_at, values_of, words_of, with_object}
use Rattle.machine_model.specs.State.{Frame, Thread, State}
use Rattle.machine_model.specs.Deed.{Deed, does, wrong, Running, ◌>>=◌, with_frames, frame_after, has_room, finishes, goes_on, allocates, on_object}
use Rattle.reach_laws.proofs.Holding.{MayReach, Names, Holds, FrameIn, FramesIn, Within, next_in}
use Rattle.reach_laws.proofs.Changes.{thread_within, added_within}

-- where a deed does something, the state that it leaves is within reach
abbrev pub WithinIn : State → Deed → Type 0
WithinIn before (does words mark state) = Within before state
WithinIn before other = ⊤

-- a thread at its next instruction
pub record Here (before : State) (r : Running) : Type 0 where
  pub start : Within before r.state
  -- no object was made yet
  pub same_size : length r.state.heap ≡ length before.heap
  pub frame : FrameIn before r.frame
  pub callers : FramesIn before r.callers

-- ---- words of deeds

pub in_bind : (before : State) {A : Type 0} (found : Option A) (next : A → Deed)
    → ((a : A) → found ≡ Some a → WithinIn before (next a)) → WithinIn before (found >>= next)
in_bind before None next each = tt
in_bind before (Some a) next each = each a refl

-- where something is known of what is given
pub in_given : (before : State) {A : Type 0} (P : A → Type 0) (found : Option A) (next : A → Deed) → IfSome found P
    → ((a : A) → P a → WithinIn before (next a)) → WithinIn before (found >>= next)
in_given before P None next given each = tt
in_given before P (Some a) next given each = each a given

pub in_test : (before : State) (test : Bool) (one other : Deed) → WithinIn before one → WithinIn before other
    → WithinIn before (cond test one other)
in_test before true one other p q = p
in_test before false one other p q = q

pub in_object : (before : State) (value : Value) (next : ℕ → Deed) → Names before value
    → ((id : ℕ) → MayReach before id → WithinIn before (next id)) → WithinIn before (on_object value next)
in_object before null next names each = tt
in_object before (reference id) next names each = each id names
in_object before (int n) next names each = tt
in_object before (long n) next names each = tt
in_object before half next names each = tt

-- the contents of an object in reach
pub in_contents : (before state : State) (within : Within before state) (id : ℕ) (next : Contents → Deed) → MayReach before id
    → ((contents : Contents) → Holds before (values_of contents) → WithinIn before (next contents))
    → WithinIn before (contents_at state.heap id >>= next)
in_contents before state within id next may each =
    in_bind before (contents_at state.heap id) next (λ contents is. each contents (within.objects id contents may is))

pub in_frames : (before : State) (r : Running) (frames : List Frame) (state : State) → FramesIn before frames → Within before state
    → Within before (with_frames r frames state)
in_frames before r frames state all within = thread_within before state within r.thread (λ (th : Thread). record th { frames = frames }) (λ th h. all)

module _ (before : State) (r : Running) (here : Here before r) where
  pub in_finishes : (words : ℕ) (mark : Bool) (state : State) (rest : List Value) → Within before state → Holds before rest
      → WithinIn before (finishes words mark r state rest)
  in_finishes words mark state rest within holds =
      in_test before (has_room r.body r.frame.stack rest) (does words mark (with_frames r (frame_after r rest ∷ r.callers) state)) wrong
      (in_frames before r (frame_after r rest ∷ r.callers) state (record { held = here.frame.held; locals = here.frame.locals; stack = holds }, here.callers) within) tt

  pub in_goes_on : (state : State) (rest : List Value) → Within before state → Holds before rest → WithinIn before (goes_on r state rest)
  in_goes_on state rest within holds = in_finishes 0 false state rest within holds

  -- it goes on in the state as it was
  pub goes_same : (rest : List Value) → Holds before rest → WithinIn before (goes_on r r.state rest)
  goes_same rest holds = in_goes_on r.state rest here.start holds

  pub in_allocates : (mark : Bool) (contents : Contents) (rest : List Value) → Holds before (values_of contents) → Holds before rest
      → WithinIn before (allocates mark r contents rest)
  in_allocates mark contents rest inside holds =
      in_finishes (words_of contents) mark (record r.state { heap = with_object contents r.state.heap }) (reference (length r.state.heap) ∷ rest)
      (added_within before r.state here.start contents inside) (next_in before r.state here.same_size, holds)

-- ---- operands

-- what was taken from operands, and what is left
pub record TakenIn (before : State) (taken : Taken) : Type 0 where
  pub value : Names before taken.value
  pub rest : Holds before taken.rest

pub taken_in : (before : State) (kind : ValueKind) (stack : List Value) → Holds before stack → IfSome (taken_of kind stack) (TakenIn before)
taken_in before of_int (int n ∷ rest) holds = record { value = tt; rest = holds.1 }
taken_in before of_long (half ∷ long n ∷ rest) holds = record { value = tt; rest = holds.1.1 }
taken_in before of_reference (null ∷ rest) holds = record { value = tt; rest = holds.1 }
taken_in before of_reference (reference id ∷ rest) holds = record { value = holds.0; rest = holds.1 }
taken_in before kind stack holds = tt
