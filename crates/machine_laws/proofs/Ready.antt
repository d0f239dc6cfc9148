-- A thread at an instruction of verified code, and what its deeds lead to.
use Rattle.std.proofs.Common.{◌≡◌, ℕ, List, ◌∷◌, ◌++◌, Option, Some, None, Bool, true, false, refl, ap, sym, subst, nat_le, slice_get, length, inl, ◌∙◌}
use Rattle.std.specs.Prelude.{IsTrue, bytes_eq}
use Rattle.std.specs.List.{list_all, list_any}
use Rattle.std.proofs.lemmas.Bool.{and_parts, or_left, or_right}
use lib.Pointwise.{pointwise}
use Rattle.jv_model.specs.Operand.{Operand}
use Rattle.jv_model.specs.Code.{Placed, Body}
use Rattle.jv_model.specs.Flow.{goes_on}
use Rattle.world_model.specs.World.{World}
use Rattle.typing_model.specs.VerificationType.{VerificationType, TypeFrame, words_of}
use Rattle.typing_model.specs.Environment.{Environment}
use Rattle.typing_model.specs.Transition.{pushed}
use Rattle.machine_model.specs.Value.{Value}
use Rattle.machine_model.specs.Heap.{Contents, contents_at, Monitor, replace_at}
use Rattle.machine_model.specs.ObjectTypes.{own_type}
use Rattle.machine_model.specs.State.{Frame, Thread, State, with_thread}
use Rattle.machine_model.specs.Deed.{throws, does, Running, frame_after, with_frames, has_room, finishes}
use Rattle.machine_model.specs.Monitors.{change_monitor}
use Rattle.machine_model.specs.TypedValues.{HeapTyping, heap_typing, is_of_type, are_of_types, fits_frame}
use Rattle.machine_model.specs.Conforms.{current_types, holds_rightly, frame_environment, frame_conforms, callers_conform, frames_conform, can_begin, thread_conforms, contents_conform, is_string, SharedConforms, ConformsWith}
use Rattle.frame_laws.specs.Worlds.{IsVerified}
use Rattle.frame_laws.proofs.Taking.{length_is_words}
use Rattle.frame_laws.proofs.Outcome.{both, pushed_is}
use Rattle.frame_laws.proofs.Standing.{Typed, At}
use Rattle.frame_laws.proofs.Onward.{arrives_next}
use Rattle.frame_laws.proofs.Growing.{all_pass, locals_kept, operands_kept, held_kept, callers_kept, thread_kept}
use Rattle.state_laws.proofs.Lists.{all_replaced}
use Rattle.machine_laws.specs.Runnable.{IsRunnable, thrown_names}
use Rattle.machine_laws.proofs.TypedStates.{IsTypedDeed}
use Rattle.machine_laws.proofs.Heaps.{Grows, and_next, allocated, allocation_grows, allocation_conforms, rewritten, rewriting_grows, rewriting_conforms, monitor_grows, monitor_conforms}

-- ---- a state with other threads

-- what threads share doesn't ask for the threads
pub shared_with : (state : State) (live : ℕ → Bool) (threads : List Thread) → SharedConforms state live
    → SharedConforms (record state { threads = threads }) live
shared_with state live threads shared = record {
  statics = shared.statics;
  static_fields = shared.static_fields;
  class_monitors = shared.class_monitors;
  literals = shared.literals;
  arguments = shared.arguments;
  objects = shared.objects;
}

-- a thread has other frames that conform
pub frames_set : (state : State) (live : ℕ → Bool) (t : ℕ) (frames : List Frame) → ConformsWith state live
    → frames_conform (heap_typing state live) frames ≡ true
    → ConformsWith (with_thread t (λ (th : Thread). record th { frames = frames }) state) live
frames_set state live t frames is fits = record {
  threads = all_replaced (thread_conforms (heap_typing state live)) (λ (th : Thread). record th { frames = frames })
      (λ th h. both (frames_conform (heap_typing state live) frames) (list_all (can_begin state.world) th.to_start) fits (and_parts (frames_conform (heap_typing state live) th.frames) (list_all (can_begin state.world) th.to_start) h).1)
      state.threads t is.threads;
  shared = shared_with state live (replace_at (λ (th : Thread). record th { frames = frames }) state.threads t) is.shared;
}

-- ---- states that a step leads to

-- The state conforms, in the same world; what was in use keeps its type.
pub record Follows (before : State) (live : ℕ → Bool) (after : State) (more : ℕ → Bool) : Type 0 where
  pub conforms : ConformsWith after more
  pub same_world : after.world ≡ before.world
  pub grows : Grows before after live more

pub itself : (state : State) (live : ℕ → Bool) → ConformsWith state live → Follows state live state live
itself state live is = record { conforms = is; same_world = refl; grows = λ id type h. h }

-- with one object more
pub allocating : (state : State) (live : ℕ → Bool) (contents : Contents) → ConformsWith state live
    → contents_conform (heap_typing (allocated state live contents) (and_next state live)) contents ≡ true
    → Follows state live (allocated state live contents) (and_next state live)
allocating state live contents is conforms = record {
  conforms = record {
    threads = all_pass (thread_conforms (heap_typing state live)) (thread_conforms (heap_typing (allocated state live contents) (and_next state live)))
        (λ th h. thread_kept state.world (heap_typing state live).type_at (heap_typing (allocated state live contents) (and_next state live)).type_at (allocation_grows state live contents) th h) state.threads is.threads;
    shared = allocation_conforms state live contents is.shared conforms;
  };
  same_world = refl;
  grows = allocation_grows state live contents;
}

-- with other contents of an object, of the same type
pub rewriting : (state : State) (live : ℕ → Bool) (id : ℕ) (old contents : Contents)
    (there : contents_at state.heap id ≡ Some old) (same_type : own_type contents ≡ own_type old) → ConformsWith state live
    → ((units : List ℕ) → is_string units old ≡ false)
    → contents_conform (heap_typing (rewritten state live id old contents there same_type) live) contents ≡ true
    → Follows state live (rewritten state live id old contents there same_type) live
rewriting state live id old contents there same_type is no_string conforms = record {
  conforms = record {
    threads = all_pass (thread_conforms (heap_typing state live)) (thread_conforms (heap_typing (rewritten state live id old contents there same_type) live))
        (λ th h. thread_kept state.world (heap_typing state live).type_at (heap_typing (rewritten state live id old contents there same_type) live).type_at (rewriting_grows state live id old contents there same_type) th h) state.threads is.threads;
    shared = rewriting_conforms state live id old contents there same_type is.shared no_string conforms;
  };
  same_world = refl;
  grows = rewriting_grows state live id old contents there same_type;
}

-- with another owner of a monitor
pub monitoring : (class : List ℕ) (held : Option ℕ) (change : Monitor → Monitor) (state : State) (live : ℕ → Bool)
    → ConformsWith state live → Follows state live (change_monitor class held change state) live
monitoring class (Some id) change state live is = record {
  conforms = record {
    threads = all_pass (thread_conforms (heap_typing state live)) (thread_conforms (heap_typing (change_monitor class (Some id) change state) live))
        (λ th h. thread_kept state.world (heap_typing state live).type_at (heap_typing (change_monitor class (Some id) change state) live).type_at (monitor_grows class (Some id) change state live) th h) state.threads is.threads;
    shared = monitor_conforms class (Some id) change state live is.shared;
  };
  same_world = refl;
  grows = monitor_grows class (Some id) change state live;
}
monitoring class None change state live is = record {
  conforms = record { threads = is.threads; shared = monitor_conforms class None change state live is.shared };
  same_world = refl;
  grows = monitor_grows class None change state live;
}

-- ---- a thread at an instruction

pub record Ready (r : Running) (live : ℕ → Bool) : Type 0 where
  pub runnable : IsRunnable r.state.world
  pub conforms : ConformsWith r.state live
  pub thread : Thread
  pub is_thread : slice_get r.state.threads r.thread ≡ Some thread
  pub are_frames : thread.frames ≡ r.frame ∷ r.callers
  pub e : Environment
  pub before : TypeFrame
  pub is_environment : frame_environment r.state.world r.frame ≡ Some e
  pub is_before : current_types e r.frame.pc ≡ Some before
  pub typed : Typed r.state.world e
  pub fits : fits_frame (heap_typing r.state live) e r.frame before ≡ true
  pub held : holds_rightly (heap_typing r.state live) e.method r.frame.held ≡ true
  pub at : At e r.frame.pc before
  pub same_body : r.body ≡ e.body
  pub same_placed : r.placed ≡ at.placed
  pub callers : callers_conform (heap_typing r.state live) r.frame.method.descriptor r.callers ≡ true

module _ (r : Running) (live : ℕ → Bool) (ready : Ready r live) where
  -- a throw of a class of which the machine throws objects
  pub throws_rightly : (name : List ℕ) (native : Bool) → IsTrue (list_any (bytes_eq name) thrown_names)
      → IsTypedDeed r.state.world (throws name native)
  throws_rightly name native h = ready.runnable.throwables name h

  pub locals_fit : pointwise (is_of_type (heap_typing r.state live) ready.e) ready.before.locals r.frame.locals ≡ true
  locals_fit = (and_parts (pointwise (is_of_type (heap_typing r.state live) ready.e) ready.before.locals r.frame.locals) (are_of_types (heap_typing r.state live) ready.e ready.before.stack r.frame.stack) ready.fits).0

  pub operands_fit : are_of_types (heap_typing r.state live) ready.e ready.before.stack r.frame.stack ≡ true
  operands_fit = (and_parts (pointwise (is_of_type (heap_typing r.state live) ready.e) ready.before.locals r.frame.locals) (are_of_types (heap_typing r.state live) ready.e ready.before.stack r.frame.stack) ready.fits).1

  module _ (after : State) (more : ℕ → Bool) (follows : Follows r.state live after more) where
    -- what is in use then, in the world as it was
    abbrev then_typing : HeapTyping
    then_typing = record { world = r.state.world; type_at = (heap_typing after more).type_at }

    abbrev InThen : (HeapTyping → Type 0) → Type 0
    InThen P = P then_typing → P (heap_typing after more)

    to_then : (P : HeapTyping → Type 0) → InThen P
    to_then P h = subst (λ (w : World). P (record { world = w; type_at = (heap_typing after more).type_at })) (sym follows.same_world) h

    pub locals_then : pointwise (is_of_type (heap_typing after more) ready.e) ready.before.locals r.frame.locals ≡ true
    locals_then = to_then (λ h. pointwise (is_of_type h ready.e) ready.before.locals r.frame.locals ≡ true)
        (locals_kept r.state.world (heap_typing r.state live).type_at (heap_typing after more).type_at follows.grows ready.e ready.before.locals r.frame.locals locals_fit)

    pub operands_then : (types : List VerificationType) (values : List Value)
        → are_of_types (heap_typing r.state live) ready.e types values ≡ true
        → are_of_types (heap_typing after more) ready.e types values ≡ true
    operands_then types values f = to_then (λ h. are_of_types h ready.e types values ≡ true)
        (operands_kept r.state.world (heap_typing r.state live).type_at (heap_typing after more).type_at follows.grows ready.e types values f)

    pub held_then : holds_rightly (heap_typing after more) ready.e.method r.frame.held ≡ true
    held_then = to_then (λ h. holds_rightly h ready.e.method r.frame.held ≡ true)
        (held_kept r.state.world (heap_typing r.state live).type_at (heap_typing after more).type_at follows.grows ready.e.method r.frame.held ready.held)

    pub callers_then : callers_conform (heap_typing after more) r.frame.method.descriptor r.callers ≡ true
    callers_then = to_then (λ h. callers_conform h r.frame.method.descriptor r.callers ≡ true)
        (callers_kept r.state.world (heap_typing r.state live).type_at (heap_typing after more).type_at follows.grows r.frame.method.descriptor r.callers ready.callers)

    -- the current frame goes on behind its instruction with these operands
    pub goes_rightly : (words : ℕ) (mark : Bool) (rest : List Value) → goes_on ready.at.placed.instruction ≡ true
        → fits_frame (heap_typing after more) ready.e (frame_after r rest) ready.at.applies.after ≡ true
        → IsTypedDeed r.state.world (does words mark (with_frames r (frame_after r rest ∷ r.callers) after))
    goes_rightly words mark rest on fits = record {
      live = more;
      is = frames_set after more r.thread (frame_after r rest ∷ r.callers) follows.conforms
          (both (frame_conforms (heap_typing after more) (λ e. current_types e r.placed.next) (frame_after r rest)) (callers_conform (heap_typing after more) r.frame.method.descriptor r.callers)
          (arrives_next (heap_typing after more) (subst (λ (w : World). IsVerified w) (sym follows.same_world) ready.runnable.verified) r.frame (frame_after r rest) ready.e
          (subst (λ (w : World). Typed w ready.e) (sym follows.same_world) ready.typed) ready.before ready.at
          (ap (λ (w : World). frame_environment w r.frame) follows.same_world ∙ ready.is_environment)
          (inl (ap (λ (p : Placed Operand). p.next) ready.same_placed, on)) fits held_then)
          callers_then);
    }

    -- where they have room
    pub finishes_rightly : (words : ℕ) (mark : Bool) (rest : List Value) → goes_on ready.at.placed.instruction ≡ true
        → fits_frame (heap_typing after more) ready.e (frame_after r rest) ready.at.applies.after ≡ true
        → has_room r.body r.frame.stack rest ≡ true
        → IsTypedDeed r.state.world (finishes words mark r after rest)
    finishes_rightly words mark rest on fits room = rw room (goes_rightly words mark rest on fits)

    -- operands of types that were pushed have room
    pub pushes_rightly : (words : ℕ) (mark : Bool) (types below : List VerificationType) (rest : List Value)
        → goes_on ready.at.placed.instruction ≡ true
        → pushed ready.e types (record ready.before { stack = below }) ≡ Some ready.at.applies.after
        → are_of_types (heap_typing after more) ready.e (types ++ below) rest ≡ true
        → IsTypedDeed r.state.world (finishes words mark r after rest)
    pushes_rightly words mark types below rest on h fit =
        let p = pushed_is ready.e types (record ready.before { stack = below }) ready.at.applies.after h in
        finishes_rightly words mark rest on
        (subst (λ (a : TypeFrame). fits_frame (heap_typing after more) ready.e (frame_after r rest) a ≡ true) p.1
        (both (pointwise (is_of_type (heap_typing after more) ready.e) ready.before.locals r.frame.locals) (are_of_types (heap_typing after more) ready.e (types ++ below) rest) locals_then fit))
        (or_left (nat_le (length rest) r.body.max_stack) (nat_le (length rest) (length r.frame.stack))
        (ap (λ (n : ℕ). nat_le n r.body.max_stack) (length_is_words (heap_typing after more) ready.e (types ++ below) rest fit)
        ∙ (ap (λ (b : Body Operand). nat_le (words_of (types ++ below)) b.max_stack) ready.same_body ∙ p.0)))

    -- operands that are left have room
    pub pops_rightly : (words : ℕ) (mark : Bool) (below : List VerificationType) (rest : List Value)
        → goes_on ready.at.placed.instruction ≡ true
        → record ready.before { stack = below } ≡ ready.at.applies.after
        → are_of_types (heap_typing after more) ready.e below rest ≡ true
        → nat_le (length rest) (length r.frame.stack) ≡ true
        → IsTypedDeed r.state.world (finishes words mark r after rest)
    pops_rightly words mark below rest on h fit fewer =
        finishes_rightly words mark rest on
        (subst (λ (a : TypeFrame). fits_frame (heap_typing after more) ready.e (frame_after r rest) a ≡ true) h
        (both (pointwise (is_of_type (heap_typing after more) ready.e) ready.before.locals r.frame.locals) (are_of_types (heap_typing after more) ready.e below rest) locals_then fit))
        (or_right (nat_le (length rest) r.body.max_stack) (nat_le (length rest) (length r.frame.stack)) fewer)
