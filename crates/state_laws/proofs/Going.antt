-- A thread at its next instruction in a state that is well kept, and what the words of deeds leave.
use Rattle.std.proofs.Common.{◌≡◌, ℕ, suc, ◌+◌, Bool, true, false, cond, List, ◌∷◌, length, Option, Some, None, refl, sym, ap, subst, ◌∙◌, arith, map}
use Rattle.std.specs.Prelude.{slice_get, ◌&&◌, ◌==◌, option_and_then, nat_le, nat_lt, is_none, sum}
use Rattle.std.proofs.lemmas.Bool.{and_parts, le-leb, leb-true, lt-ltb, ne_eqb}
use Rattle.std.proofs.lemmas.Option.{slice_get_within}
use Rattle.jv_model.specs.Limits.{most_frames, most_stack_words, most_output_bytes}
use Rattle.jv_model.specs.Operand.{MemberReference}
use Rattle.world_model.specs.World.{World, Method}
use Rattle.world_model.specs.LookUp.{Found}
use Rattle.machine_model.specs.Value.{Value, int, long, half, null, reference}
use Rattle.machine_model.specs.Heap.{Contents, Monitor, words_of, with_object, with_contents, contents_at, entered, exited}
use Rattle.machine_model.specs.State.{Frame, Thread, Static, State, has_ended}
use Rattle.machine_model.specs.FieldSteps.{with_field, with_field_at}
use Rattle.machine_model.specs.Monitors.{is_synchronized, change_monitor, held_by}
use Rattle.machine_model.specs.Throwing.{is_synchronized_frame, owns, left_by}
use Rattle.machine_model.specs.CallSteps.{frame_words, entered_by}
use Rattle.machine_model.specs.Strings.{with_interned, interned_string}
use Rattle.machine_model.specs.Deed.{Deed, does, wrong, Running, ◌>>=◌, with_frames, frame_after, has_room, finishes, goes_on, allocates, on_object}
use Rattle.machine_model.specs.WellKept.{frames_fit, ended_rightly, owned_rightly, WellKept}
use Rattle.frame_laws.proofs.Outcome.{both, map_is, all_of}
use Rattle.state_laws.specs.Laws.{FramesFit, KeptIn}
use Rattle.state_laws.proofs.Changes.{rest_kept, contents_kept, added_kept, interned_kept, monitor_kept, thread_kept, sum_first, entered_rightly, exited_rightly}

-- ---- a state in the middle of a step

-- It is well kept, in the same world, with the thread that steps as it was.
pub record Mid (world : World) (t : ℕ) (th : Thread) (state : State) : Type 0 where
  pub kept : WellKept state
  pub same_world : state.world ≡ world
  pub at : slice_get state.threads t ≡ Some th

-- a thread is one of the threads
pub is_within : (world : World) (t : ℕ) (th : Thread) (state : State) → Mid world t th state → nat_lt t (length state.threads) ≡ true
is_within world t th state mid = lt-ltb t (length state.threads) (slice_get_within state.threads t th mid.at)

module _ (world : World) (t : ℕ) (th : Thread) (state : State) (mid : Mid world t th state) where
  pub mid_contents : (id : ℕ) (contents : Contents) → Mid world t th (record state { heap = with_contents id contents state.heap })
  mid_contents id contents = record { kept = contents_kept state id contents mid.kept; same_world = mid.same_world; at = mid.at }

  pub mid_added : (contents : Contents) → Mid world t th (record state { heap = with_object contents state.heap })
  mid_added contents = record { kept = added_kept state contents mid.kept; same_world = mid.same_world; at = mid.at }

  pub mid_static : (statics : List Static) → Mid world t th (record state { statics = statics })
  mid_static statics = record {
    kept = rest_kept state state.heap statics state.class_monitors state.interned state.output state.requests mid.kept mid.kept.object_monitors mid.kept.class_monitors mid.kept.output mid.kept.literals;
    same_world = mid.same_world;
    at = mid.at;
  }

  pub mid_interned : (units : List ℕ) → interned_string units state ≡ None → Mid world t th (with_interned units state)
  mid_interned units none = record { kept = interned_kept state units none mid.kept; same_world = mid.same_world; at = mid.at }

  pub mid_output : (output : List ℕ) → nat_le (length output) most_output_bytes ≡ true
      → Mid world t th (record state { output = output })
  mid_output output few = record {
    kept = rest_kept state state.heap state.statics state.class_monitors state.interned output state.requests mid.kept mid.kept.object_monitors mid.kept.class_monitors few mid.kept.literals;
    same_world = mid.same_world;
    at = mid.at;
  }

  pub mid_request : Mid world t th (record state { requests = state.requests + 1 })
  mid_request = record {
    kept = rest_kept state state.heap state.statics state.class_monitors state.interned state.output (state.requests + 1) mid.kept mid.kept.object_monitors mid.kept.class_monitors mid.kept.output mid.kept.literals;
    same_world = mid.same_world;
    at = mid.at;
  }

  pub mid_monitor : (class : List ℕ) (held : Option ℕ) (change : Monitor → Monitor)
      → ((m : Monitor) → owned_rightly (length state.threads) m ≡ true → owned_rightly (length state.threads) (change m) ≡ true)
      → Mid world t th (change_monitor class held change state)
  mid_monitor class (Some id) change each =
      record { kept = monitor_kept state class (Some id) change each mid.kept; same_world = mid.same_world; at = mid.at }
  mid_monitor class None change each =
      record { kept = monitor_kept state class None change each mid.kept; same_world = mid.same_world; at = mid.at }

  pub mid_entered : (u : ℕ) (found : Found Method) (receiver : Option ℕ) → nat_lt u (length state.threads) ≡ true
      → Mid world t th (entered_by u found receiver state)
  mid_entered u found receiver within = go (is_synchronized found.member)
    where
      go : (b : Bool) → Mid world t th (cond b (change_monitor found.class (held_by found.member receiver) (entered u) state) state)
      go true = mid_monitor found.class (held_by found.member receiver) (entered u) (entered_rightly (length state.threads) u within)
      go false = mid

  pub mid_left : (u : ℕ) (frame : Frame) → Mid world t th (left_by u frame state)
  mid_left u frame = go (is_synchronized_frame state.world frame && owns u state frame)
    where
      go : (b : Bool) → Mid world t th (cond b (change_monitor frame.method.class frame.held exited state) state)
      go true = mid_monitor frame.method.class frame.held exited (exited_rightly (length state.threads))
      go false = mid

  pub mid_field : (id : ℕ) (field : MemberReference) (value : Value) (after : State) → with_field_at state id field value ≡ Some after
      → Mid world t th after
  mid_field id field value after is =
      let c = map_is (λ (contents : Contents). record state { heap = with_contents id contents state.heap }) (option_and_then (with_field state.world field value) (contents_at state.heap id)) after is in
      subst (Mid world t th) c.2 (mid_contents id c.0)

-- ---- frames of the thread

-- a thread with a frame was ended by no throwable
pub alive_thrown : (th : Thread) (frame : Frame) (callers : List Frame) → th.frames ≡ frame ∷ callers → ended_rightly th ≡ true
    → is_none th.thrown ≡ true
alive_thrown th frame callers are h =
    let alive : has_ended th ≡ false = ap (λ (fs : List Frame). length fs == 0) are ∙ ne_eqb (suc (length callers)) 0 (λ same. omega arith) in
    sym (ap (λ (b : Bool). cond b (length th.to_start == 0) (is_none th.thrown)) alive) ∙ h

pub alive_rightly : (th : Thread) (frame : Frame) (callers : List Frame) → th.frames ≡ frame ∷ callers → is_none th.thrown ≡ true
    → ended_rightly th ≡ true
alive_rightly th frame callers are h =
    let alive : has_ended th ≡ false = ap (λ (fs : List Frame). length fs == 0) are ∙ ne_eqb (suc (length callers)) 0 (λ same. omega arith) in
    ap (λ (b : Bool). cond b (length th.to_start == 0) (is_none th.thrown)) alive ∙ h

-- the callers fit by themselves
pub callers_fit : (world : World) (frame : Frame) (callers : List Frame) → frames_fit world (frame ∷ callers) ≡ true
    → frames_fit world callers ≡ true
callers_fit world frame callers h =
    let p = and_parts (nat_le (length (frame ∷ callers)) most_frames) (nat_le (sum (map (frame_words world) (frame ∷ callers))) most_stack_words) h in
    let few = leb-true (suc (length callers)) most_frames p.0 in
    let words = leb-true (sum (map (frame_words world) (frame ∷ callers))) most_stack_words p.1 in
    let first = sum_first (frame_words world frame) (map (frame_words world) callers) in
    both (nat_le (length callers) most_frames) (nat_le (sum (map (frame_words world) callers)) most_stack_words)
    (le-leb (length callers) most_frames (omega arith)) (le-leb (sum (map (frame_words world) callers)) most_stack_words (omega arith))

-- A thread at its next instruction, in a state that is well kept.
pub record Here (r : Running) : Type 0 where
  pub small : FramesFit r.state.world
  pub th : Thread
  pub are_frames : th.frames ≡ r.frame ∷ r.callers
  pub start : Mid r.state.world r.thread th r.state

pub same : (r : Running) (here : Here r) → Mid r.state.world r.thread here.th r.state
same r here = here.start

module _ (r : Running) (here : Here r) where
  pub fits_now : frames_fit r.state.world (r.frame ∷ r.callers) ≡ true
  fits_now = sym (ap (frames_fit r.state.world) here.are_frames)
      ∙ all_of (λ (th : Thread). frames_fit r.state.world th.frames) r.state.threads r.thread here.th here.start.kept.frames here.start.at

  pub none_thrown : is_none here.th.thrown ≡ true
  none_thrown = alive_thrown here.th r.frame r.callers here.are_frames (all_of ended_rightly r.state.threads r.thread here.th here.start.kept.ended here.start.at)

  -- it has other frames, at least one
  pub frames_kept : (frame : Frame) (callers : List Frame) (state : State) → Mid r.state.world r.thread here.th state
      → frames_fit r.state.world (frame ∷ callers) ≡ true → WellKept (with_frames r (frame ∷ callers) state)
  frames_kept frame callers state mid fit =
      thread_kept state r.thread (λ (th : Thread). record th { frames = frame ∷ callers }) here.th mid.at
      (ap (λ (w : World). frames_fit w (frame ∷ callers)) mid.same_world ∙ fit)
      (alive_rightly (record here.th { frames = frame ∷ callers }) frame callers refl none_thrown) mid.kept

  -- it goes on in the same frames
  pub step_kept : (pc : ℕ) (locals stack : List Value) (state : State) → Mid r.state.world r.thread here.th state
      → WellKept (with_frames r (record r.frame { pc = pc; locals = locals; stack = stack } ∷ r.callers) state)
  step_kept pc locals stack state mid = frames_kept (record r.frame { pc = pc; locals = locals; stack = stack }) r.callers state mid fits_now

-- ---- words of deeds

pub in_bind : {A : Type 0} (found : Option A) (next : A → Deed) → ((a : A) → KeptIn (next a)) → KeptIn (found >>= next)
in_bind None next each = tt
in_bind (Some a) next each = each a

pub in_bind_is : {A : Type 0} (found : Option A) (next : A → Deed) → ((a : A) → found ≡ Some a → KeptIn (next a))
    → KeptIn (found >>= next)
in_bind_is None next each = tt
in_bind_is (Some a) next each = each a refl

pub in_test : (test : Bool) (one other : Deed) → KeptIn one → KeptIn other → KeptIn (cond test one other)
in_test true one other p q = p
in_test false one other p q = q

pub in_test_is : (test : Bool) (one other : Deed) → (test ≡ true → KeptIn one) → (test ≡ false → KeptIn other)
    → KeptIn (cond test one other)
in_test_is true one other p q = p refl
in_test_is false one other p q = q refl

pub in_object : (value : Value) (next : ℕ → Deed) → ((id : ℕ) → KeptIn (next id)) → KeptIn (on_object value next)
in_object null next each = tt
in_object (reference id) next each = each id
in_object (int n) next each = tt
in_object (long n) next each = tt
in_object half next each = tt

pub in_finishes : (r : Running) (here : Here r) (words : ℕ) (mark : Bool) (state : State) (rest : List Value)
    → Mid r.state.world r.thread here.th state → KeptIn (finishes words mark r state rest)
in_finishes r here words mark state rest mid =
    in_test (has_room r.body r.frame.stack rest) (does words mark (with_frames r (frame_after r rest ∷ r.callers) state)) wrong
    (step_kept r here r.placed.next r.frame.locals rest state mid) tt

pub in_goes_on : (r : Running) (here : Here r) (state : State) (rest : List Value) → Mid r.state.world r.thread here.th state
    → KeptIn (goes_on r state rest)
in_goes_on r here state rest mid = in_finishes r here 0 false state rest mid

pub in_allocates : (r : Running) (here : Here r) (mark : Bool) (contents : Contents) (rest : List Value)
    → KeptIn (allocates mark r contents rest)
in_allocates r here mark contents rest =
    in_finishes r here (words_of contents) mark (record r.state { heap = with_object contents r.state.heap }) (reference (length r.state.heap) ∷ rest)
    (mid_added r.state.world r.thread here.th r.state here.start contents)
