-- Unwinding frame by frame.
use Rattle.std.proofs.Common.{◌≡◌, ℕ, zero, suc, ◌<◌, Bool, true, false, ◌&&◌, if◌then◌else◌, List, [], ◌∷◌, ◌++◌, Option, Some, None, length, slice_get, option_map, unwrap_or, refl, sym, ap, ◌∙◌, arith}
use Rattle.std.specs.Prelude.{flat_map, option_to_list}
use Rattle.std.proofs.lemmas.List.{append-nil}
use Rattle.world_model.specs.World.{World}
use Rattle.machine_model.specs.Heap.{exited, is_owned_by, replace_at}
use Rattle.machine_model.specs.State.{Frame, Thread, State, with_thread}
use Rattle.machine_model.specs.Monitors.{change_monitor, monitor_of}
use Rattle.machine_model.specs.Throwing.{handler_of, is_synchronized_frame, owns, left_by, caught_at, match_option, frames_of}
use Rattle.vm_unwind.specs.Parts.{Catch, catch_in, ended_in, left_by_all, with_catch}
use Rattle.vm_unwind.specs.Steps.{with_frames, newest_ended, newest_left, frames_ended, newest_catches, thread_ended, UnwindingGoesByFrames}
use Rattle.vm_unwind.proofs.Unwinding.{unwinding_has_parts}

-- ---- threads

pub replaced_twice : {A : Type 0} (f g : A → A) (xs : List A) (n : ℕ)
    → replace_at f (replace_at g xs n) n ≡ replace_at (λ x. f (g x)) xs n
replaced_twice f g [] n = refl
replaced_twice f g (x ∷ xs) zero = refl
replaced_twice f g (x ∷ xs) (suc n) = ap (λ l. x ∷ l) (replaced_twice f g xs n)

pub replaced_there : {A : Type 0} (f : A → A) (xs : List A) (n : ℕ) (x : A) → slice_get xs n ≡ Some x
    → slice_get (replace_at f xs n) n ≡ Some (f x)
replaced_there f [] n x at = absurd cc
replaced_there f (y ∷ xs) zero x at = let same : y ≡ x = cc in ap (λ z. Some (f z)) same
replaced_there f (y ∷ xs) (suc n) x at = replaced_there f xs n x at

stands : {A : Type 0} (xs : List A) (n : ℕ) → n < length xs → (x : A) × (slice_get xs n ≡ Some x)
stands [] n inside = absurd (omega arith)
stands (x ∷ xs) zero inside = (x, refl)
stands (x ∷ xs) (suc n) inside = stands xs n (omega arith)

replaced_by_same : {A : Type 0} (f : A → A) (xs : List A) (n : ℕ) (x : A) → slice_get xs n ≡ Some x → f x ≡ x
    → replace_at f xs n ≡ xs
replaced_by_same f [] n x at same = refl
replaced_by_same f (y ∷ xs) zero x at same =
    let is : y ≡ x = cc in
    ap (λ z. z ∷ xs) (ap f is ∙ same ∙ sym is)
replaced_by_same f (y ∷ xs) (suc n) x at same = ap (λ l. y ∷ l) (replaced_by_same f xs n x at same)

frames_in : (t : ℕ) (state : State) (th : Thread) → slice_get state.threads t ≡ Some th → frames_of t state ≡ th.frames
frames_in t state th at =
    ap (λ (o : Option Thread). flat_map (λ (x : Thread). x.frames) (option_to_list o)) at ∙ append-nil th.frames

-- the frames that were set
set_frames : (t : ℕ) (frames : List Frame) (state : State) → t < length state.threads
    → frames_of t (with_frames t frames state) ≡ frames
set_frames t frames state inside =
    let there = stands state.threads t inside in
    frames_in t (with_frames t frames state) (record there.0 { frames = frames })
    (replaced_there (λ (th : Thread). record th { frames = frames }) state.threads t there.0 there.1)

changed_after : (t : ℕ) (change : Thread → Thread) (frames : List Frame) (state : State)
    → ((th : Thread) → change (record th { frames = frames }) ≡ change th)
    → with_thread t change (with_frames t frames state) ≡ with_thread t change state
changed_after t change frames state same =
    ap (λ l. record state { threads = l })
    (replaced_twice change (λ (th : Thread). record th { frames = frames }) state.threads t
    ∙ (λ i. replace_at (λ (th : Thread). same th i) state.threads t))

same_frames : (t : ℕ) (state : State) → t < length state.threads → with_frames t (frames_of t state) state ≡ state
same_frames t state inside =
    let there = stands state.threads t inside in
    ap (λ l. record state { threads = l })
    (replaced_by_same (λ (th : Thread). record th { frames = frames_of t state }) state.threads t there.0 there.1
    (ap (λ fs. record there.0 { frames = fs }) (frames_in t state there.0 there.1)))

-- ---- monitors

chosen : {A B : Type 0} (f : A → B) (b : Bool) (x y : A) → (if b then f x else f y) ≡ f (if b then x else y)
chosen f true x y = refl
chosen f false x y = refl

-- to leave a monitor has nothing to do with the frames of threads
left_with : (t : ℕ) (frame : Frame) (frames : List Frame) (state : State)
    → left_by t frame (with_frames t frames state) ≡ with_frames t frames (left_by t frame state)
left_with t frame frames state = by frame.held
  where
    by : (held : Option ℕ)
        → (if is_synchronized_frame state.world frame
        && unwrap_or (option_map (is_owned_by t) (monitor_of (with_frames t frames state) frame.method.class held)) false
        then change_monitor frame.method.class held exited (with_frames t frames state) else with_frames t frames state)
        ≡ with_frames t frames (if is_synchronized_frame state.world frame
        && unwrap_or (option_map (is_owned_by t) (monitor_of state frame.method.class held)) false
        then change_monitor frame.method.class held exited state else state)
    by None =
        chosen (with_frames t frames)
        (is_synchronized_frame state.world frame
        && unwrap_or (option_map (is_owned_by t) (monitor_of state frame.method.class None)) false)
        (change_monitor frame.method.class None exited state) state
    by (Some id) =
        chosen (with_frames t frames)
        (is_synchronized_frame state.world frame
        && unwrap_or (option_map (is_owned_by t) (monitor_of state frame.method.class (Some id))) false)
        (change_monitor frame.method.class (Some id) exited state) state

all_left_with : (t : ℕ) (fs frames : List Frame) (state : State)
    → left_by_all t fs (with_frames t frames state) ≡ with_frames t frames (left_by_all t fs state)
all_left_with t [] frames state = refl
all_left_with t (frame ∷ fs) frames state =
    ap (left_by_all t fs) (left_with t frame frames state) ∙ all_left_with t fs frames (left_by t frame state)

changed_threads : (class : List ℕ) (held : Option ℕ) (state : State)
    → (change_monitor class held exited state).threads ≡ state.threads
changed_threads class None state = refl
changed_threads class (Some id) state = refl

left_threads : (t : ℕ) (frame : Frame) (state : State) → (left_by t frame state).threads ≡ state.threads
left_threads t frame state = by (is_synchronized_frame state.world frame && owns t state frame)
  where
    by : (leaves : Bool)
        → (if leaves then change_monitor frame.method.class frame.held exited state else state).threads ≡ state.threads
    by true = changed_threads frame.method.class frame.held state
    by false = refl

all_left_threads : (t : ℕ) (fs : List Frame) (state : State) → (left_by_all t fs state).threads ≡ state.threads
all_left_threads t [] state = refl
all_left_threads t (frame ∷ fs) state =
    all_left_threads t fs (left_by t frame state) ∙ left_threads t frame state

-- ---- frames that end

pub length-replaced : {A : Type 0} (f : A → A) (xs : List A) (n : ℕ) → length (replace_at f xs n) ≡ length xs
length-replaced f [] n = refl
length-replaced f (x ∷ xs) zero = refl
length-replaced f (x ∷ xs) (suc n) = ap suc (length-replaced f xs n)

all_ended : (t : ℕ) (fs rest : List Frame) (state : State) → t < length state.threads → frames_of t state ≡ fs ++ rest
    → frames_ended t (length fs) state ≡ with_frames t rest (left_by_all t fs state)
unfolding frames_ended
all_ended t [] rest state inside are =
    sym (ap (λ frames. with_frames t frames state) (sym are) ∙ same_frames t state inside)
all_ended t (frame ∷ fs) rest state inside are =
    let left = left_by t frame state in
    let next = with_frames t (fs ++ rest) left in
    let here : t < length left.threads = omega (arith, inside, ap (λ l. length l) (left_threads t frame state)) in
    let there : t < length next.threads =
    omega (arith, here, length-replaced (λ (th : Thread). record th { frames = fs ++ rest }) left.threads t) in
    ap (λ frames. frames_ended t (length fs) (newest_ended t frames state)) are
    ∙ all_ended t fs rest next there (set_frames t (fs ++ rest) left here)
    ∙ ap (with_frames t rest) (all_left_with t fs (fs ++ rest) left)
    ∙ changed_after t (λ (th : Thread). record th { frames = rest }) (fs ++ rest) (left_by_all t fs left) (λ th. refl)

-- ---- the frame that catches

module _ (world : World) (class : List ℕ) where
  none_catches : (frames : List Frame) → catch_in world class frames ≡ None → ended_in world class frames ≡ frames
  none_catches [] is = refl
  none_catches (frame ∷ callers) is = by (handler_of world frame class) is (none_catches callers)
    where
      by : (o : Option ℕ)
          → match_option o (λ target. Some (let c : Catch = record { frame = frame; target = target; callers = callers } in c)) (λ none. catch_in world class callers) ≡ None
          → (catch_in world class callers ≡ None → ended_in world class callers ≡ callers)
          → match_option o (λ target. []) (λ none. frame ∷ ended_in world class callers) ≡ frame ∷ callers
      by (Some target) is rest = absurd cc
      by None is rest = ap (λ l. frame ∷ l) (rest is)

  split : (frames : List Frame) (c : Catch) → catch_in world class frames ≡ Some c
      → frames ≡ ended_in world class frames ++ c.frame ∷ c.callers
  split [] c is = absurd cc
  split (frame ∷ callers) c is = by (handler_of world frame class) is (split callers c)
    where
      by : (o : Option ℕ)
          → match_option o (λ target. Some (let c : Catch = record { frame = frame; target = target; callers = callers } in c)) (λ none. catch_in world class callers) ≡ Some c
          → (catch_in world class callers ≡ Some c → callers ≡ ended_in world class callers ++ c.frame ∷ c.callers)
          → frame ∷ callers
          ≡ match_option o (λ target. []) (λ none. frame ∷ ended_in world class callers) ++ c.frame ∷ c.callers
      by (Some target) is rest =
          let own : Catch = record { frame = frame; target = target; callers = callers } in
          ap (λ (o : Option Catch). (unwrap_or o own).frame ∷ (unwrap_or o own).callers) is
      by None is rest = ap (λ l. frame ∷ l) (rest is)

-- ---- the oldest frame

-- A list that isn't empty, and its last item.
record Ending {A : Type 0} (xs : List A) (count : ℕ) : Type 0 where
  front : List A
  last : A
  are : xs ≡ front ++ last ∷ []
  long : length front ≡ count

ending : {A : Type 0} (xs : List A) (count : ℕ) → length xs ≡ suc count → Ending xs count
ending [] count long = absurd (omega arith)
ending (x ∷ []) count long = record { front = []; last = x; are = refl; long = omega (arith, long) }
ending (x ∷ y ∷ xs) zero long = absurd (omega arith)
ending (x ∷ y ∷ xs) (suc count) long =
    let rest = ending (y ∷ xs) count (omega (arith, long)) in
    record { front = x ∷ rest.front; last = rest.last; are = ap (λ l. x ∷ l) rest.are; long = ap suc rest.long }

all_left-append : (t : ℕ) (fs : List Frame) (frame : Frame) (state : State)
    → left_by t frame (left_by_all t fs state) ≡ left_by_all t (fs ++ frame ∷ []) state
all_left-append t [] frame state = refl
all_left-append t (f ∷ fs) frame state = all_left-append t fs frame (left_by t f state)

pub unwinding_goes_by_frames : UnwindingGoesByFrames
unwinding_goes_by_frames t class id state inside = record {
  uncaught = λ count long none after made.
      let frames = frames_of t state in
      let all = none_catches state.world class frames none in
      let end = ending frames count long in
      let left = left_by_all t end.front state in
      let here : t < length left.threads = omega (arith, inside, ap (λ l. length l) (all_left_threads t end.front state)) in
      let is_after : after ≡ with_frames t (end.last ∷ []) left =
      made ∙ ap (λ n. frames_ended t n state) (sym end.long) ∙ all_ended t end.front (end.last ∷ []) state inside end.are in
      let its_frames : frames_of t after ≡ end.last ∷ [] =
      ap (frames_of t) is_after ∙ set_frames t (end.last ∷ []) left here in
      let is_left : newest_left t (frames_of t after) after ≡ with_frames t (end.last ∷ []) (left_by_all t frames state) =
      ap (λ fs. newest_left t fs after) its_frames ∙ ap (left_by t end.last) is_after
      ∙ left_with t end.last (end.last ∷ []) left
      ∙ ap (with_frames t (end.last ∷ []))
      (all_left-append t end.front end.last state ∙ ap (λ fs. left_by_all t fs state) (sym end.are)) in
      unwinding_has_parts t class id frames state
      ∙ ap (λ o. with_catch t class id o (left_by_all t (ended_in state.world class frames) state)) none
      ∙ ap (λ fs. thread_ended t class (left_by_all t fs state)) all
      ∙ sym (ap (thread_ended t class) is_left
      ∙ changed_after t (λ (th : Thread). record th { frames = []; to_start = []; thrown = Some class }) (end.last ∷ []) (left_by_all t frames state) (λ th. refl));
  caught = λ c is after made.
      let frames = frames_of t state in
      let ended = ended_in state.world class frames in
      let left = left_by_all t ended state in
      let here : t < length left.threads = omega (arith, inside, ap (λ l. length l) (all_left_threads t ended state)) in
      let is_after : after ≡ with_frames t (c.frame ∷ c.callers) left =
      made ∙ all_ended t ended (c.frame ∷ c.callers) state inside (split state.world class frames c is) in
      let its_frames : frames_of t after ≡ c.frame ∷ c.callers =
      ap (frames_of t) is_after ∙ set_frames t (c.frame ∷ c.callers) left here in
      unwinding_has_parts t class id frames state
      ∙ ap (λ o. with_catch t class id o left) is
      ∙ sym (ap (λ fs. newest_catches t id c.target fs after) its_frames
      ∙ ap (with_frames t (caught_at id c.frame c.target ∷ c.callers)) is_after
      ∙ changed_after t (λ (th : Thread). record th { frames = caught_at id c.frame c.target ∷ c.callers }) (c.frame ∷ c.callers) left (λ th. refl));
}
