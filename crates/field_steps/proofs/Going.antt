-- A thread that goes on after a value was pushed or popped.
use Rattle.std.proofs.Common.{◌≡◌, ℕ, zero, suc, ◌<◌, false, List, [], ◌∷◌, ◌++◌, Option, Some, slice_get, length, option_map, option_and_then, refl, ap, sym, subst, ◌∙◌, arith}
use Rattle.std.specs.Prelude.{IsSomeAnd}
use Rattle.run_laws.proofs.Keeping.{slice_get-replace_same}
use Rattle.jv_types.specs.declared.number.MethodNo.{MethodNo}
use Rattle.machine_model.specs.Heap.{replace_at}
use Rattle.jv_values.specs.declared.value.Value.{Value}
use Rattle.jv_values.specs.Values.{places_of}
use Rattle.thread_frames.specs.Frames.{FrameState, newest, change_newest, with_pc, with_pushed, with_popped, words_of}
use Rattle.frame_stacks.specs.declared.thread.Thread.{Thread}
use Rattle.frame_stacks.specs.Threads.{Threads, IsOf, change_thread, with_frames, with_mark}
use Rattle.machine_threads.specs.Laws.{IsNewest, goes_to}
use Rattle.machine_parts.proofs.Operands.{left_below}
use Rattle.field_steps.specs.Fields.{method_in}

changed_twice : {A : Type 0} (f g k : A → A) (xs : List A) (t : ℕ) (a : A) → slice_get xs t ≡ Some a → g (f a) ≡ k a
    → replace_at g (replace_at f xs t) t ≡ replace_at k xs t
changed_twice f g k [] t a at same = refl
changed_twice f g k (x ∷ xs) zero a at same =
    let is : x ≡ a = cc in
    (λ i. g (f (is i)) ∷ xs) ∙ (λ i. same i ∷ xs) ∙ (λ i. k (sym is i) ∷ xs)
changed_twice f g k (x ∷ xs) (suc t) a at same = ap (λ ys. x ∷ ys) (changed_twice f g k xs t a at same)

abbrev pub on : ℕ → Thread → Thread
on next thread = with_mark false (with_frames (change_newest (with_pc next)) thread)

pub pushed_on : (stacks : Threads) (t next : ℕ) (frame : FrameState) (older : List FrameState) (value : Value) → IsNewest stacks t frame older
    → change_thread t (on next) (change_thread t (with_frames (change_newest (with_pushed value))) stacks)
    ≡ change_thread t (goes_to next (frame.stack ++ words_of value) false) stacks
pushed_on stacks t next frame older value newest =
    ap (λ (threads : List Thread). record stacks { threads = threads })
    (changed_twice (with_frames (change_newest (with_pushed value))) (on next) (goes_to next (frame.stack ++ words_of value) false)
    stacks.threads t newest.thread newest.there one)
  where
    one : on next (with_frames (change_newest (with_pushed value)) newest.thread)
        ≡ goes_to next (frame.stack ++ words_of value) false newest.thread
    one = ap (λ (frames : List FrameState). record newest.thread { frames = change_newest (with_pc next) (change_newest (with_pushed value) frames); mark = false }) newest.frames
        ∙ ap (λ (frames : List FrameState). record newest.thread { frames = change_newest (λ (f : FrameState). record f { pc = next; stack = frame.stack ++ words_of value }) frames; mark = false }) (sym newest.frames)

pub popped_on : (stacks : Threads) (t next : ℕ) (frame : FrameState) (older : List FrameState) (below : List Value) (value : Value)
    → IsNewest stacks t frame older → frame.stack ≡ below ++ words_of value
    → change_thread t (on next) (change_thread t (with_frames (change_newest (with_popped (places_of value)))) stacks)
    ≡ change_thread t (goes_to next below false) stacks
popped_on stacks t next frame older below value newest is =
    ap (λ (threads : List Thread). record stacks { threads = threads })
    (changed_twice (with_frames (change_newest (with_popped (places_of value)))) (on next) (goes_to next below false)
    stacks.threads t newest.thread newest.there one)
  where
    one : on next (with_frames (change_newest (with_popped (places_of value))) newest.thread) ≡ goes_to next below false newest.thread
    one = ap (λ (frames : List FrameState). record newest.thread { frames = change_newest (with_pc next) (change_newest (with_popped (places_of value)) frames); mark = false }) newest.frames
        ∙ ap (λ (words : List Value). record newest.thread { frames = record frame { pc = next; stack = words } ∷ older; mark = false }) (left_below below frame.stack value is)
        ∙ ap (λ (frames : List FrameState). record newest.thread { frames = change_newest (λ (f : FrameState). record f { pc = next; stack = below }) frames; mark = false }) (sym newest.frames)

-- ---- after an operand was popped

pub still_newest : (stacks : Threads) (t : ℕ) (frame : FrameState) (older : List FrameState) (change : FrameState → FrameState)
    → IsNewest stacks t frame older → IsNewest (change_thread t (with_frames (change_newest change)) stacks) t (change frame) older
still_newest stacks t frame older change newest_is = record {
  thread = with_frames (change_newest change) newest_is.thread;
  there = slice_get-replace_same (with_frames (change_newest change)) stacks.threads t
      ∙ ap (option_map (with_frames (change_newest change))) newest_is.there;
  frames = ap (change_newest change) newest_is.frames;
}

pub newest_after : (stacks changed : Threads) (t : ℕ) (frame : FrameState) (older : List FrameState) (change : FrameState → FrameState)
    → IsNewest stacks t frame older → changed ≡ change_thread t (with_frames (change_newest change)) stacks
    → IsNewest changed t (change frame) older
newest_after stacks changed t frame older change newest_is is =
    subst (λ (s : Threads). IsNewest s t (change frame) older) (sym is) (still_newest stacks t frame older change newest_is)

-- what was popped before it doesn't show
after_popped : (stacks : Threads) (t next count : ℕ) (frame : FrameState) (older : List FrameState) (words : List Value)
    → IsNewest stacks t frame older
    → change_thread t (goes_to next words false) (change_thread t (with_frames (change_newest (with_popped count))) stacks)
    ≡ change_thread t (goes_to next words false) stacks
after_popped stacks t next count frame older words newest_is =
    ap (λ (threads : List Thread). record stacks { threads = threads })
    (changed_twice (with_frames (change_newest (with_popped count))) (goes_to next words false) (goes_to next words false)
    stacks.threads t newest_is.thread newest_is.there one)
  where
    one : goes_to next words false (with_frames (change_newest (with_popped count)) newest_is.thread) ≡ goes_to next words false newest_is.thread
    one = ap (λ (frames : List FrameState). goes_to next words false (record newest_is.thread { frames = change_newest (with_popped count) frames })) newest_is.frames
        ∙ ap (λ (frames : List FrameState). goes_to next words false (record newest_is.thread { frames = frames })) (sym newest_is.frames)

-- a value is popped, and another pushed
pub pop_push_on : (stacks popped pushed went : Threads) (t next : ℕ) (frame : FrameState) (older : List FrameState) (below : List Value)
    (top value : Value) → IsNewest stacks t frame older → frame.stack ≡ below ++ words_of top
    → popped ≡ change_thread t (with_frames (change_newest (with_popped (places_of top)))) stacks
    → pushed ≡ change_thread t (with_frames (change_newest (with_pushed value))) popped
    → went ≡ change_thread t (on next) pushed
    → went ≡ change_thread t (goes_to next (below ++ words_of value) false) stacks
pop_push_on stacks popped pushed went t next frame older below top value newest_is is popped_is pushed_is went_is =
    went_is ∙ ap (change_thread t (on next)) pushed_is
    ∙ pushed_on popped t next (with_popped (places_of top) frame) older value
    (newest_after stacks popped t frame older (with_popped (places_of top)) newest_is popped_is)
    ∙ ap (λ (words : List Value). change_thread t (goes_to next (words ++ words_of value) false) popped) (left_below below frame.stack top is)
    ∙ ap (change_thread t (goes_to next (below ++ words_of value) false)) popped_is
    ∙ after_popped stacks t next (places_of top) frame older (below ++ words_of value) newest_is

-- a value is popped, and another below it
pub pop_pop_on : (stacks popped twice went : Threads) (t next : ℕ) (frame : FrameState) (older : List FrameState)
    (middle below : List Value) (top second : Value) → IsNewest stacks t frame older
    → frame.stack ≡ middle ++ words_of top → middle ≡ below ++ words_of second
    → popped ≡ change_thread t (with_frames (change_newest (with_popped (places_of top)))) stacks
    → twice ≡ change_thread t (with_frames (change_newest (with_popped (places_of second)))) popped
    → went ≡ change_thread t (on next) twice
    → went ≡ change_thread t (goes_to next below false) stacks
pop_pop_on stacks popped twice went t next frame older middle below top second newest_is is middle_is popped_is twice_is went_is =
    went_is ∙ ap (change_thread t (on next)) twice_is
    ∙ popped_on popped t next (with_popped (places_of top) frame) older below second
    (newest_after stacks popped t frame older (with_popped (places_of top)) newest_is popped_is)
    (left_below middle frame.stack top is ∙ middle_is)
    ∙ ap (change_thread t (goes_to next below false)) popped_is
    ∙ after_popped stacks t next (places_of top) frame older below newest_is

-- ---- the newest frame

pub its_method : (stacks : Threads) (t : ℕ) (frame : FrameState) (older : List FrameState) (method : MethodNo) → IsNewest stacks t frame older
    → method_in (slice_get stacks.threads t) ≡ Some method → frame.method ≡ method
its_method stacks t frame older method newest_is is =
    let both : Some frame.method ≡ Some method =
    sym (ap method_in newest_is.there
    ∙ ap (λ (frames : List FrameState). option_and_then (λ (f : FrameState). Some f.method) (newest frames)) newest_is.frames) ∙ is in
    cc

pub of_newest : (stacks : Threads) (t : ℕ) (frame : FrameState) (older : List FrameState) (P : FrameState → Type 0) → IsNewest stacks t frame older
    → P frame → IsOf stacks t (λ thread. IsSomeAnd (newest thread.frames) P)
of_newest stacks t frame older P newest_is holds =
    subst (λ (o : Option Thread). IsSomeAnd o (λ (thread : Thread). IsSomeAnd (newest thread.frames) P)) (sym newest_is.there)
    (subst (λ (frames : List FrameState). IsSomeAnd (newest frames) P) (sym newest_is.frames) holds)

pub has_frame : (stacks : Threads) (t : ℕ) (frame : FrameState) (older : List FrameState) → IsNewest stacks t frame older
    → IsOf stacks t (λ thread. 0 < length thread.frames)
has_frame stacks t frame older newest_is =
    subst (λ (o : Option Thread). IsSomeAnd o (λ (thread : Thread). 0 < length thread.frames)) (sym newest_is.there)
    (subst (λ (frames : List FrameState). 0 < length frames) (sym newest_is.frames) (omega arith))

pub still_has_frame : (stacks changed : Threads) (t : ℕ) (frame : FrameState) (older : List FrameState) (change : FrameState → FrameState)
    → IsNewest stacks t frame older → changed ≡ change_thread t (with_frames (change_newest change)) stacks
    → IsOf changed t (λ thread. 0 < length thread.frames)
still_has_frame stacks changed t frame older change newest_is is =
    has_frame changed t (change frame) older (newest_after stacks changed t frame older change newest_is is)

pub at_newest : (stacks : Threads) (t : ℕ) (frame : FrameState) (older : List FrameState) (P : FrameState → Type 0) → IsNewest stacks t frame older
    → IsOf stacks t (λ thread. IsSomeAnd (newest thread.frames) P) → P frame
at_newest stacks t frame older P newest_is holds =
    subst (λ (frames : List FrameState). IsSomeAnd (newest frames) P) newest_is.frames
    (subst (λ (o : Option Thread). IsSomeAnd o (λ (thread : Thread). IsSomeAnd (newest thread.frames) P)) newest_is.there holds)

pub one_method : (thread : Option Thread) (one other : MethodNo) → method_in thread ≡ Some one → method_in thread ≡ Some other → one ≡ other
one_method thread one other is also = let both : Some one ≡ Some other = sym is ∙ also in cc
