-- Threads whose newest frame changes.
use Rattle.std.proofs.Common.{◌≡◌, ℕ, zero, suc, ◌<◌, false, List, [], ◌∷◌, ◌++◌, Option, Some, slice_get, length, option_map, option_and_then, refl, ap, sym, subst, ◌∙◌, arith}
use Rattle.std.specs.Prelude.{IsSomeAnd}
use Rattle.jv_model.specs.Instruction.{ValueKind}
use Rattle.machine_model.specs.Heap.{replace_at}
use Rattle.run_laws.proofs.Keeping.{slice_get-replace_same}
use Rattle.jv_values.specs.declared.value.Value.{Value}
use Rattle.jv_values.specs.Values.{value_of, places_of}
use Rattle.thread_frames.specs.Frames.{FrameState, newest, change_newest, with_pc, with_pushed, with_popped, words_of}
use Rattle.thread_frames.specs.Machine.{operands_of, value_on_top}
use Rattle.frame_stacks.specs.declared.thread.Thread.{Thread}
use Rattle.frame_stacks.specs.Threads.{Threads, IsOf, change_thread, with_frames, with_mark}
use Rattle.machine_threads.specs.Laws.{IsNewest, goes_to}
use Rattle.machine_threads.proofs.Going.{replaced_twice}
use Rattle.frame_operands.specs.Operands.{HasOne, HasTwo, HasThree, with_stack, leaves, operands_in_newest}
use Rattle.frame_operands.proofs.Tops.{one_value, on_top, left_without}

-- ---- one thread

replaced_same : {A : Type 0} (f g : A → A) (xs : List A) (t : ℕ) (a : A) → slice_get xs t ≡ Some a → f a ≡ g a
    → replace_at f xs t ≡ replace_at g xs t
replaced_same f g [] t a at same = refl
replaced_same f g (x ∷ xs) zero a at same =
    let is : x ≡ a = cc in (λ i. f (is i) ∷ xs) ∙ (λ i. same i ∷ xs) ∙ (λ i. g (sym is i) ∷ xs)
replaced_same f g (x ∷ xs) (suc t) a at same = ap (λ ys. x ∷ ys) (replaced_same f g xs t a at same)

-- what changes a thread in the same way
pub changed_same : (f g : Thread → Thread) (stacks : Threads) (t : ℕ) (frame : FrameState) (older : List FrameState)
    (newest_is : IsNewest stacks t frame older) → f newest_is.thread ≡ g newest_is.thread → change_thread t f stacks ≡ change_thread t g stacks
changed_same f g stacks t frame older newest_is same =
    ap (λ (threads : List Thread). record stacks { threads = threads })
    (replaced_same f g stacks.threads t newest_is.thread newest_is.there same)

-- one change and then another
pub changed_both : (f g : Thread → Thread) (stacks : Threads) (t : ℕ)
    → change_thread t g (change_thread t f stacks) ≡ change_thread t (λ thread. g (f thread)) stacks
changed_both f g stacks t =
    ap (λ (threads : List Thread). record stacks { threads = threads }) (sym (replaced_twice f g stacks.threads t))

-- ---- its newest frame

pub with_one : (stacks changed : Threads) (t : ℕ) (frame : FrameState) (older : List FrameState) (change : FrameState → FrameState)
    → IsNewest stacks t frame older → changed ≡ change_thread t (with_frames (change_newest change)) stacks
    → IsNewest changed t (change frame) older
with_one stacks changed t frame older change newest_is is = record {
  thread = with_frames (change_newest change) newest_is.thread;
  there = ap (λ (s : Threads). slice_get s.threads t) is
      ∙ slice_get-replace_same (with_frames (change_newest change)) stacks.threads t
      ∙ ap (option_map (with_frames (change_newest change))) newest_is.there;
  frames = ap (change_newest change) newest_is.frames;
}

pub of_newest : (stacks : Threads) (t : ℕ) (frame : FrameState) (older : List FrameState) (P : FrameState → Type 0) → IsNewest stacks t frame older
    → P frame → IsOf stacks t (λ thread. IsSomeAnd (newest thread.frames) P)
of_newest stacks t frame older P newest_is holds =
    subst (λ (o : Option Thread). IsSomeAnd o (λ (thread : Thread). IsSomeAnd (newest thread.frames) P)) (sym newest_is.there)
    (subst (λ (frames : List FrameState). IsSomeAnd (newest frames) P) (sym newest_is.frames) holds)

pub at_newest : (stacks : Threads) (t : ℕ) (frame : FrameState) (older : List FrameState) (P : FrameState → Type 0) → IsNewest stacks t frame older
    → IsOf stacks t (λ thread. IsSomeAnd (newest thread.frames) P) → P frame
at_newest stacks t frame older P newest_is holds =
    subst (λ (frames : List FrameState). IsSomeAnd (newest frames) P) newest_is.frames
    (subst (λ (o : Option Thread). IsSomeAnd o (λ (thread : Thread). IsSomeAnd (newest thread.frames) P)) newest_is.there holds)

pub has_frame : (stacks : Threads) (t : ℕ) (frame : FrameState) (older : List FrameState) → IsNewest stacks t frame older
    → IsOf stacks t (λ thread. 0 < length thread.frames)
has_frame stacks t frame older newest_is =
    subst (λ (o : Option Thread). IsSomeAnd o (λ (thread : Thread). 0 < length thread.frames)) (sym newest_is.there)
    (subst (λ (frames : List FrameState). 0 < length frames) (sym newest_is.frames) (omega arith))

-- the operands that are found there
pub its_operands : (stacks : Threads) (t : ℕ) (frame : FrameState) (older : List FrameState) (words : List Value) → IsNewest stacks t frame older
    → operands_in_newest (slice_get stacks.threads t) ≡ Some words → words ≡ frame.stack
its_operands stacks t frame older words newest_is is =
    let both : Some words ≡ Some frame.stack =
    sym is ∙ ap operands_in_newest newest_is.there
    ∙ ap (λ (frames : List FrameState). option_and_then (λ (f : FrameState). Some f.stack) (newest frames)) newest_is.frames in
    cc

-- ---- a value is taken

pub one_taken : (stacks changed : Threads) (t : ℕ) (kind : ValueKind) (has : HasOne stacks t kind) (value : Value)
    → IsOf stacks t (λ thread. IsSomeAnd (newest thread.frames) (λ frame. value_on_top (operands_of frame) ≡ Some (value_of value)))
    → changed ≡ change_thread t (with_frames (change_newest (with_popped (places_of value)))) stacks
    → changed ≡ leaves t has.below stacks
one_taken stacks changed t kind has value top is =
    is ∙ changed_same (with_frames (change_newest (with_popped (places_of value)))) (with_frames (change_newest (with_stack has.below)))
    stacks t has.frame has.older has.newest
    (ap (λ (frames : List FrameState). record has.newest.thread { frames = change_newest (with_popped (places_of value)) frames }) has.newest.frames
    ∙ ap (λ (words : List Value). record has.newest.thread { frames = record has.frame { stack = words } ∷ has.older }) without
    ∙ ap (λ (frames : List FrameState). record has.newest.thread { frames = change_newest (with_stack has.below) frames }) (sym has.newest.frames))
  where
    same : has.value ≡ value
    same =
        let found = at_newest stacks t has.frame has.older (λ (frame : FrameState). value_on_top (operands_of frame) ≡ Some (value_of value)) has.newest top in
        let both : Some (value_of has.value) ≡ Some (value_of value) = sym (on_top kind has.frame.stack has.below has.value has.top) ∙ found in
        one_value has.value value cc

    without : (with_popped (places_of value) has.frame).stack ≡ has.below
    without = left_without has.frame.stack has.below value (has.top.is ∙ ap (λ (v : Value). has.below ++ words_of v) same)

pub left_twice : (stacks : Threads) (t : ℕ) (between below : List Value) → leaves t below (leaves t between stacks) ≡ leaves t below stacks
left_twice stacks t between below =
    changed_both (with_frames (change_newest (with_stack between))) (with_frames (change_newest (with_stack below))) stacks t
    ∙ (λ i. change_thread t (λ (thread : Thread). record thread { frames = twice thread.frames i }) stacks)
  where
    twice : (frames : List FrameState) → change_newest (with_stack below) (change_newest (with_stack between) frames) ≡ change_newest (with_stack below) frames
    twice [] = refl
    twice (frame ∷ older) = refl

-- the one below the value on top, once that is taken
abbrev pub one_of_two : (stacks changed : Threads) (t : ℕ) (lower upper : ValueKind) (has : HasTwo stacks t lower upper)
    → changed ≡ leaves t has.between stacks → HasOne changed t lower
one_of_two stacks changed t lower upper has is = record {
  frame = with_stack has.between has.frame;
  older = has.older;
  newest = with_one stacks changed t has.frame has.older (with_stack has.between) has.newest is;
  value = has.first;
  below = has.below;
  top = has.next;
}

abbrev pub two_of_three : (stacks changed : Threads) (t : ℕ) (lower middle upper : ValueKind) (has : HasThree stacks t lower middle upper)
    → changed ≡ leaves t has.above stacks → HasTwo changed t lower middle
two_of_three stacks changed t lower middle upper has is = record {
  frame = with_stack has.above has.frame;
  older = has.older;
  newest = with_one stacks changed t has.frame has.older (with_stack has.above) has.newest is;
  second = has.second;
  between = has.between;
  top = has.next;
  first = has.first;
  below = has.below;
  next = has.last;
}

abbrev pub upper_one : {stacks : Threads} {t : ℕ} {lower upper : ValueKind} → HasTwo stacks t lower upper → HasOne stacks t upper
upper_one has =
    record { frame = has.frame; older = has.older; newest = has.newest; value = has.second; below = has.between; top = has.top }

abbrev pub uppermost : {stacks : Threads} {t : ℕ} {lower middle upper : ValueKind} → HasThree stacks t lower middle upper → HasOne stacks t upper
uppermost has =
    record { frame = has.frame; older = has.older; newest = has.newest; value = has.third; below = has.above; top = has.top }

-- ---- and the thread goes on

abbrev pub on : ℕ → Thread → Thread
on next thread = with_mark false (with_frames (change_newest (with_pc next)) thread)

-- with other operands
pub left_goes_on : (stacks changed : Threads) (t next : ℕ) (below words : List Value) → changed ≡ leaves t below stacks
    → change_thread t (goes_to next words false) changed ≡ change_thread t (goes_to next words false) stacks
left_goes_on stacks changed t next below words is =
    ap (change_thread t (goes_to next words false)) is
    ∙ changed_both (with_frames (change_newest (with_stack below))) (goes_to next words false) stacks t
    ∙ (λ i. change_thread t (λ (thread : Thread). record thread { frames = twice thread.frames i; mark = false }) stacks)
  where
    twice : (frames : List FrameState)
        → change_newest (λ (f : FrameState). record f { pc = next; stack = words }) (change_newest (with_stack below) frames)
        ≡ change_newest (λ (f : FrameState). record f { pc = next; stack = words }) frames
    twice [] = refl
    twice (frame ∷ older) = refl

pub goes_on : (stacks : Threads) (t next : ℕ) (frame : FrameState) (older : List FrameState) → IsNewest stacks t frame older
    → change_thread t (with_mark false) (change_thread t (with_frames (change_newest (with_pc next))) stacks)
    ≡ change_thread t (goes_to next frame.stack false) stacks
goes_on stacks t next frame older newest_is =
    changed_both (with_frames (change_newest (with_pc next))) (with_mark false) stacks t
    ∙ changed_same (on next) (goes_to next frame.stack false) stacks t frame older newest_is
    (ap (λ (frames : List FrameState). record newest_is.thread { frames = change_newest (with_pc next) frames; mark = false }) newest_is.frames
    ∙ ap (λ (frames : List FrameState). record newest_is.thread { frames = change_newest (λ (f : FrameState). record f { pc = next; stack = frame.stack }) frames; mark = false }) (sym newest_is.frames))

pub pushed_goes_on : (stacks changed : Threads) (t next : ℕ) (frame : FrameState) (older : List FrameState) (value : Value)
    → IsNewest stacks t frame older → changed ≡ change_thread t (with_frames (change_newest (with_pushed value))) stacks
    → change_thread t (goes_to next (frame.stack ++ words_of value) false) changed
    ≡ change_thread t (goes_to next (frame.stack ++ words_of value) false) stacks
pushed_goes_on stacks changed t next frame older value newest_is is =
    ap (change_thread t (goes_to next (frame.stack ++ words_of value) false)) is
    ∙ changed_both (with_frames (change_newest (with_pushed value))) (goes_to next (frame.stack ++ words_of value) false) stacks t
    ∙ (λ i. change_thread t (λ (thread : Thread). record thread { frames = twice thread.frames i; mark = false }) stacks)
  where
    twice : (frames : List FrameState)
        → change_newest (λ (f : FrameState). record f { pc = next; stack = frame.stack ++ words_of value }) (change_newest (with_pushed value) frames)
        ≡ change_newest (λ (f : FrameState). record f { pc = next; stack = frame.stack ++ words_of value }) frames
    twice [] = refl
    twice (frame ∷ older) = refl
