-- One change of a thread after the other.
use Rattle.std.proofs.Common.{◌≡◌, ℕ, ◌+◌, ◌<◌, ◌≤◌, List, [], ◌∷◌, Option, Some, None, length, slice_get, refl, sym, ap, subst, ◌∙◌, arith, drop}
use Rattle.std.specs.Prelude.{IsSomeAnd}
use Rattle.std.proofs.lemmas.Option.{slice_get_within}
use Rattle.machine_model.specs.Heap.{replace_at}
use Rattle.jv_types.specs.declared.number.ClassNo.{ClassNo}
use Rattle.jv_values.specs.declared.value.Value.TheVariants.{Ref}
use Rattle.jv_values.specs.Values.{places_of}
use Rattle.thread_frames.specs.Frames.{FrameState, newest, change_newest, with_pc, with_empty_stack, with_pushed}
use Rattle.frame_stacks.specs.declared.thread.Thread.{Thread}
use Rattle.frame_stacks.specs.Threads.{Threads, IsOf, change_thread, with_frames, with_starts, finished}
use Rattle.vm_unwind.specs.Outcome.{with_caught, ended_by}
use Rattle.vm_unwind.proofs.Stepwise.{replaced_twice, replaced_there, length-replaced}

pub changed_twice : (t : ℕ) (f g : Thread → Thread) (all : Threads)
    → change_thread t f (change_thread t g all) ≡ change_thread t (λ thread. f (g thread)) all
changed_twice t f g all = ap (λ l. record all { threads = l }) (replaced_twice f g all.threads t)

pub still_there : (t : ℕ) (change : Thread → Thread) (all after : Threads) → after ≡ change_thread t change all
    → t < length all.threads → t < length after.threads
still_there t change all after is inside =
    omega (arith, inside, ap (λ (a : Threads). length a.threads) is, length-replaced change all.threads t)

-- what holds of the thread that was changed
pub changed_of : (P : Thread → Type 0) (t : ℕ) (change : Thread → Thread) (all : Threads)
    → IsOf all t (λ thread. P (change thread)) → IsOf (change_thread t change all) t P
changed_of P t change all is = by (slice_get all.threads t) refl is
  where
    by : (o : Option Thread) → slice_get all.threads t ≡ o → IsSomeAnd o (λ thread. P (change thread))
        → IsSomeAnd (slice_get (replace_at change all.threads t) t) P
    by None at is = absurd is
    by (Some thread) at is = rw (replaced_there change all.threads t thread at) is

weaker : (P Q : Thread → Type 0) (all : Threads) (t : ℕ) → ((thread : Thread) → P thread → Q thread) → IsOf all t P → IsOf all t Q
weaker P Q all t from is = by (slice_get all.threads t) is
  where
    by : (o : Option Thread) → IsSomeAnd o P → IsSomeAnd o Q
    by None is = absurd is
    by (Some thread) is = from thread is

-- the newest of these frames has room for an operand
abbrev HasRoomFor : List FrameState → Type 0
HasRoomFor frames = IsSomeAnd (newest frames) (λ (frame : FrameState). 0 < frame.max_stack)

some_there : (frames : List FrameState) → HasRoomFor frames → 0 < length frames
some_there [] room = absurd room
some_there (frame ∷ older) room = omega arith

pub some_frame : (all : Threads) (t : ℕ) → IsOf all t (λ (thread : Thread). HasRoomFor thread.frames)
    → IsOf all t (λ (thread : Thread). 0 < length thread.frames)
some_frame all t room =
    weaker (λ (thread : Thread). HasRoomFor thread.frames) (λ (thread : Thread). 0 < length thread.frames) all t
    (λ thread room. some_there thread.frames room) room

pub some_frame_at : (all at : Threads) (t pc : ℕ) → IsOf all t (λ (thread : Thread). HasRoomFor thread.frames)
    → at ≡ change_thread t (with_frames (change_newest (with_pc pc))) all
    → IsOf at t (λ (thread : Thread). 0 < length thread.frames)
some_frame_at all at t pc room is =
    subst (λ (a : Threads). IsOf a t (λ (thread : Thread). 0 < length thread.frames)) (sym is)
    (changed_of (λ (thread : Thread). 0 < length thread.frames) t (with_frames (change_newest (with_pc pc))) all
    (weaker (λ (thread : Thread). HasRoomFor thread.frames) (λ (thread : Thread). 0 < length (change_newest (with_pc pc) thread.frames)) all t
    (λ thread room. by thread.frames room) room))
  where
    by : (frames : List FrameState) → HasRoomFor frames → 0 < length (change_newest (with_pc pc) frames)
    by [] room = absurd room
    by (frame ∷ older) room = omega arith

abbrev Fits : ℕ → Thread → Type 0
Fits address thread =
    IsSomeAnd (newest thread.frames) (λ (frame : FrameState). length frame.stack + places_of (Ref address) ≤ frame.max_stack)

pub room_emptied : (all at empty : Threads) (t pc address : ℕ) → IsOf all t (λ (thread : Thread). HasRoomFor thread.frames)
    → at ≡ change_thread t (with_frames (change_newest (with_pc pc))) all
    → empty ≡ change_thread t (with_frames (change_newest with_empty_stack)) at
    → IsOf empty t (λ (thread : Thread). IsSomeAnd (newest thread.frames) (λ (frame : FrameState).
    length frame.stack + places_of (Ref address) ≤ frame.max_stack))
room_emptied all at empty t pc address room is is_empty =
    subst (λ (a : Threads). IsOf a t (Fits address)) (sym (is_empty ∙ ap (change_thread t (with_frames (change_newest with_empty_stack))) is))
    (changed_of (Fits address) t (with_frames (change_newest with_empty_stack)) (change_thread t (with_frames (change_newest (with_pc pc))) all)
    (changed_of (λ (thread : Thread). Fits address (with_frames (change_newest with_empty_stack) thread)) t (with_frames (change_newest (with_pc pc))) all
    (weaker (λ (thread : Thread). HasRoomFor thread.frames)
    (λ (thread : Thread). Fits address (with_frames (change_newest with_empty_stack) (with_frames (change_newest (with_pc pc)) thread))) all t
    (λ thread room. by thread.frames room) room)))
  where
    by : (frames : List FrameState) → HasRoomFor frames
        → IsSomeAnd (newest (change_newest with_empty_stack (change_newest (with_pc pc) frames))) (λ (frame : FrameState). length frame.stack + places_of (Ref address) ≤ frame.max_stack)
    by [] room = absurd room
    by (frame ∷ older) room = omega (arith, room)

same_frames : (pc address : ℕ) (frames : List FrameState)
    → change_newest (with_pushed (Ref address)) (change_newest with_empty_stack (change_newest (with_pc pc) frames))
    ≡ change_newest (with_caught pc address) frames
same_frames pc address [] = refl
same_frames pc address (frame ∷ older) = refl

-- the place, no operands, and then the reference
pub caught : (all at empty after : Threads) (t pc address : ℕ)
    → at ≡ change_thread t (with_frames (change_newest (with_pc pc))) all
    → empty ≡ change_thread t (with_frames (change_newest with_empty_stack)) at
    → after ≡ change_thread t (with_frames (change_newest (with_pushed (Ref address)))) empty
    → after ≡ change_thread t (with_frames (change_newest (with_caught pc address))) all
caught all at empty after t pc address is is_empty is_after =
    let go : Thread → Thread = with_frames (change_newest (with_pc pc)) in
    let clear : Thread → Thread = with_frames (change_newest with_empty_stack) in
    let push : Thread → Thread = with_frames (change_newest (with_pushed (Ref address))) in
    is_after
    ∙ ap (change_thread t push) (is_empty ∙ ap (change_thread t clear) is ∙ changed_twice t clear go all)
    ∙ changed_twice t push (λ (thread : Thread). clear (go thread)) all
    ∙ (λ i. change_thread t (λ (thread : Thread). record thread { frames = same_frames pc address thread.frames i }) all)

pub ended : (all popped without after : Threads) (t : ℕ) (class : ClassNo)
    → popped ≡ change_thread t (with_frames (drop 1)) all → without ≡ change_thread t (with_starts []) popped
    → after ≡ change_thread t (finished (Some class)) without → after ≡ change_thread t (ended_by class) all
ended all popped without after t class is_popped is is_after =
    is_after
    ∙ ap (change_thread t (finished (Some class)))
    (is ∙ ap (change_thread t (with_starts [])) is_popped ∙ changed_twice t (with_starts []) (with_frames (drop 1)) all)
    ∙ changed_twice t (finished (Some class)) (λ (thread : Thread). with_starts [] (with_frames (drop 1) thread)) all

pub is_thread : (all : Threads) (t : ℕ) → IsOf all t (λ (thread : Thread). 0 < length thread.frames) → t < length all.threads
is_thread all t is = by (slice_get all.threads t) refl is
  where
    by : (o : Option Thread) → slice_get all.threads t ≡ o → IsSomeAnd o (λ (thread : Thread). 0 < length thread.frames)
        → t < length all.threads
    by None at is = absurd is
    by (Some thread) at is = slice_get_within all.threads t thread at
