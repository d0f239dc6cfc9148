-- The newest frame that has a handler, frame by frame.
use Rattle.std.proofs.Common.{◌≡◌, ℕ, zero, suc, ◌+◌, ◌-◌, ◌*◌, ◌<◌, ◌≤◌, Bool, true, List, [], ◌∷◌, Option, Some, None, length, drop, reverse, get_or, slice_get, option_map, option_and_then, unwrap_or, true≢false, refl, sym, ap, subst, ◌∙◌, add-one, arith}
use Rattle.std.specs.Prelude.{IsTrue, IsSome, IsSomeAnd, IfSome, is_some}
use Rattle.std.specs.List.{list_all}
use Rattle.std.proofs.lemmas.List.{get_or-reverse, length-drop}
use Rattle.std.proofs.lemmas.List.Sums.{sum_by-cons}
use Rattle.std.proofs.lemmas.Option.{get_or_from_slice_get, slice_get-get_or}
use Rattle.class_graph.proofs.Passing.{and_left, and_right}
use Rattle.world_model.specs.World.{World}
use Rattle.world_model.specs.Supertypes.{field_order}
use Rattle.world_model.specs.LookUp.{Found}
use Rattle.world_model.specs.World.{Method}
use Rattle.machine_model.specs.Throwing.{match_option}
use Rattle.class_world.specs.World.{method_at}
use Rattle.thread_frames.specs.Frames.{FrameState, Shown, shown, frame_at}
use Rattle.frame_stacks.specs.declared.thread.Thread.{Thread}
use Rattle.frame_stacks.specs.Threads.{Threads, IsOf}
use Rattle.vm_throw.specs.Handlers.{rows_of, handler_found}
use Rattle.vm_unwind.specs.Catching.{frames_of, has_method, handler_at, Place, place_in, frame_steps, most_steps}

-- ---- frames by their depth

-- what holds of a thread's frames holds of them by its number
pub of_thread : (P : List FrameState → Type 0) (all : Threads) (t : ℕ)
    → IsOf all t (λ (thread : Thread). P thread.frames) → P (frames_of all t)
of_thread P all t is = by (slice_get all.threads t) is
  where
    by : (o : Option Thread) → IsSomeAnd o (λ (thread : Thread). P thread.frames)
        → P (unwrap_or (option_map (λ (thread : Thread). thread.frames) o) [])
    by None is = absurd is
    by (Some thread) is = is

dropped : {A : Type 0} (xs : List A) (n : ℕ) (x : A) → slice_get xs n ≡ Some x → drop n xs ≡ x ∷ drop (suc n) xs
dropped [] n x at = absurd cc
dropped (y ∷ xs) zero x at = let same : y ≡ x = cc in ap (λ z. z ∷ xs) same
dropped (y ∷ xs) (suc n) x at = dropped xs n x at

-- the frame below which there are so many, by those above it
frame_above : (frames : List FrameState) (above below : ℕ) (frame : FrameState) → above + below + 1 ≡ length frames
    → frame_at frames below ≡ Some frame → slice_get frames above ≡ Some frame
frame_above frames above below frame sum at =
    let same : get_or frames above frame ≡ frame =
    ap (λ n. get_or frames n frame) (omega (arith, sum))
    ∙ sym (get_or-reverse frames below frame (omega (arith, sum)))
    ∙ get_or_from_slice_get (reverse frames) below frame frame at in
    slice_get-get_or frames above frame (omega (arith, sum)) ∙ ap (λ f. Some f) same

all_at : {A : Type 0} (p : A → Bool) (xs : List A) (n : ℕ) (x : A) → IsTrue (list_all p xs) → slice_get xs n ≡ Some x
    → IsTrue (p x)
all_at p [] n x all at = absurd cc
all_at p (y ∷ xs) zero x all at =
    let same : y ≡ x = cc in
    subst (λ z. IsTrue (p z)) same (and_left (p y) (list_all p xs) all)
all_at p (y ∷ xs) (suc n) x all at = all_at p xs n x (and_right (p y) (list_all p xs) all) at

-- ---- one frame

-- The frame that was shown is there.
pub record Showing (frames : List FrameState) (depth : ℕ) (view : Shown) : Type 0 where
  pub frame : FrameState
  pub there : frame_at frames depth ≡ Some frame
  pub same : shown frame ≡ view

pub showing : (frames : List FrameState) (depth : ℕ) (view : Shown) → option_map shown (frame_at frames depth) ≡ Some view
    → Showing frames depth view
showing frames depth view is = by (frame_at frames depth) refl is
  where
    by : (o : Option FrameState) → frame_at frames depth ≡ o → option_map shown o ≡ Some view → Showing frames depth view
    by None at is = absurd cc
    by (Some frame) at is =
        record { frame = frame; there = at; same = ap (λ (o : Option Shown). unwrap_or o (shown frame)) is }

-- its method is there
pub method_known : (world : World) (frames : List FrameState) (depth : ℕ) (view : Shown)
    → option_map shown (frame_at frames depth) ≡ Some view → depth < length frames
    → IsTrue (list_all (has_method world) frames) → IsSome (method_at world view.method)
method_known world frames depth view is inside all =
    let here = showing frames depth view is in
    let at = frame_above frames (length frames - 1 - depth) depth here.frame (omega (arith, inside)) here.there in
    let known = all_at (has_method world) frames (length frames - 1 - depth) here.frame all at in
    subst (λ (v : Shown). is_some (method_at world v.method) ≡ true) here.same known

handler_is : (world : World) (class : List ℕ) (o : Option (Found Method)) (pc : ℕ) (target : Option ℕ) → IsSome o
    → IfSome o (λ (found : Found Method). target ≡ handler_found world found.member pc class)
    → option_and_then (λ (found : Found Method). handler_found world found.member pc class) o ≡ target
handler_is world class None pc target there says = absurd (true≢false (sym there))
handler_is world class (Some found) pc target there says = sym says

pub found_there : (world : World) (class : List ℕ) (frames : List FrameState) (depth : ℕ) (view : Shown) (target : Option ℕ)
    → option_map shown (frame_at frames depth) ≡ Some view → IsSome (method_at world view.method)
    → IfSome (method_at world view.method) (λ (found : Found Method). target ≡ handler_found world found.member view.pc class)
    → IsSomeAnd (frame_at frames depth) (λ (frame : FrameState). handler_at world class frame ≡ target)
found_there world class frames depth view target is there says =
    let here = showing frames depth view is in
    rw (here.there)
    (subst (λ (v : Shown). option_and_then (λ (found : Found Method). handler_found world found.member v.pc class) (method_at world v.method) ≡ target)
    (sym here.same) (handler_is world class (method_at world view.method) view.pc target there says))

steps_are : (o : Option (Found Method)) (order old new : ℕ) → IsSome o
    → IfSome o (λ (found : Found Method). new ≤ old + length (rows_of found.member) * order)
    → new ≤ old + unwrap_or (option_map (λ (found : Found Method). length (rows_of found.member)) o) 0 * order
steps_are None order old new there says = absurd (true≢false (sym there))
steps_are (Some found) order old new there says = says

pub steps_there : (world : World) (class : List ℕ) (frames : List FrameState) (depth : ℕ) (view : Shown) (old new : ℕ)
    → option_map shown (frame_at frames depth) ≡ Some view → IsSome (method_at world view.method)
    → IfSome (method_at world view.method)
    (λ (found : Found Method). new ≤ old + length (rows_of found.member) * length (field_order world class))
    → IsSomeAnd (frame_at frames depth) (λ (frame : FrameState). new ≤ old + frame_steps world class frame)
steps_there world class frames depth view old new is there says =
    let here = showing frames depth view is in
    rw (here.there)
    (subst (λ (v : Shown). new ≤ old + unwrap_or (option_map (λ (found : Found Method). length (rows_of found.member)) (method_at world v.method)) 0 * length (field_order world class))
    (sym here.same) (steps_are (method_at world view.method) (length (field_order world class)) old new there says))

-- ---- a frame more

-- What the search comes to at the frame below so many.
pub record OneMore (world : World) (class : List ℕ) (frames : List FrameState) (above depth : ℕ) (target : Option ℕ) (old new : ℕ)
    : Type 0 where
  pub found : place_in world class (drop above frames)
      ≡ match_option target (λ pc. Some (let p : Place = record { depth = depth; target = pc } in p))
      (λ none. place_in world class (drop (above + 1) frames))
  pub steps : new + most_steps world class (drop (above + 1) frames) ≤ old + most_steps world class (drop above frames)

pub one_more : (world : World) (class : List ℕ) (frames : List FrameState) (above depth : ℕ) (target : Option ℕ) (old new : ℕ)
    → above + depth + 1 ≡ length frames
    → IsSomeAnd (frame_at frames depth) (λ (frame : FrameState). handler_at world class frame ≡ target)
    → IsSomeAnd (frame_at frames depth) (λ (frame : FrameState). new ≤ old + frame_steps world class frame)
    → OneMore world class frames above depth target old new
one_more world class frames above depth target old new sum found steps = by (frame_at frames depth) refl found steps
  where
    by : (o : Option FrameState) → frame_at frames depth ≡ o
        → IsSomeAnd o (λ (frame : FrameState). handler_at world class frame ≡ target)
        → IsSomeAnd o (λ (frame : FrameState). new ≤ old + frame_steps world class frame)
        → OneMore world class frames above depth target old new
    by None at found steps = absurd found
    by (Some frame) at found steps =
        let parts = dropped frames above frame (frame_above frames above depth frame sum at) in
        let below : length (drop (suc above) frames) ≡ depth = omega (arith, sum, length-drop (suc above) frames) in
        record {
          found =
              ap (place_in world class) parts
              ∙ ap (λ (o : Option ℕ). match_option o (λ pc. Some (let p : Place = record { depth = length (drop (suc above) frames); target = pc } in p)) (λ none. place_in world class (drop (suc above) frames))) found
              ∙ ap (λ (n : ℕ). match_option target (λ pc. Some (let p : Place = record { depth = n; target = pc } in p)) (λ none. place_in world class (drop (suc above) frames))) below
              ∙ ap (λ (n : ℕ). match_option target (λ pc. Some (let p : Place = record { depth = depth; target = pc } in p)) (λ none. place_in world class (drop n frames))) (sym (add-one above));
          steps =
              let sum : most_steps world class (drop above frames) ≡ frame_steps world class frame + most_steps world class (drop (suc above) frames) =
              ap (most_steps world class) parts ∙ sum_by-cons (frame_steps world class) frame (drop (suc above) frames) in
              let next : most_steps world class (drop (above + 1) frames) ≡ most_steps world class (drop (suc above) frames) =
              ap (λ (n : ℕ). most_steps world class (drop n frames)) (add-one above) in
              omega (arith, sum, next, steps);
        }
