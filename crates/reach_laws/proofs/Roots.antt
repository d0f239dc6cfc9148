-- A state is within its own reach, and what a state within reach reaches is in reach or new.
use Rattle.std.proofs.Common.{◌≡◌, ℕ, ◌<◌, List, [], ◌∷◌, ◌++◌, length, Option, Some, None, refl, sym, ap, subst, inl, inr, map, reverse, arith}
use Rattle.std.specs.Prelude.{flat_map, option_map, option_to_list, slice_get}
use Rattle.std.specs.List.{AllByRecursion}
use Rattle.std.proofs.lemmas.List.{reverse-reverse}
use Rattle.std.proofs.lemmas.Option.{slice_get_within}
use Rattle.link_laws.proofs.Lists.{all_left, all_right, all_of_map, all_weaker}
use Rattle.machine_model.specs.Value.{Value, int, long, half, null, reference, id_in}
use Rattle.machine_model.specs.Heap.{Contents, Object, Heap, contents_at, values_of}
use Rattle.machine_model.specs.State.{Frame, Thread, Static, Interned, State}
use Rattle.machine_model.specs.Reach.{ids_in, frame_roots, thread_roots, argument_roots, roots, children_in}
use Rattle.run_laws.specs.Reached.{root, child}
use Rattle.reach_laws.specs.Reaching.{IsReached}
use Rattle.reach_laws.proofs.Lists.{all_append, all_reversed, all_has, all_of_has, all_flat, all_of_flat, all_map}
use Rattle.reach_laws.proofs.Holding.{MayReach, Names, Holds, HeldIn, FrameIn, FramesIn, ThreadIn, StaticIn, Within}

module _ (before : State) where
  abbrev AllMay : List ℕ → Type 0
  AllMay ids = AllByRecursion (MayReach before) ids

  -- ---- values and frames by the ids that they name

  named : (value : Value) → AllMay (id_in value) → Names before value
  named (reference id) all = all.0
  named (int n) all = tt
  named (long n) all = tt
  named half all = tt
  named null all = tt

  ids_of : (value : Value) → Names before value → AllMay (id_in value)
  ids_of (reference id) names = (names, tt)
  ids_of (int n) names = tt
  ids_of (long n) names = tt
  ids_of half names = tt
  ids_of null names = tt

  all_named : (values : List Value) → AllMay (ids_in values) → Holds before values
  all_named values all =
      all_weaker (λ v. AllMay (id_in v)) (Names before) values named (all_of_flat (MayReach before) id_in values all)

  all_ids : (values : List Value) → Holds before values → AllMay (ids_in values)
  all_ids values holds =
      all_flat (MayReach before) id_in values (all_weaker (Names before) (λ v. AllMay (id_in v)) values ids_of holds)

  held_named : (held : Option ℕ) → AllMay (option_to_list held) → HeldIn before held
  held_named None all = tt
  held_named (Some id) all = all.0

  held_ids : (held : Option ℕ) → HeldIn before held → AllMay (option_to_list held)
  held_ids None held = tt
  held_ids (Some id) held = (held, tt)

  frame_named : (frame : Frame) → AllMay (frame_roots frame) → FrameIn before frame
  frame_named frame all =
      let first = all_left (MayReach before) (option_to_list frame.held ++ ids_in frame.locals) (ids_in (reverse frame.stack)) all in
      record {
        held = held_named frame.held (all_left (MayReach before) (option_to_list frame.held) (ids_in frame.locals) first);
        locals = all_named frame.locals (all_right (MayReach before) (option_to_list frame.held) (ids_in frame.locals) first);
        stack = subst (Holds before) (reverse-reverse frame.stack) (all_reversed (Names before) (reverse frame.stack)
            (all_named (reverse frame.stack) (all_right (MayReach before) (option_to_list frame.held ++ ids_in frame.locals) (ids_in (reverse frame.stack)) all)));
      }

  frame_ids : (frame : Frame) → FrameIn before frame → AllMay (frame_roots frame)
  frame_ids frame is =
      all_append (MayReach before) (option_to_list frame.held ++ ids_in frame.locals) (ids_in (reverse frame.stack))
      (all_append (MayReach before) (option_to_list frame.held) (ids_in frame.locals) (held_ids frame.held is.held) (all_ids frame.locals is.locals))
      (all_ids (reverse frame.stack) (all_reversed (Names before) frame.stack is.stack))

  thread_named : (thread : Thread) → AllMay (thread_roots thread) → ThreadIn before thread
  thread_named thread all =
      subst (FramesIn before) (reverse-reverse thread.frames) (all_reversed (FrameIn before) (reverse thread.frames)
      (all_weaker (λ f. AllMay (frame_roots f)) (FrameIn before) (reverse thread.frames) frame_named
      (all_of_flat (MayReach before) frame_roots (reverse thread.frames) all)))

  thread_ids : (thread : Thread) → ThreadIn before thread → AllMay (thread_roots thread)
  thread_ids thread all =
      all_flat (MayReach before) frame_roots (reverse thread.frames)
      (all_weaker (FrameIn before) (λ f. AllMay (frame_roots f)) (reverse thread.frames) frame_ids (all_reversed (FrameIn before) thread.frames all))

  -- ---- what a state within reach reaches

  module _ (state : State) (within : Within before state) where
    arguments_may : AllMay (argument_roots state.heap)
    arguments_may = go state.heap
      where
        go : (heap : Heap) → AllMay (argument_roots heap)
        go [] = tt
        go (object ∷ objects) = (within.first, tt)

    roots_may : AllMay (roots state)
    roots_may =
        all_append (MayReach before) (argument_roots state.heap ++ flat_map thread_roots state.threads ++ flat_map (λ (s : Static). id_in s.value) state.statics) (map (λ (i : Interned). i.id) state.interned)
        (all_append (MayReach before) (argument_roots state.heap ++ flat_map thread_roots state.threads) (flat_map (λ (s : Static). id_in s.value) state.statics)
        (all_append (MayReach before) (argument_roots state.heap) (flat_map thread_roots state.threads) arguments_may
        (all_flat (MayReach before) thread_roots state.threads (all_weaker (ThreadIn before) (λ th. AllMay (thread_roots th)) state.threads thread_ids within.threads)))
        (all_flat (MayReach before) (λ (s : Static). id_in s.value) state.statics (all_weaker (StaticIn before) (λ s. AllMay (id_in s.value)) state.statics (λ s h. ids_of s.value h) within.statics)))
        (all_map (MayReach before) (λ (i : Interned). i.id) state.interned within.literals)

    children_may : (id : ℕ) → MayReach before id → AllMay (children_in state.heap id)
    children_may id may = go (contents_at state.heap id) refl
      where
        go : (o : Option Contents) → contents_at state.heap id ≡ o
            → AllMay (flat_map (λ contents. ids_in (values_of contents)) (option_to_list o))
        go None is = tt
        go (Some contents) is =
            all_append (MayReach before) (ids_in (values_of contents)) [] (all_ids (values_of contents) (within.objects id contents may is)) tt

    pub reached_may : (id : ℕ) → IsReached state id → MayReach before id
    reached_may id (root _ h) = all_has (MayReach before) (roots state) id roots_may h
    reached_may id (child n _ r h) = all_has (MayReach before) (children_in state.heap n) id (children_may n (reached_may n r)) h

-- ---- a state is within its own reach

module _ (state : State) where
  all_roots : AllMay state (roots state)
  all_roots = all_of_has (MayReach state) (roots state) (λ n h. inl (root n h))

  first_roots : AllMay state (argument_roots state.heap ++ flat_map thread_roots state.threads ++ flat_map (λ (s : Static). id_in s.value) state.statics)
  first_roots = all_left (MayReach state) (argument_roots state.heap ++ flat_map thread_roots state.threads ++ flat_map (λ (s : Static). id_in s.value) state.statics) (map (λ (i : Interned). i.id) state.interned) all_roots

  front_roots : AllMay state (argument_roots state.heap ++ flat_map thread_roots state.threads)
  front_roots = all_left (MayReach state) (argument_roots state.heap ++ flat_map thread_roots state.threads) (flat_map (λ (s : Static). id_in s.value) state.statics) first_roots

  -- main's array is a root, or there is no object yet
  first_may : MayReach state 0
  first_may = go state.heap refl (all_left (MayReach state) (argument_roots state.heap) (flat_map thread_roots state.threads) front_roots)
    where
      go : (heap : Heap) → state.heap ≡ heap → AllMay state (argument_roots heap) → MayReach state 0
      go [] is all = inr (sym (ap (λ (h : Heap). length h) is))
      go (object ∷ objects) is all = all.0

  -- an object that is there has a lower id than there are objects
  pub is_there : (id : ℕ) (contents : Contents) → contents_at state.heap id ≡ Some contents → id < length state.heap
  is_there id contents is = go (slice_get state.heap id) refl is
    where
      go : (o : Option Object) → slice_get state.heap id ≡ o → option_map (λ (o : Object). o.contents) o ≡ Some contents → id < length state.heap
      go None at is = absurd cc
      go (Some object) at is = slice_get_within state.heap id object at

  objects_hold : (id : ℕ) (contents : Contents) → MayReach state id → contents_at state.heap id ≡ Some contents
      → Holds state (values_of contents)
  objects_hold id contents may is = elim may [
    | inl reached ↦ all_named state (values_of contents) (all_left (MayReach state) (ids_in (values_of contents)) []
        (subst (λ (o : Option Contents). AllMay state (flat_map (λ contents. ids_in (values_of contents)) (option_to_list o))) is
        (all_of_has (MayReach state) (children_in state.heap id) (λ n h. inl (child id n reached h)))))
    | inr new ↦ absurd (let within = is_there id contents is in omega (arith, new, within))
  ]

  pub begins_within : Within state state
  begins_within = record {
    first = first_may;
    threads = all_weaker (λ th. AllMay state (thread_roots th)) (ThreadIn state) state.threads (thread_named state)
        (all_of_flat (MayReach state) thread_roots state.threads (all_right (MayReach state) (argument_roots state.heap) (flat_map thread_roots state.threads) front_roots));
    statics = all_weaker (λ s. AllMay state (id_in s.value)) (StaticIn state) state.statics (λ s h. named state s.value h)
        (all_of_flat (MayReach state) (λ (s : Static). id_in s.value) state.statics (all_right (MayReach state) (argument_roots state.heap ++ flat_map thread_roots state.threads) (flat_map (λ (s : Static). id_in s.value) state.statics) first_roots));
    literals = all_of_map (MayReach state) (λ (i : Interned). i.id) state.interned
        (all_right (MayReach state) (argument_roots state.heap ++ flat_map thread_roots state.threads ++ flat_map (λ (s : Static). id_in s.value) state.statics) (map (λ (i : Interned). i.id) state.interned) all_roots);
    objects = objects_hold;
  }
