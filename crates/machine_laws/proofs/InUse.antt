-- What can be reached in a state that conforms is in use: so it's there, and conforms.
use Rattle.std.proofs.Common.{◌≡◌, ℕ, List, [], ◌∷◌, ◌++◌, Option, Some, None, Bool, true, refl, ap, sym, subst, ◌∙◌, inl, inr, map, reverse, ◌==◌}
use Rattle.std.specs.Prelude.{IsTrue, ◌&&◌, not, ⊤, is_some, flat_map, option_to_list, bytes_eq}
use Rattle.std.specs.List.{list_all}
use Rattle.std.proofs.lemmas.Bool.{and_parts, or_cases, eqb-true}
use Rattle.std.proofs.lemmas.List.{reverse-append, append_assoc}
use lib.Pointwise.{pointwise}
use Rattle.jv_model.specs.Partial.{passes}
use Rattle.jv_model.specs.Descriptors.{FieldType, class_type, array_of, byte_type, char_type, double_type, float_type, int_type as int_field, long_type as long_field, short_type, boolean_type}
use Rattle.jv_model.specs.Operand.{MemberReference}
use Rattle.code_model.specs.TypeReading.{field_type_of}
use Rattle.world_model.specs.World.{Method, is_static_method}
use Rattle.world_model.specs.BootNames.{java_string}
use Rattle.world_model.specs.Layout.{layout}
use Rattle.typing_model.specs.VerificationType.{VerificationType, long as long_type, TypeFrame}
use Rattle.typing_model.specs.Environment.{Environment}
use Rattle.machine_model.specs.Value.{Value, long, half, reference, id_in}
use Rattle.machine_model.specs.Heap.{Contents, instance, array, string, Heap, contents_at, values_of}
use Rattle.machine_model.specs.State.{Frame, Thread, Static, Interned, State}
use Rattle.machine_model.specs.Reach.{ids_in, frame_roots, thread_roots, argument_roots, roots, children_in}
use Rattle.machine_model.specs.Monitors.{is_synchronized}
use Rattle.machine_model.specs.TypedValues.{HeapTyping, heap_typing, is_in_use, is_known, is_of_type, are_of_types, holds, is_declared}
use Rattle.machine_model.specs.Conforms.{is_present, current_types, waiting_types, holds_rightly, frame_conforms, callers_conform, frames_conform, can_begin, thread_conforms, contents_conform, is_string, literal_conforms, ConformsWith}
use Rattle.run_laws.specs.Reached.{has, Reached, root, child}
use Rattle.run_laws.proofs.Unseen.{has_append}
use Rattle.frame_laws.proofs.Taking.{known_of, stands_in_use}
use Rattle.frame_laws.proofs.Outcome.{both}
use Rattle.frame_laws.proofs.Standing.{conforms_is}
use Rattle.frame_laws.proofs.Growing.{all_pass}
use Rattle.machine_laws.proofs.Heaps.{typed_is}

module _ (heap : HeapTyping) where
  -- all of these numbers are of objects in use
  abbrev AllUsed : List ℕ → Type 0
  AllUsed ids = (n : ℕ) → IsTrue (has ids n) → is_in_use heap n ≡ true

  none_used : AllUsed []
  none_used n h = absurd cc

  one_used : (id : ℕ) → is_in_use heap id ≡ true → AllUsed (id ∷ [])
  one_used id used n h = elim (or_cases (n == id) (has [] n) h) [
    | inl same ↦ ap (is_in_use heap) (eqb-true n id same) ∙ used
    | inr none ↦ absurd cc
  ]

  both_used : (xs ys : List ℕ) → AllUsed xs → AllUsed ys → AllUsed (xs ++ ys)
  both_used xs ys one other n h = elim (has_append xs ys n h) [ inl k ↦ one n k | inr k ↦ other n k ]

  flat_used : {A : Type 0} (ids : A → List ℕ) (test : A → Bool) → ((x : A) → test x ≡ true → AllUsed (ids x)) → (xs : List A)
      → list_all test xs ≡ true → AllUsed (flat_map ids xs)
  flat_used ids test each [] all = none_used
  flat_used ids test each (x ∷ xs) all =
      let p = and_parts (test x) (list_all test xs) all in
      both_used (ids x) (flat_map ids xs) (each x p.0) (flat_used ids test each xs p.1)

  -- what all pass they pass in reverse
  all_reversed : {A : Type 0} (test : A → Bool) (xs : List A) → list_all test xs ≡ true → list_all test (reverse xs) ≡ true
  all_reversed test [] all = refl
  all_reversed test (x ∷ xs) all =
      let p = and_parts (test x) (list_all test xs) all in
      subst (λ (ys : List _). list_all test ys ≡ true) (sym (reverse-append (x ∷ []) xs)) (all_behind test (reverse xs) x (all_reversed test xs p.1) p.0)
    where
      all_behind : {A : Type 0} (test : A → Bool) (ys : List A) (x : A) → list_all test ys ≡ true → test x ≡ true
          → list_all test (ys ++ x ∷ []) ≡ true
      all_behind test [] x all h = both (test x) true h refl
      all_behind test (y ∷ ys) x all h =
          let p = and_parts (test y) (list_all test ys) all in
          both (test y) (list_all test (ys ++ x ∷ [])) p.0 (all_behind test ys x p.1 h)

  -- ---- values

  value_used : (value : Value) → is_known heap value ≡ true → AllUsed (id_in value)
  value_used (reference id) h = one_used id h
  value_used value h = none_used

  values_used : (values : List Value) → list_all (is_known heap) values ≡ true → AllUsed (ids_in values)
  values_used values all = flat_used id_in (is_known heap) value_used values all

  -- locals and operands of types are known
  locals_known : (e : Environment) (types : List VerificationType) (values : List Value)
      → pointwise (is_of_type heap e) types values ≡ true → list_all (is_known heap) values ≡ true
  locals_known e [] [] h = refl
  locals_known e [] (v ∷ values) h = absurd cc
  locals_known e (t ∷ types) [] h = absurd cc
  locals_known e (t ∷ types) (v ∷ values) h =
      let p = and_parts (is_of_type heap e t v) (pointwise (is_of_type heap e) types values) h in
      both (is_known heap v) (list_all (is_known heap) values) (known_of heap e t v p.0) (locals_known e types values p.1)

  operands_known : (e : Environment) (types : List VerificationType) (values : List Value)
      → are_of_types heap e types values ≡ true → list_all (is_known heap) values ≡ true
  unfolding are_of_types
  operands_known e [] [] h = refl
  operands_known e [] (v ∷ values) h = absurd cc
  operands_known e (long_type ∷ types) (half ∷ long n ∷ values) h = operands_known e types values h
  operands_known e (long_type ∷ types) values h = absurd cc
  operands_known e (t ∷ types) [] h = absurd cc
  operands_known e (t ∷ types) (v ∷ values) h =
      let p = and_parts (is_of_type heap e t v) (are_of_types heap e types values) h in
      both (is_known heap v) (list_all (is_known heap) values) (known_of heap e t v p.0) (operands_known e types values p.1)

  -- what a type holds is known
  held_known : (type : FieldType) (value : Value) → holds heap type value ≡ true → is_known heap value ≡ true
  held_known (class_type name) (reference id) h = stands_in_use heap id (class_type name) h
  held_known (array_of c) (reference id) h = stands_in_use heap id (array_of c) h
  held_known long_field (reference id) h = absurd cc
  held_known byte_type (reference id) h = absurd cc
  held_known char_type (reference id) h = absurd cc
  held_known double_type (reference id) h = absurd cc
  held_known float_type (reference id) h = absurd cc
  held_known int_field (reference id) h = absurd cc
  held_known short_type (reference id) h = absurd cc
  held_known boolean_type (reference id) h = absurd cc
  held_known type value h = refl

  declared_known : (descriptor : List ℕ) (value : Value) → is_declared heap descriptor value ≡ true → is_known heap value ≡ true
  declared_known descriptor value h = go (field_type_of descriptor) h
    where
      go : (o : Option FieldType) → passes (λ type. holds heap type value) o ≡ true → is_known heap value ≡ true
      go None h = absurd cc
      go (Some type) h = held_known type value h

  pairs_known : (fields : List MemberReference) (values : List Value)
      → pointwise (λ (f : MemberReference) value. is_declared heap f.descriptor value) fields values ≡ true
      → list_all (is_known heap) values ≡ true
  pairs_known [] [] h = refl
  pairs_known [] (v ∷ values) h = absurd cc
  pairs_known (f ∷ fields) [] h = absurd cc
  pairs_known (f ∷ fields) (v ∷ values) h =
      let p = and_parts (is_declared heap f.descriptor v) (pointwise (λ (f : MemberReference) value. is_declared heap f.descriptor value) fields values) h in
      both (is_known heap v) (list_all (is_known heap) values) (declared_known f.descriptor v p.0) (pairs_known fields values p.1)

  contents_known : (contents : Contents) → contents_conform heap contents ≡ true → list_all (is_known heap) (values_of contents) ≡ true
  contents_known (instance name values) h =
      pairs_known (layout heap.world name) values (and_parts (is_present heap.world name && not (bytes_eq name java_string)) (pointwise (λ (f : MemberReference) value. is_declared heap f.descriptor value) (layout heap.world name) values) h).1
  contents_known (array type elements) h = all_pass (holds heap type) (is_known heap) (held_known type) elements h
  contents_known (string units) h = refl

  -- ---- frames

  -- a frame's roots are in use
  abbrev frame_used : Frame → Type 0
  frame_used frame = AllUsed (frame_roots frame)

  held_used : (method : Method) (held : Option ℕ) → holds_rightly heap method held ≡ true → AllUsed (option_to_list held)
  held_used method None h = none_used
  held_used method (Some id) h = one_used id (and_parts (is_synchronized method && not (is_static_method method)) (is_in_use heap id) h).1

  conforming_used : (types_of : Environment → Option TypeFrame) (frame : Frame) → frame_conforms heap types_of frame ≡ true
      → frame_used frame
  conforming_used types_of frame h =
      let p = conforms_is heap types_of frame h in
      let parts = and_parts (pointwise (is_of_type heap p.e) p.types.locals frame.locals) (are_of_types heap p.e p.types.stack frame.stack) p.fits in
      both_used (option_to_list frame.held ++ ids_in frame.locals) (ids_in (reverse frame.stack))
      (both_used (option_to_list frame.held) (ids_in frame.locals) (held_used p.e.method frame.held p.held) (values_used frame.locals (locals_known p.e p.types.locals frame.locals parts.0)))
      (values_used (reverse frame.stack) (all_reversed (is_known heap) frame.stack (operands_known p.e p.types.stack frame.stack parts.1)))

  flat_append : {A : Type 0} (f : A → List ℕ) (xs ys : List A) → flat_map f (xs ++ ys) ≡ flat_map f xs ++ flat_map f ys
  flat_append f [] ys = refl
  flat_append f (x ∷ xs) ys =
      ap (λ (zs : List ℕ). f x ++ zs) (flat_append f xs ys) ∙ sym (append_assoc (f x) (flat_map f xs) (flat_map f ys))

  -- the frames of a thread, the oldest first
  abbrev EachUsed : List Frame → Type 0
  EachUsed [] = ⊤
  EachUsed (frame ∷ frames) = frame_used frame × EachUsed frames

  reversed_used : (frames : List Frame) → EachUsed frames → AllUsed (flat_map frame_roots (reverse frames))
  reversed_used [] each = none_used
  reversed_used (frame ∷ frames) each =
      subst AllUsed (sym (ap (flat_map frame_roots) (reverse-append (frame ∷ []) frames) ∙ flat_append frame_roots (reverse frames) (frame ∷ [])))
      (both_used (flat_map frame_roots (reverse frames)) (flat_map frame_roots (frame ∷ [])) (reversed_used frames each.1)
      (both_used (frame_roots frame) [] each.0 none_used))

  callers_used : (descriptor : List ℕ) (callers : List Frame) → callers_conform heap descriptor callers ≡ true → EachUsed callers
  unfolding callers_conform
  callers_used descriptor [] h = tt
  callers_used descriptor (frame ∷ callers) h =
      let p = and_parts (frame_conforms heap (λ e. waiting_types descriptor e frame.pc) frame) (callers_conform heap frame.method.descriptor callers) h in
      (conforming_used (λ e. waiting_types descriptor e frame.pc) frame p.0, callers_used frame.method.descriptor callers p.1)

  frames_used : (frames : List Frame) → frames_conform heap frames ≡ true → EachUsed frames
  frames_used [] h = tt
  frames_used (frame ∷ callers) h =
      let p = and_parts (frame_conforms heap (λ e. current_types e frame.pc) frame) (callers_conform heap frame.method.descriptor callers) h in
      (conforming_used (λ e. current_types e frame.pc) frame p.0, callers_used frame.method.descriptor callers p.1)

  thread_used : (thread : Thread) → thread_conforms heap thread ≡ true → AllUsed (thread_roots thread)
  thread_used thread h =
      reversed_used thread.frames (frames_used thread.frames (and_parts (frames_conform heap thread.frames) (list_all (can_begin heap.world) thread.to_start) h).0)

module _ (state : State) (live : ℕ → Bool) (is : ConformsWith state live) where
  abbrev typing : HeapTyping
  typing = heap_typing state live

  literals_used : (rows : List Interned) → list_all (literal_conforms state typing) rows ≡ true
      → AllUsed typing (map (λ (i : Interned). i.id) rows)
  literals_used [] all = none_used typing
  literals_used (row ∷ rows) all =
      let p = and_parts (literal_conforms state typing row) (list_all (literal_conforms state typing) rows) all in
      both_used typing (row.id ∷ []) (map (λ (i : Interned). i.id) rows)
      (one_used typing row.id (and_parts (is_in_use typing row.id) (passes (is_string row.units) (contents_at state.heap row.id)) p.0).0) (literals_used rows p.1)

  arguments_used : AllUsed typing (argument_roots state.heap)
  arguments_used = go state.heap
    where
      go : (heap : Heap) → AllUsed typing (argument_roots heap)
      go [] = none_used typing
      go (object ∷ objects) = one_used typing 0 (ap is_some is.shared.arguments)

  roots_used : AllUsed typing (roots state)
  roots_used =
      both_used typing (argument_roots state.heap ++ flat_map thread_roots state.threads ++ flat_map (λ (s : Static). id_in s.value) state.statics) (map (λ (i : Interned). i.id) state.interned)
      (both_used typing (argument_roots state.heap ++ flat_map thread_roots state.threads) (flat_map (λ (s : Static). id_in s.value) state.statics)
      (both_used typing (argument_roots state.heap) (flat_map thread_roots state.threads) arguments_used (flat_used typing thread_roots (thread_conforms typing) (thread_used typing) state.threads is.threads))
      (flat_used typing (λ (s : Static). id_in s.value) (λ (s : Static). is_declared typing s.field.descriptor s.value) (λ s h. value_used typing s.value (declared_known typing s.field.descriptor s.value h)) state.statics is.shared.statics))
      (literals_used state.interned is.shared.literals)

  -- what an object in use holds is in use
  children_used : (id : ℕ) → is_in_use typing id ≡ true → AllUsed typing (children_in state.heap id)
  children_used id used = go (typing.type_at id) refl used
    where
      go : (o : Option FieldType) → typing.type_at id ≡ o → is_some o ≡ true → AllUsed typing (children_in state.heap id)
      go None at used = absurd cc
      go (Some type) at used =
          let c = typed_is state live id type at in
          subst (λ (o : Option Contents). AllUsed typing (flat_map (λ contents. ids_in (values_of contents)) (option_to_list o))) (sym c.2)
          (both_used typing (ids_in (values_of c.1)) [] (values_used typing (values_of c.1) (contents_known typing c.1 (is.shared.objects id c.1 c.0 c.2))) (none_used typing))

  -- What can be reached is in use.
  pub reached_used : (id : ℕ) → Reached (children_in state.heap) (roots state) id → is_in_use typing id ≡ true
  reached_used id (root _ h) = roots_used id h
  reached_used id (child n _ r h) = children_used n (reached_used n r) id h

  -- so it's there, and conforms
  pub reached_conforms : (id : ℕ) → Reached (children_in state.heap) (roots state) id
      → (contents : Contents) × (contents_at state.heap id ≡ Some contents) × (contents_conform typing contents ≡ true)
  reached_conforms id r = go (typing.type_at id) refl (reached_used id r)
    where
      go : (o : Option FieldType) → typing.type_at id ≡ o → is_some o ≡ true
          → (contents : Contents) × (contents_at state.heap id ≡ Some contents) × (contents_conform typing contents ≡ true)
      go None at used = absurd cc
      go (Some type) at used =
          let c = typed_is state live id type at in (c.1, c.2, is.shared.objects id c.1 c.0 c.2)
