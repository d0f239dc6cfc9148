-- What conforms keeps conforming where more objects come into use.
use Rattle.std.proofs.Common.{◌≡◌, ℕ, List, [], ◌∷◌, Option, Some, None, Bool, true, refl, ◌&&◌}
use Rattle.std.specs.Prelude.{is_some, not}
use Rattle.std.specs.List.{list_all}
use Rattle.std.proofs.lemmas.Bool.{and_parts}
use lib.Pointwise.{pointwise}
use Rattle.jv_model.specs.Partial.{passes}
use Rattle.jv_model.specs.Descriptors.{FieldType, long_type as long_field, class_type, array_of}
use Rattle.world_model.specs.World.{World, Method, is_static_method}
use Rattle.code_model.specs.TypeReading.{field_type_of}
use Rattle.typing_model.specs.VerificationType.{VerificationType, top, int as int_type, long as long_type, null as null_type, this, new_at, class, array as array_type, TypeFrame}
use Rattle.typing_model.specs.Environment.{Environment}
use Rattle.machine_model.specs.Value.{Value, int, long, half, null, reference}
use Rattle.machine_model.specs.State.{Frame, Thread}
use Rattle.machine_model.specs.Monitors.{is_synchronized}
use Rattle.machine_model.specs.TypedValues.{HeapTyping, may_stand, stands_for, is_in_use, is_known, class_made_at, is_of_type, are_of_types, fits_frame, holds, is_declared}
use Rattle.machine_model.specs.Conforms.{current_types, waiting_types, holds_rightly, frame_conforms, callers_conform, frames_conform, can_begin, thread_conforms}
use Rattle.frame_laws.proofs.Outcome.{both}
use Rattle.frame_laws.proofs.Standing.{conforms_is, conforms_by}

-- what passes one test passes another
pub all_pass : {A : Type 0} (p q : A → Bool) → ((x : A) → p x ≡ true → q x ≡ true) → (xs : List A) → list_all p xs ≡ true
    → list_all q xs ≡ true
all_pass p q each [] h = refl
all_pass p q each (x ∷ xs) h =
    let parts = and_parts (p x) (list_all p xs) h in
    both (q x) (list_all q xs) (each x parts.0) (all_pass p q each xs parts.1)

-- what stands in an option and passes one test passes another
pub passes_too : {A : Type 0} (p q : A → Bool) → ((x : A) → p x ≡ true → q x ≡ true) → (o : Option A) → passes p o ≡ true
    → passes q o ≡ true
passes_too p q each None h = absurd cc
passes_too p q each (Some x) h = each x h

-- what pairs pass one test pass another
pub pairs_pass : {A B : Type 0} (p q : A → B → Bool) → ((x : A) (y : B) → p x y ≡ true → q x y ≡ true) → (xs : List A)
    (ys : List B) → pointwise p xs ys ≡ true → pointwise q xs ys ≡ true
pairs_pass p q each [] [] h = refl
pairs_pass p q each [] (y ∷ ys) h = absurd cc
pairs_pass p q each (x ∷ xs) [] h = absurd cc
pairs_pass p q each (x ∷ xs) (y ∷ ys) h =
    let parts = and_parts (p x y) (pointwise p xs ys) h in
    both (q x y) (pointwise q xs ys) (each x y parts.0) (pairs_pass p q each xs ys parts.1)

module _ (world : World) (one other : ℕ → Option FieldType)
    (grows : (id : ℕ) (type : FieldType) → one id ≡ Some type → other id ≡ Some type) where
  abbrev small : HeapTyping
  small = record { world = world; type_at = one }

  abbrev large : HeapTyping
  large = record { world = world; type_at = other }

  -- ---- values

  found_too : (test : FieldType → Bool) (id : ℕ) → passes test (one id) ≡ true → passes test (other id) ≡ true
  found_too test id h = go (one id) refl h
    where
      go : (o : Option FieldType) → one id ≡ o → passes test o ≡ true → passes test (other id) ≡ true
      go None is h = absurd cc
      go (Some type) is h = rw (grows id type is) h

  pub stands_kept : (id : ℕ) (type : FieldType) → stands_for small id type ≡ true → stands_for large id type ≡ true
  stands_kept id type h = found_too (λ own. may_stand world own type) id h

  pub in_use_kept : (id : ℕ) → is_in_use small id ≡ true → is_in_use large id ≡ true
  in_use_kept id h = go (one id) refl h
    where
      go : (o : Option FieldType) → one id ≡ o → is_some o ≡ true → is_some (other id) ≡ true
      go None is h = absurd cc
      go (Some type) is h = rw (grows id type is) h

  pub known_kept : (value : Value) → is_known small value ≡ true → is_known large value ≡ true
  known_kept (reference id) h = in_use_kept id h
  known_kept value h = refl

  pub type_kept : (e : Environment) (type : VerificationType) (value : Value) → is_of_type small e type value ≡ true
      → is_of_type large e type value ≡ true
  unfolding is_of_type
  type_kept e top value h = known_kept value h
  type_kept e int_type (int n) h = refl
  type_kept e long_type (long n) h = refl
  type_kept e null_type null h = refl
  type_kept e this (reference id) h = stands_kept id (class_type e.class.name) h
  type_kept e (new_at pc) (reference id) h =
      passes_too (λ name. stands_for small id (class_type name)) (λ name. stands_for large id (class_type name)) (λ name k. stands_kept id (class_type name) k) (class_made_at e pc) h
  type_kept e (class name) null h = refl
  type_kept e (class name) (reference id) h = stands_kept id (class_type name) h
  type_kept e (array_type component) null h = refl
  type_kept e (array_type component) (reference id) h = stands_kept id (array_of component) h
  type_kept e type value h = absurd cc

  pub locals_kept : (e : Environment) (types : List VerificationType) (values : List Value)
      → pointwise (is_of_type small e) types values ≡ true → pointwise (is_of_type large e) types values ≡ true
  locals_kept e types values h = pairs_pass (is_of_type small e) (is_of_type large e) (type_kept e) types values h

  pub operands_kept : (e : Environment) (types : List VerificationType) (values : List Value)
      → are_of_types small e types values ≡ true → are_of_types large e types values ≡ true
  unfolding are_of_types
  operands_kept e [] [] h = refl
  operands_kept e [] (v ∷ values) h = absurd cc
  operands_kept e (long_type ∷ types) (half ∷ long n ∷ values) h = operands_kept e types values h
  operands_kept e (long_type ∷ types) values h = absurd cc
  operands_kept e (t ∷ types) [] h = absurd cc
  operands_kept e (t ∷ types) (v ∷ values) h =
      let p = and_parts (is_of_type small e t v) (are_of_types small e types values) h in
      both (is_of_type large e t v) (are_of_types large e types values) (type_kept e t v p.0) (operands_kept e types values p.1)

  pub fits_kept : (e : Environment) (frame : Frame) (types : TypeFrame) → fits_frame small e frame types ≡ true
      → fits_frame large e frame types ≡ true
  fits_kept e frame types h =
      let p = and_parts (pointwise (is_of_type small e) types.locals frame.locals) (are_of_types small e types.stack frame.stack) h in
      both (pointwise (is_of_type large e) types.locals frame.locals) (are_of_types large e types.stack frame.stack) (locals_kept e types.locals frame.locals p.0) (operands_kept e types.stack frame.stack p.1)

  pub held_kept : (method : Method) (held : Option ℕ) → holds_rightly small method held ≡ true
      → holds_rightly large method held ≡ true
  held_kept method None h = h
  held_kept method (Some id) h =
      let p = and_parts (is_synchronized method && not (is_static_method method)) (is_in_use small id) h in
      both (is_synchronized method && not (is_static_method method)) (is_in_use large id) p.0 (in_use_kept id p.1)

  -- ---- frames and threads

  pub frame_kept : (types_of : Environment → Option TypeFrame) (frame : Frame) → frame_conforms small types_of frame ≡ true
      → frame_conforms large types_of frame ≡ true
  frame_kept types_of frame h =
      let p = conforms_is small types_of frame h in
      conforms_by large types_of frame (record {
        e = p.e;
        types = p.types;
        is_environment = p.is_environment;
        are_types = p.are_types;
        fits = fits_kept p.e frame p.types p.fits;
        held = held_kept p.e.method frame.held p.held;
      })

  pub callers_kept : (descriptor : List ℕ) (callers : List Frame) → callers_conform small descriptor callers ≡ true
      → callers_conform large descriptor callers ≡ true
  unfolding callers_conform
  callers_kept descriptor [] h = refl
  callers_kept descriptor (frame ∷ callers) h =
      let p = and_parts (frame_conforms small (λ e. waiting_types descriptor e frame.pc) frame) (callers_conform small frame.method.descriptor callers) h in
      both (frame_conforms large (λ e. waiting_types descriptor e frame.pc) frame) (callers_conform large frame.method.descriptor callers) (frame_kept (λ e. waiting_types descriptor e frame.pc) frame p.0) (callers_kept frame.method.descriptor callers p.1)

  pub frames_kept : (frames : List Frame) → frames_conform small frames ≡ true → frames_conform large frames ≡ true
  frames_kept [] h = refl
  frames_kept (frame ∷ callers) h =
      let p = and_parts (frame_conforms small (λ e. current_types e frame.pc) frame) (callers_conform small frame.method.descriptor callers) h in
      both (frame_conforms large (λ e. current_types e frame.pc) frame) (callers_conform large frame.method.descriptor callers) (frame_kept (λ e. current_types e frame.pc) frame p.0) (callers_kept frame.method.descriptor callers p.1)

  pub thread_kept : (thread : Thread) → thread_conforms small thread ≡ true → thread_conforms large thread ≡ true
  thread_kept thread h =
      let p = and_parts (frames_conform small thread.frames) (list_all (can_begin world) thread.to_start) h in
      both (frames_conform large thread.frames) (list_all (can_begin world) thread.to_start) (frames_kept thread.frames p.0) p.1

  -- ---- fields and elements

  pub holds_kept : (type : FieldType) (value : Value) → holds small type value ≡ true → holds large type value ≡ true
  holds_kept (class_type name) null h = refl
  holds_kept (class_type name) (reference id) h = stands_kept id (class_type name) h
  holds_kept (array_of component) null h = refl
  holds_kept (array_of component) (reference id) h = stands_kept id (array_of component) h
  holds_kept (class_type name) value h = absurd cc
  holds_kept (array_of component) value h = absurd cc
  holds_kept long_field (long n) h = refl
  holds_kept long_field value h = absurd cc
  holds_kept primitive (int n) h = h
  holds_kept primitive value h = absurd cc

  pub declared_kept : (descriptor : List ℕ) (value : Value) → is_declared small descriptor value ≡ true
      → is_declared large descriptor value ≡ true
  declared_kept descriptor value h =
      passes_too (λ type. holds small type value) (λ type. holds large type value) (λ type k. holds_kept type value k) (field_type_of descriptor) h
