-- Throwing is right: the handler that takes a throwable, frames that end without one, and the thread that ends with it.
use Rattle.std.proofs.Common.{◌≡◌, ℕ, suc, List, [], ◌∷◌, Option, Some, None, Bool, true, false, refl, ap, sym, subst, ◌∙◌, if◌then◌else◌, cond, length, slice_get, option_and_then, nat_le, nat_lt, inl, inr, codes, flat_map, drop, find, unwrap_or}
use Rattle.std.specs.Prelude.{bytes_eq, ◌||◌, ◌&&◌, ⊤, option_to_list}
use Rattle.std.specs.List.{list_all}
use Rattle.std.proofs.lemmas.Bool.{and_parts, or_cases}
use Rattle.std.proofs.lemmas.List.{append-nil}
use lib.Pointwise.{pointwise}
use Rattle.jv_model.specs.Partial.{◌>>=◌}
use Rattle.jv_model.specs.Descriptors.{FieldType, class_type, array_of}
use Rattle.jv_model.specs.Operand.{Operand, class_named}
use Rattle.jv_model.specs.Code.{Handler}
use Rattle.world_model.specs.World.{World, Method}
use Rattle.world_model.specs.BootNames.{java_string, java_throwable}
use Rattle.world_model.specs.Supertypes.{is_sub}
use Rattle.typing_model.specs.VerificationType.{class, TypeFrame}
use Rattle.typing_model.specs.Assignable.{is_subtype, names_interface}
use Rattle.typing_model.specs.Environment.{Environment, class_of as class_of_operand}
use Rattle.std.specs.Option.{option_map_or}
use Rattle.typing_model.specs.Rules.{caught}
use Rattle.typing_model.specs.InstructionTypes.{type_step}
use Rattle.typing_model.specs.Transition.{to, below, popped}
use Rattle.machine_model.specs.Value.{Value, reference}
use Rattle.machine_model.specs.Heap.{Contents, instance, array, string, contents_at, words_of}
use Rattle.machine_model.specs.ObjectTypes.{own_type}
use Rattle.machine_model.specs.State.{Frame, Thread, State, with_thread}
use Rattle.machine_model.specs.LocalStep.{instruction_at}
use Rattle.machine_model.specs.Deed.{Running, class_of_contents, class_of}
use Rattle.machine_model.specs.ObjectSteps.{new_contents}
use Rattle.machine_model.specs.Throwing.{catches, handler_in, handler_of, left_by, caught_at, match_option, thrown_in, frames_of, thrown, throws_new, throw_object}
use Rattle.machine_model.specs.TypedValues.{HeapTyping, heap_typing, may_stand, stands_for, is_of_type, are_of_types, fits_frame}
use Rattle.machine_model.specs.Conforms.{calls, result_types, current_types, waiting_types, holds_rightly, frame_environment, frame_conforms, callers_conform, frames_conform, can_begin, thread_conforms, contents_conform, ConformsWith}
use Rattle.link_laws.proofs.Names.{same_text}
use Rattle.frame_laws.proofs.Outcome.{some_inj, both, bind_is, when_is, map_is, popped_is, all_of}
use Rattle.frame_laws.proofs.Verified.{some_and_is}
use Rattle.frame_laws.proofs.Standing.{typed_frame, at_pc, conforms_is}
use Rattle.frame_laws.proofs.Onward.{subsumes, arrives}
use Rattle.frame_laws.proofs.Growing.{callers_kept}
use Rattle.machine_laws.specs.Runnable.{IsRunnable, IsThrowable}
use Rattle.machine_laws.proofs.TypedStates.{IsTypedDeed}
use Rattle.machine_laws.proofs.Heaps.{typed_is, and_next, allocated, new_type}
use Rattle.machine_laws.proofs.Ready.{Ready, allocating, frames_set, throws_rightly, operands_fit}
use Rattle.machine_laws.proofs.Operands.{Object, no_object, object, class_object, take_wanted, one_place}
use Rattle.machine_laws.proofs.ArrayStores.{subtype_stands}
use Rattle.machine_laws.proofs.Making.{made_type, made_conforms}
use Rattle.machine_laws.proofs.Calling.{of_frame}
use Rattle.machine_laws.proofs.Beginning.{thread_set}
use Rattle.machine_laws.proofs.Returns.{leaving}

-- what is found in a list stands at a number and passes the test
found_at : {A : Type 0} (test : A → Bool) (xs : List A) (x : A) → find test xs ≡ Some x
    → (k : ℕ) × (slice_get xs k ≡ Some x) × (test x ≡ true)
found_at test [] x h = absurd cc
found_at test (y ∷ ys) x h = go (test y) refl h (λ k. found_at test ys x k)
  where
    go : (b : Bool) → test y ≡ b → cond b (Some y) (find test ys) ≡ Some x
        → (find test ys ≡ Some x → (k : ℕ) × (slice_get ys k ≡ Some x) × (test x ≡ true))
        → (k : ℕ) × (slice_get (y ∷ ys) k ≡ Some x) × (test x ≡ true)
    go true is h rest = (0, h, sym (ap test (some_inj h)) ∙ is)
    go false is h rest = let r = rest h in (suc r.0, r.1, r.2)

sub_is : (world : World) (a b : List ℕ) → is_sub world a b ≡ true → is_subtype world (class_type a) (class_type b) ≡ true
unfolding is_subtype
sub_is world a b h = h

-- what may stand for a throwable isn't an array, and is of a class that goes to it
may_stand_class : (world : World) (name root : List ℕ) → may_stand world (class_type name) (class_type java_throwable) ≡ true
    → (bytes_eq name java_throwable || names_interface world java_throwable || is_sub world name java_throwable) ≡ true
unfolding may_stand
may_stand_class world name root h = h

array_stands : (world : World) (component : FieldType) → may_stand world (array_of component) (class_type java_throwable) ≡ true
    → names_interface world java_throwable ≡ false → ⊥
unfolding may_stand
array_stands world component h none = cc

-- a handler that catches a class catches it by a class above it
caught_above : (world : World) (thrown : List ℕ) (h : Handler Operand) → is_sub world thrown java_throwable ≡ true
    → catches world thrown h.catch ≡ true → is_sub world thrown (caught h) ≡ true
caught_above world thrown h below is = go h.catch is
  where
    go : (o : Option Operand) → catches world thrown o ≡ true
        → is_sub world thrown (option_map_or (λ operand. unwrap_or (class_of_operand operand) []) o java_throwable) ≡ true
    go None is = below
    go (Some (class_named name)) is = is
    go (Some other) is = absurd cc

-- ---- frames in which something is thrown

-- A frame, current or waiting, at an instruction before which its locals fit.
pub record Catches (heap : HeapTyping) (frame : Frame) : Type 0 where
  pub e : Environment
  pub before : TypeFrame
  pub is_environment : frame_environment heap.world frame ≡ Some e
  pub is_before : current_types e frame.pc ≡ Some before
  pub locals : pointwise (is_of_type heap e) before.locals frame.locals ≡ true
  pub held : holds_rightly heap e.method frame.held ≡ true

pub current_catches : (heap : HeapTyping) (frame : Frame) → frame_conforms heap (λ e. current_types e frame.pc) frame ≡ true
    → Catches heap frame
current_catches heap frame h =
    let p = conforms_is heap (λ e. current_types e frame.pc) frame h in
    record {
      e = p.e;
      before = p.types;
      is_environment = p.is_environment;
      is_before = p.are_types;
      locals = (and_parts (pointwise (is_of_type heap p.e) p.types.locals frame.locals) (are_of_types heap p.e p.types.stack frame.stack) p.fits).0;
      held = p.held;
    }

pub waiting_catches : (heap : HeapTyping) (descriptor : List ℕ) (frame : Frame)
    → frame_conforms heap (λ e. waiting_types descriptor e frame.pc) frame ≡ true → Catches heap frame
waiting_catches heap descriptor frame h =
    let p = conforms_is heap (λ e. waiting_types descriptor e frame.pc) frame h in
    let before = bind_is (λ before. instruction_at p.e.body frame.pc >>= λ placed. type_step p.e frame.pc placed.instruction before >>= λ after. if calls descriptor placed.instruction then Some (record before { stack = drop (length (result_types descriptor)) after.stack }) else None) (current_types p.e frame.pc) p.types p.are_types in
    let placed = bind_is (λ placed. type_step p.e frame.pc placed.instruction before.0 >>= λ after. if calls descriptor placed.instruction then Some (record before.0 { stack = drop (length (result_types descriptor)) after.stack }) else None) (instruction_at p.e.body frame.pc) p.types before.2 in
    let after = bind_is (λ (after : TypeFrame). if calls descriptor placed.0.instruction then Some (record before.0 { stack = drop (length (result_types descriptor)) after.stack }) else None) (type_step p.e frame.pc placed.0.instruction before.0) p.types placed.2 in
    let w = when_is (calls descriptor placed.0.instruction) (Some (record before.0 { stack = drop (length (result_types descriptor)) after.0.stack })) p.types after.2 in
    record {
      e = p.e;
      before = before.0;
      is_environment = p.is_environment;
      is_before = before.1;
      locals = (and_parts (pointwise (is_of_type heap p.e) before.0.locals frame.locals) (are_of_types heap p.e (drop (length (result_types descriptor)) after.0.stack) frame.stack)
          (subst (λ (f : TypeFrame). fits_frame heap p.e frame f ≡ true) (sym (some_inj w.1)) p.fits)).0;
      held = p.held;
    }

-- the newest of these frames catches, and the others wait one for another
abbrev pub Chain : HeapTyping → List Frame → Type 0
Chain heap [] = ⊤
Chain heap (frame ∷ callers) = Catches heap frame × (callers_conform heap frame.method.descriptor callers ≡ true)

pub callers_chain : (heap : HeapTyping) (descriptor : List ℕ) (callers : List Frame) → callers_conform heap descriptor callers ≡ true
    → Chain heap callers
unfolding callers_conform
callers_chain heap descriptor [] h = tt
callers_chain heap descriptor (frame ∷ callers) h =
    let p = and_parts (frame_conforms heap (λ e. waiting_types descriptor e frame.pc) frame) (callers_conform heap frame.method.descriptor callers) h in
    (waiting_catches heap descriptor frame p.0, p.1)

pub frames_chain : (heap : HeapTyping) (frames : List Frame) → frames_conform heap frames ≡ true → Chain heap frames
frames_chain heap [] h = tt
frames_chain heap (frame ∷ callers) h =
    let p = and_parts (frame_conforms heap (λ e. current_types e frame.pc) frame) (callers_conform heap frame.method.descriptor callers) h in
    (current_catches heap frame p.0, p.1)

-- ---- a handler

module _ (t : ℕ) (name : List ℕ) (id : ℕ) where
  -- a frame goes on at a handler, with the throwable
  handles : (state : State) (live : ℕ → Bool) → IsRunnable state.world → (frame : Frame) (target : ℕ)
      → Catches (heap_typing state live) frame → handler_of state.world frame name ≡ Some target
      → (heap_typing state live).type_at id ≡ Some (class_type name) → is_sub state.world name java_throwable ≡ true
      → frame_conforms (heap_typing state live) (λ e. current_types e target) (caught_at id frame target) ≡ true
  unfolding are_of_types is_of_type
  handles state live runnable frame target c handler at below =
      let of = of_frame state.world frame c.e c.is_environment in
      let ty = typed_frame state.world runnable.verified frame c.e c.is_environment in
      let in_body : handler_in state.world c.e.body frame.pc name ≡ Some target =
      sym (ap (option_and_then (λ body. handler_in state.world body frame.pc name)) of.code) ∙ (sym (ap (option_and_then (λ (m : Method). option_and_then (λ body. handler_in state.world body frame.pc name) m.code)) of.named) ∙ handler) in
      let h = map_is (λ (h : Handler Operand). h.target) (find (λ (h : Handler Operand). nat_le h.from frame.pc && nat_lt frame.pc h.to && catches state.world name h.catch) c.e.body.handlers) target in_body in
      let k = found_at (λ (h : Handler Operand). nat_le h.from frame.pc && nat_lt frame.pc h.to && catches state.world name h.catch) c.e.body.handlers h.0 h.1 in
      let p = and_parts (nat_le h.0.from frame.pc && nat_lt frame.pc h.0.to) (catches state.world name h.0.catch) k.2 in
      let g = (at_pc state.world c.e ty frame.pc c.before c.is_before).handler k.0 h.0 k.1 p.0 in
      let stands : stands_for (heap_typing state live) id (class_type (caught h.0)) ≡ true =
      rw at (subtype_stands state.world (class_type name) (class_type (caught h.0)) (sub_is state.world name (caught h.0) (caught_above state.world name h.0 below p.1))) in
      arrives (heap_typing state live) runnable.verified (caught_at id frame target) c.e ty (record { locals = c.before.locals; stack = class (caught h.0) ∷ [] }) g.0 c.is_environment
      (ap (current_types c.e) (sym h.2) ∙ g.1) (inr g.2)
      (both (pointwise (is_of_type (heap_typing state live) c.e) c.before.locals frame.locals) (are_of_types (heap_typing state live) c.e (class (caught h.0) ∷ []) (reference id ∷ [])) c.locals
      (both (stands_for (heap_typing state live) id (class_type (caught h.0))) true stands refl))
      c.held

  -- a thread in whose newest frame something is thrown conforms after it
  pub thrown_conforms : (frames : List Frame) (state : State) (live : ℕ → Bool) → IsRunnable state.world
      → ConformsWith state live → Chain (heap_typing state live) frames
      → (heap_typing state live).type_at id ≡ Some (class_type name) → is_sub state.world name java_throwable ≡ true
      → ConformsWith (thrown_in t name id frames state) live
  unfolding thrown_in
  thrown_conforms [] state live runnable is chain at below =
      thread_set state live t (λ (th : Thread). record th { frames = []; to_start = []; thrown = Some name }) is (λ th h. refl)
  thrown_conforms (frame ∷ callers) state live runnable is chain at below =
      let f = leaving t frame state live is in
      either (handler_of state.world frame name) refl (λ none.
      thrown_conforms callers (left_by t frame state) live (subst IsRunnable (sym f.same_world) runnable) f.conforms
      (callers_chain (heap_typing (left_by t frame state) live) frame.method.descriptor callers
      (subst (λ (w : World). callers_conform (record { world = w; type_at = (heap_typing (left_by t frame state) live).type_at }) frame.method.descriptor callers ≡ true) (sym f.same_world)
      (callers_kept state.world (heap_typing state live).type_at (heap_typing (left_by t frame state) live).type_at f.grows frame.method.descriptor callers chain.1)))
      (f.grows id (class_type name) at) (subst (λ (w : World). is_sub w name java_throwable ≡ true) (sym f.same_world) below))
    where
      either : (o : Option ℕ) → handler_of state.world frame name ≡ o
          → (o ≡ None → ConformsWith (thrown_in t name id callers (left_by t frame state)) live)
          → ConformsWith (match_option o (λ target. with_thread t (λ (th : Thread). record th { frames = caught_at id frame target ∷ callers }) state) (λ none. thrown_in t name id callers (left_by t frame state))) live
      either None handler rest = rest refl
      either (Some target) handler rest =
          frames_set state live t (caught_at id frame target ∷ callers) is
          (both (frame_conforms (heap_typing state live) (λ e. current_types e target) (caught_at id frame target)) (callers_conform (heap_typing state live) frame.method.descriptor callers)
          (handles state live runnable frame target chain.0 handler at below) chain.1)

-- ---- throws

-- the frames of a thread
frames_of_chain : (state : State) (live : ℕ → Bool) → ConformsWith state live → (t : ℕ)
    → Chain (heap_typing state live) (frames_of t state)
frames_of_chain state live is t = go (slice_get state.threads t) refl
  where
    go : (o : Option Thread) → slice_get state.threads t ≡ o
        → Chain (heap_typing state live) (flat_map (λ (th : Thread). th.frames) (option_to_list o))
    go None at = tt
    go (Some th) at =
        let conforms = all_of (thread_conforms (heap_typing state live)) state.threads t th is.threads at in
        subst (Chain (heap_typing state live)) (sym (append-nil th.frames))
        (frames_chain (heap_typing state live) th.frames (and_parts (frames_conform (heap_typing state live) th.frames) (list_all (can_begin state.world) th.to_start) conforms).0)

-- A throw of a throwable that is there is right.
pub thrown_is_right : (state : State) (live : ℕ → Bool) → IsRunnable state.world → ConformsWith state live
    → (words t : ℕ) (name : List ℕ) (id : ℕ) (native : Bool) → (heap_typing state live).type_at id ≡ Some (class_type name)
    → is_sub state.world name java_throwable ≡ true → IsTypedDeed state.world (thrown words t name id native state)
thrown_is_right state live runnable is words t name id native at below = record {
  live = live;
  is = thrown_conforms t name id (frames_of t state) state live runnable is (frames_of_chain state live is t) at below;
}

-- A throw of a new object is right.
pub throws_new_is_right : (state : State) (live : ℕ → Bool) → IsRunnable state.world → ConformsWith state live
    → (t : ℕ) (name : List ℕ) (native : Bool) → IsThrowable state.world name → IsTypedDeed state.world (throws_new t name native state)
throws_new_is_right state live runnable is t name native throwable =
    let contents = new_contents state.world name in
    let f = allocating state live contents is (made_conforms (heap_typing (allocated state live contents) (and_next state live)) name throwable.present (runnable.fields name throwable.present)) in
    thrown_is_right (allocated state live contents) (and_next state live) runnable f.conforms (words_of contents) t name (length state.heap) native
    (new_type state live contents (class_type name) (made_type state.world name)) throwable.below

-- ---- `athrow`

module _ (r : Running) (live : ℕ → Bool) (ready : Ready r live) where
  -- an object that may stand for a throwable is of a class below it
  throwable_there : (id : ℕ) → stands_for (heap_typing r.state live) id (class_type java_throwable) ≡ true
      → (name : List ℕ) × (class_of r.state id ≡ Some name) × ((heap_typing r.state live).type_at id ≡ Some (class_type name))
      × (is_sub r.state.world name java_throwable ≡ true)
  throwable_there id h =
      let own = some_and_is (λ own. may_stand r.state.world own (class_type java_throwable)) ((heap_typing r.state live).type_at id) h in
      let is = typed_is r.state live id own.0 own.1 in
      of is.1 own.0 is.2 is.3 own.1 own.2 (ready.conforms.shared.objects id is.1 is.0 is.2)
    where
      below : (name : List ℕ) → may_stand r.state.world (class_type name) (class_type java_throwable) ≡ true
          → is_sub r.state.world name java_throwable ≡ true
      below name stands = lies name (may_stand_class r.state.world name java_throwable stands)
        where
          lies : (name : List ℕ) → (bytes_eq name java_throwable || names_interface r.state.world java_throwable || is_sub r.state.world name java_throwable) ≡ true
              → is_sub r.state.world name java_throwable ≡ true
          lies name h = elim (or_cases (bytes_eq name java_throwable || names_interface r.state.world java_throwable) (is_sub r.state.world name java_throwable) h) [
            | inl k ↦ elim (or_cases (bytes_eq name java_throwable) (names_interface r.state.world java_throwable) k) [
              | inl same ↦ subst (λ (n : List ℕ). is_sub r.state.world n java_throwable ≡ true) (sym (same_text name java_throwable same)) ready.runnable.throwable.below
              | inr j ↦ absurd (let none = ready.runnable.throwable_class in cc)
            ]
            | inr k ↦ k
          ]

      of : (contents : Contents) (own : FieldType) → contents_at r.state.heap id ≡ Some contents → own_type contents ≡ own
          → (heap_typing r.state live).type_at id ≡ Some own
          → may_stand r.state.world own (class_type java_throwable) ≡ true → contents_conform (heap_typing r.state live) contents ≡ true
          → (name : List ℕ) × (class_of r.state id ≡ Some name) × ((heap_typing r.state live).type_at id ≡ Some (class_type name))
          × (is_sub r.state.world name java_throwable ≡ true)
      of (instance name values) own there same at stands conforms = (
        name,
        ap (option_and_then (λ contents. Some (class_of_contents contents))) there,
        at ∙ ap Some (sym same),
        below name (subst (λ (t : FieldType). may_stand r.state.world t (class_type java_throwable) ≡ true) (sym same) stands),
      )
      of (string units) own there same at stands conforms = (
        java_string,
        ap (option_and_then (λ contents. Some (class_of_contents contents))) there,
        at ∙ ap Some (sym same),
        below java_string (subst (λ (t : FieldType). may_stand r.state.world t (class_type java_throwable) ≡ true) (sym same) stands),
      )
      of (array type elements) own there same at stands conforms =
          absurd (array_stands r.state.world type (subst (λ (t : FieldType). may_stand r.state.world t (class_type java_throwable) ≡ true) (sym same) stands) ready.runnable.throwable_class)

  -- `athrow` is right
  pub throw_is_right : popped (to ready.e (class java_throwable) ∷ []) ready.before ≡ Some ready.at.applies.after
      → IsTypedDeed r.state.world (throw_object r r.frame.stack)
  throw_is_right h =
      let p = popped_is (to ready.e (class java_throwable) ∷ []) ready.before ready.at.applies.after h in
      let x = take_wanted (heap_typing r.state live) ready.e (subsumes (heap_typing r.state live) ready.runnable.verified ready.e ready.typed) (class java_throwable) [] ready.before.stack p.0 r.frame.stack refl p.1 (operands_fit r live ready) in
      subst (λ (vs : List Value). IsTypedDeed r.state.world (throw_object r vs)) (sym (x.is ∙ one_place (heap_typing r.state live) ready.e (class java_throwable) x.value x.others refl x.of))
      (of x.value x.others (class_object (heap_typing r.state live) ready.e java_throwable x.value x.of))
    where
      of : (value : Value) (others : List Value) → Object (heap_typing r.state live) ready.e (class_type java_throwable) value
          → IsTypedDeed r.state.world (throw_object r (value ∷ others))
      of _ others no_object = throws_rightly r live ready (codes "java/lang/NullPointerException") false refl
      of _ others (object id stands) =
          let c = throwable_there id stands in
          rw c.1 (thrown_is_right r.state live ready.runnable ready.conforms 0 r.thread c.0 id false c.2 c.3)
