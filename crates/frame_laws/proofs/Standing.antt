-- Where a frame of verified code stands: the instruction at its pc, the types there, and where flow goes from it.
use Rattle.std.proofs.Common.{◌≡◌, ℕ, zero, suc, List, [], ◌∷◌, Option, Some, None, Bool, true, false, refl, ap, sym, subst, ◌&&◌, slice_get, length, find, option_and_then, ◌==◌}
use Rattle.std.proofs.Math.Path.{◌∙◌}
use Rattle.std.specs.Prelude.{◌⊎◌, not, ◌||◌}
use Rattle.std.specs.List.{list_any}
use Rattle.std.proofs.lemmas.Bool.{and_parts, eqb-true, eq-eqb, cond-false}
use Rattle.jv_model.specs.Partial.{◌>>=◌, passes}
use Rattle.jv_model.specs.Descriptors.{MethodType}
use Rattle.jv_model.specs.Operand.{Operand}
use Rattle.jv_model.specs.Flow.{goes_on, targets_of}
use Rattle.jv_model.specs.Code.{Placed, Handler, Body}
use Rattle.world_model.specs.World.{World, Class, Method, class_in, declared_method}
use Rattle.code_model.specs.TypeReading.{method_type_of}
use Rattle.world_model.specs.BootNames.{java_throwable}
use Rattle.world_model.specs.Supertypes.{is_sub}
use Rattle.typing_model.specs.VerificationType.{TypeFrame, this, class, has}
use Rattle.typing_model.specs.Assignable.{frame_assignable}
use Rattle.typing_model.specs.Environment.{Environment, environment_of}
use Rattle.typing_model.specs.DescriptorFrame.{descriptor_frame, has_room, map_frame_at}
use Rattle.typing_model.specs.Rules.{Visit, frame_of, flow_behind, map_or_flow, goes_to as map_goes_to, covers, caught, misfits, handler_fits, fails}
use Rattle.typing_model.specs.WellTyped.{IsTypedAt, IsTypingTo, flow_to, visit_to}
use Rattle.typing_model.specs.FailingPlace.{visits_from, visits}
use Rattle.machine_model.specs.State.{Frame}
use Rattle.machine_model.specs.LocalStep.{instruction_at}
use Rattle.machine_model.specs.TypedValues.{HeapTyping, fits_frame}
use Rattle.machine_model.specs.Conforms.{current_types, holds_rightly, frame_environment, frame_conforms}
use Rattle.typing_laws.specs.Instructions.{Applies, Goes}
use Rattle.typing_laws.proofs.Frames.{visit_of, get-short}
use Rattle.typing_laws.proofs.Passes.{Framed, framed, has-frame, no-place, typing-frame-at}
use Rattle.typing_laws.proofs.Instructions.{none-fails, typed-applies, goes-next, joined}
use Rattle.frame_laws.specs.Worlds.{StandsRight, IsVerified}
use Rattle.frame_laws.proofs.Outcome.{some_inj, both, all_of}
use Rattle.frame_laws.proofs.Verified.{found, is_first, some_and_is}

-- ---- the instruction at a pc

-- where types are found at a pc, an instruction stands there
stands_at : (e : Environment) (flow : Option TypeFrame) (ps : List (Placed Operand)) (pc : ℕ) (types : TypeFrame)
    → (find (λ (v : Visit). v.placed.pc == pc) (visits_from e flow ps) >>= λ v. frame_of e v) ≡ Some types
    → (n : ℕ) × (p : Placed Operand) × (slice_get ps n ≡ Some p) × (p.pc ≡ pc)
unfolding visits_from
stands_at e flow [] pc types at = absurd cc
stands_at e flow (p ∷ ps) pc types at =
    go (p.pc == pc) refl (λ at. stands_at e (flow_behind e (visit_of flow p ps)) ps pc types at)
  where
    others : Option Visit
    others = find (λ (v : Visit). v.placed.pc == pc) (visits_from e (flow_behind e (visit_of flow p ps)) ps)

    go : (is : Bool) → (p.pc == pc) ≡ is
        → ((others >>= λ v. frame_of e v) ≡ Some types → (n : ℕ) × (q : Placed Operand) × (slice_get ps n ≡ Some q) × (q.pc ≡ pc))
        → (n : ℕ) × (q : Placed Operand) × (slice_get (p ∷ ps) n ≡ Some q) × (q.pc ≡ pc)
    go true is rest = (0, p, refl, eqb-true p.pc pc is)
    go false is rest =
        let r = rest (ap (λ o. o >>= λ v. frame_of e v) (sym (cond-false (p.pc == pc) (Some (visit_of flow p ps)) others is)) ∙ at) in
        (suc r.0, r.1, r.2, r.3)

-- ---- a method that is well typed

-- The environment of a method of the world, and its typing.
pub record Typed (world : World) (e : Environment) : Type 0 where
  pub own : environment_of e.world e.class e.method ≡ Some e
  pub same_world : e.world ≡ world
  pub right : StandsRight e.body
  pub frames : List TypeFrame
  pub typing : IsTypingTo e (length e.body.instructions) frames

-- An instruction of it, with the types before and behind it.
pub record At (e : Environment) (pc : ℕ) (before : TypeFrame) : Type 0 where
  pub placed : Placed Operand
  pub is_pc : placed.pc ≡ pc
  pub is_placed : instruction_at e.body pc ≡ Some placed
  pub applies : Applies e placed before
  -- behind it, where flow goes on
  pub next : goes_on placed.instruction ≡ true → (g : TypeFrame) × (current_types e placed.next ≡ Some g)
      × ((g ≡ applies.after) ⊎ (frame_assignable e.world applies.after g ≡ true))
  -- at a target
  pub target : (k target : ℕ) → slice_get (targets_of placed.instruction) k ≡ Some target
      → (g : TypeFrame) × (current_types e target ≡ Some g) × (frame_assignable e.world applies.after g ≡ true)
  -- at a handler that covers it
  pub handler : (k : ℕ) (h : Handler Operand) → slice_get e.body.handlers k ≡ Some h → covers pc h ≡ true
      → (g : TypeFrame) × (current_types e h.target ≡ Some g)
      × (frame_assignable e.world (record { locals = before.locals; stack = class (caught h) ∷ [] }) g ≡ true)

-- of two tests that don't hold together neither does
or_false : (a b : Bool) → (a || b) ≡ false → (a ≡ false) × (b ≡ false)
or_false true b h = absurd cc
or_false false b h = (refl, h)

-- a test that no element passes an element doesn't pass
none_passes : {A : Type 0} (test : A → Bool) (xs : List A) (k : ℕ) (x : A) → list_any test xs ≡ false
    → slice_get xs k ≡ Some x → test x ≡ false
none_passes test [] k x h at = absurd cc
none_passes test (y ∷ ys) zero x h at =
    ap test (sym (some_inj at)) ∙ (or_false (test y) (list_any test ys) h).0
none_passes test (y ∷ ys) (suc k) x h at = none_passes test ys k x (or_false (test y) (list_any test ys) h).1 at

-- where a handler covers a place and doesn't misfit, it fits
fits_if_covers : (a b : Bool) → (a && not b) ≡ false → a ≡ true → b ≡ true
fits_if_covers true true h k = refl
fits_if_covers true false h k = absurd cc
fits_if_covers false b h k = absurd cc

-- the types at a pc are those of the first visit there
frame_of_pc : (e : Environment) (pc : ℕ) → environment_of e.world e.class e.method ≡ Some e
    → current_types e pc ≡ (find (λ (v : Visit). v.placed.pc == pc) (visits e) >>= λ v. frame_of e v)
frame_of_pc e pc is = rw is refl

module _ (world : World) (e : Environment) (t : Typed world e) where
  -- the types at an instruction are those of its number
  types_at : (n : ℕ) (q : Placed Operand) → slice_get e.body.instructions n ≡ Some q
      → current_types e q.pc ≡ slice_get t.frames n
  types_at n q at =
      typing-frame-at e.world e.class e.method t.frames (record { environment = e; is_environment = t.own; typing = t.typing }) n q at (is_first e.body t.right n q at)

  -- where an instruction has a map frame, its types are these
  map_types : (m : ℕ) (q : Placed Operand) (target : ℕ) (g : TypeFrame) → slice_get e.body.instructions m ≡ Some q
      → q.pc ≡ target → map_frame_at e target ≡ Some g → current_types e target ≡ Some g
  map_types m q target g at is map =
      let here = t.typing.typed m q (get-short e.body.instructions m q at) at in
      ap (current_types e) (sym is)
      ∙ (types_at m q at
      ∙ (sym here.framed ∙ ap (λ o. map_or_flow o (flow_to e t.frames m)) (ap (map_frame_at e) is ∙ map)))

  -- what goes to a map frame at an instruction goes to the types there
  pub goes_there : (m : ℕ) (q : Placed Operand) (target : ℕ) (from : TypeFrame) → slice_get e.body.instructions m ≡ Some q
      → q.pc ≡ target → map_goes_to e from target ≡ true
      → (g : TypeFrame) × (current_types e target ≡ Some g) × (frame_assignable e.world from g ≡ true)
  goes_there m q target from at is h =
      let g = some_and_is (frame_assignable e.world from) (map_frame_at e target) h in
      (g.0, map_types m q target g.0 at is g.1, g.2)

  -- where there are types at a pc, an instruction stands there, and flow goes on from it rightly
  pub at_pc : (pc : ℕ) (before : TypeFrame) → current_types e pc ≡ Some before → At e pc before
  unfolding Goes
  at_pc pc before h =
      let f = stands_at e (Some (descriptor_frame e)) e.body.instructions pc before (sym (frame_of_pc e pc t.own) ∙ h) in
      let are : slice_get t.frames f.0 ≡ Some before = sym (types_at f.0 f.1 f.2) ∙ (ap (current_types e) f.3 ∙ h) in
      let applies = typed-applies e t.frames f.0 f.1 before t.typing f.2 are in
      record {
        placed = f.1;
        is_pc = f.3;
        is_placed = ap (instruction_at e.body) (sym f.3) ∙ found e.body t.right f.0 f.1 f.2;
        applies = applies;
        next = λ on.
            let n = goes-next e t.frames f.0 f.1 before applies.after t.typing f.2 are applies.is_after on in
            (n.1, ap (current_types e) (t.right.behind f.0 f.1 n.0 f.2 n.2) ∙ (types_at (suc f.0) n.0 n.2 ∙ n.3), n.4);
        target = λ k target at.
            let q = t.right.targets f.0 k target f.1 f.2 at in
            goes_there q.0 q.1 target applies.after q.2 q.3 (all_of (map_goes_to e applies.after) (targets_of f.1.instruction) k target applies.targets at);
        handler = λ k h at covered.
            let q = t.right.handlers k h at in
            let fits = fits_if_covers (covers f.1.pc h) (handler_fits e before h) (none_passes (misfits e f.1.pc before) e.body.handlers k h applies.handlers at) (ap (λ pc. covers pc h) f.3 ∙ covered) in
            let parts = and_parts (map_goes_to e (record { locals = before.locals; stack = class (caught h) ∷ [] }) h.target && is_sub e.world (caught h) java_throwable) (not (has this before.locals)) fits in
            goes_there q.0 q.1 h.target (record { locals = before.locals; stack = class (caught h) ∷ [] }) q.2 q.3
            (and_parts (map_goes_to e (record { locals = before.locals; stack = class (caught h) ∷ [] }) h.target) (is_sub e.world (caught h) java_throwable) parts.0).0;
      }

  -- a method begins with the frame of its descriptor, which goes to the types at 0; the arguments have room
  pub entry : (g : TypeFrame) × (current_types e 0 ≡ Some g)
      × ((g ≡ descriptor_frame e) ⊎ (frame_assignable e.world (descriptor_frame e) g ≡ true)) × (has_room e ≡ true)
  unfolding fails
  entry =
      let first = t.right.first in
      let here = t.typing.typed 0 first.0 (get-short e.body.instructions 0 first.0 first.1) first.1 in
      go first here (has-frame e (visit_to e t.frames 0 first.0) here.right)
    where
      go : (first : (p : Placed Operand) × (slice_get e.body.instructions 0 ≡ Some p) × (p.pc ≡ 0))
          → IsTypedAt e t.frames 0 first.0 → Framed (frame_of e (visit_to e t.frames 0 first.0))
          → (g : TypeFrame) × (current_types e 0 ≡ Some g)
          × ((g ≡ descriptor_frame e) ⊎ (frame_assignable e.world (descriptor_frame e) g ≡ true)) × (has_room e ≡ true)
      go first here (framed g is) = (
        g,
        ap (current_types e) (sym first.2) ∙ (types_at 0 first.0 first.1 ∙ (sym here.framed ∙ is)),
        joined e (visit_to e t.frames 0 first.0) (descriptor_frame e) g refl is here.right,
        has_it (first.0.pc == 0) (has_room e)
            (or_false _ ((first.0.pc == 0) && not (has_room e)) (none-fails e (visit_to e t.frames 0 first.0) here.right).3).1
            (eq-eqb first.0.pc 0 first.2),
      )
        where
          has_it : (a b : Bool) → (a && not b) ≡ false → a ≡ true → b ≡ true
          has_it a b h k = fits_if_covers a b h k

-- ---- the environment of a method, and of a frame

-- the environment of a method is that of its own method
own_environment : (world : World) (c : Class) (method : Method) (e : Environment) → environment_of world c method ≡ Some e
    → (environment_of e.world e.class e.method ≡ Some e) × (e.world ≡ world)
own_environment world c method e h = go method.code refl h
  where
    typed : (body : Body Operand) (t : Option MethodType)
        → (t >>= λ type. Some (record { world = world; class = c; method = method; type = type; body = body })) ≡ Some e
        → (environment_of e.world e.class e.method ≡ Some e) × (e.world ≡ world)
    typed body None k = absurd cc
    typed body (Some type) k =
        let is : record { world = world; class = c; method = method; type = type; body = body } ≡ e = some_inj k in
        (sym (λ i. environment_of (is i).world (is i).class (is i).method) ∙ h, sym (λ i. (is i).world))

    go : (o : Option (Body Operand)) → method.code ≡ o
        → (o >>= λ body. method_type_of method.descriptor >>= λ type. Some (record { world = world; class = c; method = method; type = type; body = body })) ≡ Some e
        → (environment_of e.world e.class e.method ≡ Some e) × (e.world ≡ world)
    go None is k = absurd cc
    go (Some body) is k = typed body (method_type_of method.descriptor) k

-- in a verified world the environment of a method of a class is typed
pub typed_method : (world : World) → IsVerified world → (name : List ℕ) (c : Class) (m descriptor : List ℕ) (method : Method)
    (e : Environment) → class_in world name ≡ Some c → declared_method m descriptor c ≡ Some method
    → environment_of world c method ≡ Some e → Typed world e
typed_method world is name c m descriptor method e there declared h =
    let own = own_environment world c method e h in
    let place = no-place world c method e h (is.typed name c m descriptor method e there declared h) in
    record {
      own = own.0;
      same_world = own.1;
      right = is.right name c m descriptor method e there declared h;
      frames = place.0;
      typing = subst (λ (d : Environment). IsTypingTo d (length d.body.instructions) place.0) (some_inj (sym place.1.is_environment ∙ h)) place.1.typing;
    }

-- and so is that of a frame
pub typed_frame : (world : World) → IsVerified world → (frame : Frame) (e : Environment)
    → frame_environment world frame ≡ Some e → Typed world e
typed_frame world is frame e h = go (class_in world frame.method.class) refl h
  where
    there : (c : Class) (o : Option Method) → class_in world frame.method.class ≡ Some c
        → declared_method frame.method.name frame.method.descriptor c ≡ o
        → option_and_then (environment_of world c) o ≡ Some e → Typed world e
    there c None at declared h = absurd cc
    there c (Some method) at declared h =
        typed_method world is frame.method.class c frame.method.name frame.method.descriptor method e at declared h

    go : (o : Option Class) → class_in world frame.method.class ≡ o
        → option_and_then (λ (c : Class). option_and_then (environment_of world c) (declared_method frame.method.name frame.method.descriptor c)) o ≡ Some e
        → Typed world e
    go None at h = absurd cc
    go (Some c) at h = there c (declared_method frame.method.name frame.method.descriptor c) at refl h

-- ---- a frame that conforms

-- What it takes for a frame to conform to types.
pub record Parts (heap : HeapTyping) (types_of : Environment → Option TypeFrame) (frame : Frame) : Type 0 where
  pub e : Environment
  pub types : TypeFrame
  pub is_environment : frame_environment heap.world frame ≡ Some e
  pub are_types : types_of e ≡ Some types
  pub fits : fits_frame heap e frame types ≡ true
  pub held : holds_rightly heap e.method frame.held ≡ true

-- a frame that conforms has these parts
pub conforms_is : (heap : HeapTyping) (types_of : Environment → Option TypeFrame) (frame : Frame)
    → frame_conforms heap types_of frame ≡ true → Parts heap types_of frame
conforms_is heap types_of frame h =
    let e = some_and_is (λ (e : Environment). passes (fits_frame heap e frame) (types_of e) && holds_rightly heap e.method frame.held) (frame_environment heap.world frame) h in
    let both = and_parts (passes (fits_frame heap e.0 frame) (types_of e.0)) (holds_rightly heap e.0.method frame.held) e.2 in
    let types = some_and_is (fits_frame heap e.0 frame) (types_of e.0) both.0 in
    record { e = e.0; types = types.0; is_environment = e.1; are_types = types.1; fits = types.2; held = both.1 }

-- a frame that has these parts conforms
pub conforms_by : (heap : HeapTyping) (types_of : Environment → Option TypeFrame) (frame : Frame)
    → Parts heap types_of frame → frame_conforms heap types_of frame ≡ true
conforms_by heap types_of frame p =
    rw (p.is_environment, p.are_types) (both (fits_frame heap p.e frame p.types) (holds_rightly heap p.e.method frame.held) p.fits p.held)
