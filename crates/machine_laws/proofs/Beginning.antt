-- The frame of a method as it begins conforms; and so does a thread that begins a method of its own.
use Rattle.std.proofs.Common.{◌≡◌, ℕ, suc, zero, ◌-◌, pos, List, [], ◌∷◌, ◌++◌, Option, Some, None, Bool, true, false, refl, ap, sym, subst, ◌∙◌, if◌then◌else◌, length, option_map, map, replicate, nat_le, inl, inr, codes}
use Rattle.std.specs.Prelude.{◌⊎◌, is_some, bytes_eq, ◌||◌, not, ◌&&◌}
use Rattle.std.specs.List.{list_all}
use Rattle.std.proofs.lemmas.Bool.{and_parts, or_cases, or_right}
use lib.Pointwise.{pointwise}
use Rattle.jv_model.specs.Descriptors.{class_type, array_of, MethodType}
use Rattle.jv_model.specs.Operand.{Operand, MemberReference}
use Rattle.jv_model.specs.Code.{Body}
use Rattle.world_model.specs.World.{World, Class, Method, class_in, declared_method, is_static_method}
use Rattle.world_model.specs.BootNames.{java_string}
use Rattle.world_model.specs.Members.{method_named}
use Rattle.code_model.specs.TypeReading.{method_type_of, parameter_words, parameters_within, type_at, before_semicolon, are_parts, dimensions}
use Rattle.typing_model.specs.VerificationType.{VerificationType, top, this, class, type_of}
use Rattle.typing_model.specs.Environment.{Environment, is_constructor}
use Rattle.typing_model.specs.DescriptorFrame.{as_locals, parameter_locals, descriptor_frame, filled}
use Rattle.machine_model.specs.Value.{Value, int, reference}
use Rattle.machine_model.specs.State.{Thread, State, with_thread}
use Rattle.machine_model.specs.Deed.{Deed, blocked}
use Rattle.machine_model.specs.Monitors.{is_synchronized, change_monitor, held_by}
use Rattle.machine_model.specs.Heap.{replace_at, entered}
use Rattle.machine_model.specs.CallSteps.{argument_words, first_locals, new_frame, waits, entered_by}
use Rattle.machine_model.specs.ReturnSteps.{start_arguments, found_method, started_with, starts_next}
use Rattle.machine_model.specs.TypedValues.{HeapTyping, heap_typing, stands_for, is_of_type, are_of_types}
use Rattle.machine_model.specs.Conforms.{current_types, holds_rightly, frame_environment, frame_conforms, callers_conform, frames_conform, can_begin, thread_conforms, ConformsWith}
use Rattle.world_model.specs.LookUp.{Found}
use Rattle.link_laws.proofs.Names.{same_text}
use Rattle.frame_laws.specs.Worlds.{IsVerified}
use Rattle.frame_laws.proofs.Outcome.{both, bind_is}
use Rattle.frame_laws.proofs.Verified.{some_and_is}
use Rattle.frame_laws.proofs.Standing.{typed_frame, entry}
use Rattle.frame_laws.proofs.Onward.{arrives}
use Rattle.frame_laws.proofs.Growing.{frame_kept}
use Rattle.machine_laws.specs.Runnable.{IsRunnable}
use Rattle.machine_laws.proofs.TypedStates.{IsTypedState, IsTypedDeed}
use Rattle.state_laws.proofs.Lists.{all_replaced}
use Rattle.machine_laws.proofs.Ready.{shared_with, Follows, itself, monitoring}
use Rattle.machine_laws.proofs.Calling.{of_frame, found_is}
use Rattle.machine_laws.proofs.Objects.{stands_itself}

-- ---- pairs

pub pairs_append : {A B : Type 0} (p : A → B → Bool) (xs zs : List A) (ys ws : List B) → pointwise p xs ys ≡ true
    → pointwise p zs ws ≡ true → pointwise p (xs ++ zs) (ys ++ ws) ≡ true
pairs_append p [] zs [] ws h k = k
pairs_append p [] zs (y ∷ ys) ws h k = absurd cc
pairs_append p (x ∷ xs) zs [] ws h k = absurd cc
pairs_append p (x ∷ xs) zs (y ∷ ys) ws h k =
    let q = and_parts (p x y) (pointwise p xs ys) h in
    both (p x y) (pointwise p (xs ++ zs) (ys ++ ws)) q.0 (pairs_append p xs zs ys ws q.1 k)

pub pairs_length : {A B : Type 0} (p : A → B → Bool) (xs : List A) (ys : List B) → pointwise p xs ys ≡ true → length xs ≡ length ys
pairs_length p [] [] h = refl
pairs_length p [] (y ∷ ys) h = absurd cc
pairs_length p (x ∷ xs) [] h = absurd cc
pairs_length p (x ∷ xs) (y ∷ ys) h = ap suc (pairs_length p xs ys (and_parts (p x y) (pointwise p xs ys) h).1)

pairs_replicate : {A B : Type 0} (p : A → B → Bool) (n : ℕ) (x : A) (y : B) → p x y ≡ true
    → pointwise p (replicate n x) (replicate n y) ≡ true
pairs_replicate p zero x y h = refl
pairs_replicate p (suc n) x y h = both (p x y) (pointwise p (replicate n x) (replicate n y)) h (pairs_replicate p n x y h)

-- ---- a method begins

-- The first locals of a method on these arguments, and its frame.
pub record Begins (heap : HeapTyping) (m : MemberReference) (e : Environment) (held : Option ℕ) (arguments : List Value) : Type 0 where
  pub locals : List Value
  pub are_first : first_locals e.body arguments ≡ Some locals
  pub conforms : frame_conforms heap (λ e. current_types e 0) (new_frame m held locals) ≡ true

pub begins : (heap : HeapTyping) → IsVerified heap.world → (m : MemberReference) (e : Environment) (held : Option ℕ)
    (arguments : List Value) → frame_environment heap.world (new_frame m None []) ≡ Some e
    → pointwise (is_of_type heap e) (parameter_locals e) arguments ≡ true → holds_rightly heap e.method held ≡ true
    → Begins heap m e held arguments
unfolding is_of_type are_of_types
begins heap verified m e held arguments is fit holds =
    let locals : List Value = arguments ++ replicate (e.body.max_locals - length arguments) (int (pos 0)) in
    let t = typed_frame heap.world verified (new_frame m None []) e is in
    let first = entry heap.world e t in
    let same = pairs_length (is_of_type heap e) (parameter_locals e) arguments fit in
    record {
      locals = locals;
      are_first = ap (λ (b : Bool). if b then Some locals else None) (ap (λ (n : ℕ). nat_le n e.body.max_locals) (sym same) ∙ first.3);
      conforms = arrives heap verified (new_frame m held locals) e t (descriptor_frame e) first.0 is first.1 first.2
          (both (pointwise (is_of_type heap e) (filled e (parameter_locals e)) locals) true
          (pairs_append (is_of_type heap e) (parameter_locals e) (replicate (e.body.max_locals - length (parameter_locals e)) top) arguments (replicate (e.body.max_locals - length arguments) (int (pos 0))) fit
          (subst (λ (n : ℕ). pointwise (is_of_type heap e) (replicate (e.body.max_locals - length (parameter_locals e)) top) (replicate (e.body.max_locals - n) (int (pos 0))) ≡ true) same
          (pairs_replicate (is_of_type heap e) (e.body.max_locals - length (parameter_locals e)) top (int (pos 0)) refl))) refl)
          holds;
    }

-- ---- a thread changes

pub thread_set : (state : State) (live : ℕ → Bool) (t : ℕ) (change : Thread → Thread) → ConformsWith state live
    → ((th : Thread) → thread_conforms (heap_typing state live) th ≡ true → thread_conforms (heap_typing state live) (change th) ≡ true)
    → ConformsWith (with_thread t change state) live
thread_set state live t change is each = record {
  threads = all_replaced (thread_conforms (heap_typing state live)) change each state.threads t is.threads;
  shared = shared_with state live (replace_at change state.threads t) is.shared;
}

-- what enters a monitor or doesn't conforms
pub entering : (t : ℕ) (found : Found Method) (receiver : Option ℕ) (state : State) (live : ℕ → Bool) → ConformsWith state live
    → Follows state live (entered_by t found receiver state) live
entering t found receiver state live is = go (is_synchronized found.member)
  where
    go : (b : Bool) → Follows state live (if b then change_monitor found.class (held_by found.member receiver) (entered t) state else state) live
    go true = monitoring found.class (held_by found.member receiver) (entered t) state live is
    go false = itself state live is

-- ---- methods to start

-- What a thread begins: the method's environment, its words of arguments, and that these fit.
record Starts (heap : HeapTyping) (m : MemberReference) : Type 0 where
  method : Method
  is_method : method_named heap.world m ≡ Some method
  e : Environment
  is_environment : frame_environment heap.world (new_frame m None []) ≡ Some e
  same_method : e.method ≡ method
  places : ℕ
  are_places : argument_words m ≡ Some places
  fit : pointwise (is_of_type heap e) (parameter_locals e) (start_arguments places) ≡ true
  static : is_static_method method ≡ true

unfoldable pub nothing_taken : MethodType
nothing_taken = record { parameters = []; result = None }

program_arguments : MethodType
program_arguments = record { parameters = array_of (class_type java_string) ∷ []; result = None }

pub nothing_read : method_type_of (codes "()V") ≡ Some nothing_taken
unfolding nothing_taken parameters_within type_at before_semicolon are_parts dimensions
nothing_read = refl

arguments_read : method_type_of (codes "([Ljava/lang/String;)V") ≡ Some program_arguments
unfolding program_arguments parameters_within type_at before_semicolon are_parts dimensions
arguments_read = refl

-- of a static method the parameters alone are its first locals
static_locals : (e : Environment) → is_static_method e.method ≡ true
    → parameter_locals e ≡ as_locals (map type_of e.type.parameters)
static_locals e static = ap (λ (b : Bool). as_locals ((if b then [] else (if is_constructor e then this else class e.class.name) ∷ []) ++ map type_of e.type.parameters)) static

module _ (heap : HeapTyping) (m : MemberReference) (arguments : heap.type_at 0 ≡ Some (array_of (class_type java_string))) where
  -- a method that can be begun
  starts : can_begin heap.world m ≡ true → Starts heap m
  unfolding nothing_taken program_arguments type_of is_of_type
  starts h =
      let p = and_parts (bytes_eq m.descriptor (codes "()V") || bytes_eq m.descriptor (codes "([Ljava/lang/String;)V")) _ h in
      let method = some_and_is (λ (method : Method). is_static_method method && is_some method.code) (method_named heap.world m) p.1 in
      let c = bind_is (declared_method m.name m.descriptor) (class_in heap.world m.class) method.0 method.1 in
      let found = found_is (λ (x : Method). bytes_eq x.name m.name && bytes_eq x.descriptor m.descriptor) c.0.methods method.0 c.2 in
      let q = and_parts (is_static_method method.0) (is_some method.0.code) method.2 in
      of c.0 method.0 c.1 c.2 method.1 q.0 method.0.code refl q.1
      (same_text method.0.descriptor m.descriptor (and_parts (bytes_eq method.0.name m.name) (bytes_eq method.0.descriptor m.descriptor) found).1)
      (or_cases (bytes_eq m.descriptor (codes "()V")) (bytes_eq m.descriptor (codes "([Ljava/lang/String;)V")) p.0)
    where
      environment : Class → Method → Body Operand → MethodType → Environment
      environment c method body type = record { world = heap.world; class = c; method = method; type = type; body = body }

      is_environment : (c : Class) (method : Method) (body : Body Operand) (type : MethodType) → class_in heap.world m.class ≡ Some c
          → declared_method m.name m.descriptor c ≡ Some method → method.code ≡ Some body → method_type_of method.descriptor ≡ Some type
          → frame_environment heap.world (new_frame m None []) ≡ Some (record { world = heap.world; class = c; method = method; type = type; body = body })
      is_environment c method body type there declared code read = rw (there, declared, code, read) refl

      of : (c : Class) (method : Method) → class_in heap.world m.class ≡ Some c → declared_method m.name m.descriptor c ≡ Some method
          → method_named heap.world m ≡ Some method → is_static_method method ≡ true
          → (code : Option (Body Operand)) → method.code ≡ code → is_some code ≡ true → method.descriptor ≡ m.descriptor
          → (bytes_eq m.descriptor (codes "()V") ≡ true) ⊎ (bytes_eq m.descriptor (codes "([Ljava/lang/String;)V") ≡ true)
          → Starts heap m
      of c method there declared named static None is some same which = absurd cc
      of c method there declared named static (Some body) is some same (inl plain) =
          let d : m.descriptor ≡ codes "()V" = same_text m.descriptor (codes "()V") plain in
          let e : Environment = record { world = heap.world; class = c; method = method; type = nothing_taken; body = body } in
          record {
            method = method;
            is_method = named;
            e = e;
            is_environment = is_environment c method body nothing_taken there declared is (ap method_type_of (same ∙ d) ∙ nothing_read);
            same_method = refl;
            places = 0;
            are_places = ap (λ (d : List ℕ). option_map parameter_words (method_type_of d)) d ∙ ap (option_map parameter_words) nothing_read;
            fit = ap (λ (types : List VerificationType). pointwise (is_of_type heap e) types []) (static_locals e static);
            static = static;
          }
      of c method there declared named static (Some body) is some same (inr taking) =
          let d : m.descriptor ≡ codes "([Ljava/lang/String;)V" = same_text m.descriptor (codes "([Ljava/lang/String;)V") taking in
          let e : Environment = record { world = heap.world; class = c; method = method; type = program_arguments; body = body } in
          record {
            method = method;
            is_method = named;
            e = e;
            is_environment = is_environment c method body program_arguments there declared is (ap method_type_of (same ∙ d) ∙ arguments_read);
            same_method = refl;
            places = 1;
            are_places = ap (λ (d : List ℕ). option_map parameter_words (method_type_of d)) d ∙ ap (option_map parameter_words) arguments_read;
            fit = ap (λ (types : List VerificationType). pointwise (is_of_type heap e) types (reference 0 ∷ [])) (static_locals e static)
                ∙ both (stands_for heap 0 (array_of (class_type java_string))) true (rw arguments (stands_itself heap.world (array_of (class_type java_string)))) refl;
            static = static;
          }

-- A thread that begins its next method, or ends, is right.
pub starts_next_is_right : (state : State) (live : ℕ → Bool) → IsRunnable state.world → (t : ℕ) (methods : List MemberReference)
    → ConformsWith state live → list_all (can_begin state.world) methods ≡ true → IsTypedDeed state.world (starts_next t state methods)
unfolding callers_conform
starts_next_is_right state live runnable t [] is all = record {
  live = live;
  is = thread_set state live t (λ (th : Thread). record th { frames = [] }) is
      (λ th h. both true (list_all (can_begin state.world) th.to_start) refl (and_parts (frames_conform (heap_typing state live) th.frames) (list_all (can_begin state.world) th.to_start) h).1);
}
starts_next_is_right state live runnable t (m ∷ rest) is all =
    let p = and_parts (can_begin state.world m) (list_all (can_begin state.world) rest) all in
    let s = starts (heap_typing state live) m is.shared.arguments p.0 in
    let of = of_frame state.world (new_frame m None []) s.e s.is_environment in
    let b = begins (heap_typing state live) runnable.verified m s.e None (start_arguments s.places) s.is_environment s.fit
    (or_right (not (is_synchronized s.e.method)) (is_static_method s.e.method) (ap is_static_method s.same_method ∙ s.static)) in
    rw (s.is_method, ap (λ (x : Method). x.code) (sym s.same_method) ∙ of.code, s.are_places, b.are_first)
    (either (waits t state (found_method m s.method) None) _ (begun s b.locals b.conforms p.1))
  where
    either : (b : Bool) (deed : Deed) → IsTypedDeed state.world deed → IsTypedDeed state.world (if b then blocked else deed)
    either true deed right = tt
    either false deed right = right

    begun : (s : Starts (heap_typing state live) m) (locals : List Value)
        → frame_conforms (heap_typing state live) (λ e. current_types e 0) (new_frame m None locals) ≡ true
        → list_all (can_begin state.world) rest ≡ true
        → IsTypedState (with_thread t (started_with m rest locals) (entered_by t (found_method m s.method) None state))
    begun s locals conforms later =
        let f = entering t (found_method m s.method) None state live is in
        let after = entered_by t (found_method m s.method) None state in
        record {
          live = live;
          is = thread_set after live t (started_with m rest locals) f.conforms
              (λ th h. subst (λ (w : World). (frame_conforms (record { world = w; type_at = (heap_typing after live).type_at }) (λ e. current_types e 0) (new_frame m None locals) && callers_conform (record { world = w; type_at = (heap_typing after live).type_at }) m.descriptor [] && list_all (can_begin w) rest) ≡ true) (sym f.same_world)
              (both (frame_conforms (record { world = state.world; type_at = (heap_typing after live).type_at }) (λ e. current_types e 0) (new_frame m None locals) && true) (list_all (can_begin state.world) rest)
              (both (frame_conforms (record { world = state.world; type_at = (heap_typing after live).type_at }) (λ e. current_types e 0) (new_frame m None locals)) true (frame_kept state.world (heap_typing state live).type_at (heap_typing after live).type_at f.grows (λ e. current_types e 0) (new_frame m None locals) conforms) refl) later));
        }
