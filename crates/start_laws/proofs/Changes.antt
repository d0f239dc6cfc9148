-- What changes of a state on the way to the start leave conforming.
use Rattle.std.proofs.Common.{◌≡◌, ℕ, List, [], ◌∷◌, None, Bool, true, false, refl, ap, ◌∙◌, if◌then◌else◌, length, map}
use Rattle.std.specs.Prelude.{is_none, is_some}
use Rattle.std.specs.List.{list_all}
use Rattle.std.proofs.lemmas.Bool.{and_parts}
use Rattle.jv_model.specs.Partial.{passes}
use Rattle.jv_model.specs.Descriptors.{class_type}
use Rattle.jv_model.specs.Operand.{MemberReference}
use Rattle.world_model.specs.World.{World, Method}
use Rattle.world_model.specs.LookUp.{Found}
use Rattle.world_model.specs.BootNames.{java_string}
use Rattle.world_model.specs.Members.{same_member}
use Rattle.machine_model.specs.Value.{Value}
use Rattle.machine_model.specs.Heap.{string, with_object, contents_at}
use Rattle.machine_model.specs.State.{Thread, Static, State, with_static, with_thread}
use Rattle.machine_model.specs.Strings.{with_interned}
use Rattle.machine_model.specs.CallSteps.{entered_by, new_frame}
use Rattle.machine_model.specs.ReturnSteps.{starts_next, started_with}
use Rattle.machine_model.specs.TypedValues.{heap_typing, is_in_use, is_declared}
use Rattle.machine_model.specs.Conforms.{is_string, literal_conforms, ConformsWith}
use Rattle.machine_model.specs.WellKept.{frames_fit, WellKept}
use Rattle.link_laws.proofs.Names.{text_same}
use Rattle.frame_laws.proofs.Outcome.{both}
use Rattle.state_laws.specs.Laws.{FramesFit, KeptIn}
use Rattle.state_laws.proofs.Lists.{all_last}
use Rattle.state_laws.proofs.Changes.{thread_kept}
use Rattle.state_laws.proofs.Going.{Mid, is_within, mid_entered, alive_rightly, in_bind, in_test}
use Rattle.state_laws.proofs.Calls.{alone_fits, starts_next_kept}
use Rattle.machine_laws.proofs.Heaps.{and_next, new_type, new_contents_at}
use Rattle.machine_laws.proofs.Ready.{Follows, allocating}

-- with a literal's string, which is new
pub interning : (state : State) (live : ℕ → Bool) (units : List ℕ) → ConformsWith state live
    → Follows state live (with_interned units state) (and_next state live)
interning state live units is =
    let f = allocating state live (string units) is refl in
    record {
      conforms = record {
        threads = f.conforms.threads;
        shared = record {
          statics = f.conforms.shared.statics;
          static_fields = f.conforms.shared.static_fields;
          class_monitors = f.conforms.shared.class_monitors;
          literals = all_last (literal_conforms (with_interned units state) (heap_typing (with_interned units state) (and_next state live))) state.interned (record { units = units; id = length state.heap }) f.conforms.shared.literals
              (both (is_in_use (heap_typing (with_interned units state) (and_next state live)) (length state.heap)) (passes (is_string units) (contents_at (with_object (string units) state.heap) (length state.heap)))
              (ap is_some (new_type state live (string units) (class_type java_string) refl))
              (ap (passes (is_string units)) (new_contents_at state live (string units)) ∙ text_same units units refl));
          arguments = f.conforms.shared.arguments;
          objects = f.conforms.shared.objects;
        };
      };
      same_world = refl;
      grows = f.grows;
    }

-- the fields of statics stay where one gets a value
fields_left : (field : MemberReference) (value : Value) (statics : List Static)
    → map (λ (s : Static). s.field) (with_static field value statics) ≡ map (λ (s : Static). s.field) statics
fields_left field value [] = refl
fields_left field value (s ∷ statics) = go (same_member s.field field) (fields_left field value statics)
  where
    go : (b : Bool) → map (λ (s : Static). s.field) (with_static field value statics) ≡ map (λ (s : Static). s.field) statics
        → map (λ (s : Static). s.field) ((if b then record s { value = value } else s) ∷ with_static field value statics) ≡ map (λ (s : Static). s.field) (s ∷ statics)
    go true rest = ap (λ (fs : List MemberReference). s.field ∷ fs) rest
    go false rest = ap (λ (fs : List MemberReference). s.field ∷ fs) rest

-- a static field has another value, which its descriptor declares
pub static_put : (state : State) (live : ℕ → Bool) (field : MemberReference) (value : Value) → ConformsWith state live
    → ((s : Static) → same_member s.field field ≡ true → is_declared (heap_typing state live) s.field.descriptor value ≡ true)
    → ConformsWith (record state { statics = with_static field value state.statics }) live
static_put state live field value is each = record {
  threads = is.threads;
  shared = record {
    statics = all_changed state.statics is.shared.statics;
    static_fields = fields_left field value state.statics ∙ is.shared.static_fields;
    class_monitors = is.shared.class_monitors;
    literals = is.shared.literals;
    arguments = is.shared.arguments;
    objects = is.shared.objects;
  };
}
  where
    all_changed : (statics : List Static) → list_all (λ (s : Static). is_declared (heap_typing state live) s.field.descriptor s.value) statics ≡ true
        → list_all (λ (s : Static). is_declared (heap_typing state live) s.field.descriptor s.value) (with_static field value statics) ≡ true
    all_changed [] h = refl
    all_changed (s ∷ statics) h =
        let p = and_parts (is_declared (heap_typing state live) s.field.descriptor s.value) (list_all (λ (s : Static). is_declared (heap_typing state live) s.field.descriptor s.value) statics) h in
        go (same_member s.field field) refl p.0 (all_changed statics p.1)
      where
        go : (b : Bool) → same_member s.field field ≡ b → is_declared (heap_typing state live) s.field.descriptor s.value ≡ true
            → list_all (λ (s : Static). is_declared (heap_typing state live) s.field.descriptor s.value) (with_static field value statics) ≡ true
            → list_all (λ (s : Static). is_declared (heap_typing state live) s.field.descriptor s.value) ((if b then record s { value = value } else s) ∷ with_static field value statics) ≡ true
        go false is own rest = both (is_declared (heap_typing state live) s.field.descriptor s.value) (list_all (λ (s : Static). is_declared (heap_typing state live) s.field.descriptor s.value) (with_static field value statics)) own rest
        go true is own rest = both (is_declared (heap_typing state live) s.field.descriptor value) (list_all (λ (s : Static). is_declared (heap_typing state live) s.field.descriptor s.value) (with_static field value statics)) (each s is) rest

-- a thread begins a method
method_begun : (world : World) (t : ℕ) (th : Thread) (state : State) (m : MemberReference) (rest : List MemberReference)
    (found : Found Method) (locals : List Value) → FramesFit world → Mid world t th state → is_none th.thrown ≡ true
    → WellKept (with_thread t (started_with m rest locals) (entered_by t found None state))
method_begun world t th state m rest found locals small mid none =
    let entered = mid_entered world t th state mid t found None (is_within world t th state mid) in
    thread_kept (entered_by t found None state) t (started_with m rest locals) th entered.at
    (ap (λ (w : World). frames_fit w (new_frame m None locals ∷ [])) entered.same_world ∙ alone_fits world small (new_frame m None locals))
    (alive_rightly (started_with m rest locals th) (new_frame m None locals) [] refl none) entered.kept

-- the first of some methods, or none
pub first_kept : (world : World) (t : ℕ) (th : Thread) (state : State) (methods : List MemberReference) → FramesFit world
    → Mid world t th state → is_none th.thrown ≡ true → th.to_start ≡ [] → KeptIn (starts_next t state methods)
first_kept world t th state [] small mid none empty = starts_next_kept world t th state [] small mid none empty
first_kept world t th state (m ∷ rest) small mid none empty =
    search (in_bind, in_test, method_begun world t th state m rest) depth 12
