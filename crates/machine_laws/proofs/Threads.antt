-- Thread's natives `start` and `join` are right.
use Rattle.std.proofs.Common.{◌≡◌, ℕ, pos, List, [], ◌∷◌, ◌++◌, Option, Some, None, Bool, true, false, refl, ap, sym, subst, ◌∙◌, if◌then◌else◌, length, option_map, map, codes, inr, nat_le}
use Rattle.std.specs.Prelude.{is_some}
use lib.Pointwise.{pointwise}
use Rattle.jv_model.specs.Limits.{most_threads}
use Rattle.jv_model.specs.Descriptors.{FieldType, int_type as int_field, class_type, MethodType}
use Rattle.jv_model.specs.Operand.{Operand, MemberReference}
use Rattle.jv_model.specs.Code.{Body}
use Rattle.jv_model.specs.Flow.{goes_on as flow_goes_on}
use Rattle.world_model.specs.World.{Method, has_flag, acc_abstract, is_static_method}
use Rattle.world_model.specs.Supertypes.{chain, is_sub}
use Rattle.world_model.specs.LookUp.{Found, method_found}
use Rattle.world_model.specs.Selection.{select_in}
use Rattle.code_model.specs.TypeReading.{field_type_of, method_type_of, type_at, before_semicolon, are_parts, dimensions}
use Rattle.typing_model.specs.VerificationType.{type_of}
use Rattle.typing_model.specs.Environment.{Environment}
use Rattle.typing_model.specs.DescriptorFrame.{as_locals}
use Rattle.machine_model.specs.Value.{Value, int, long, half, null, reference}
use Rattle.machine_model.specs.Heap.{Heap}
use Rattle.machine_model.specs.State.{Frame, State}
use Rattle.machine_model.specs.Deed.{Deed, throws, blocked, is_crowded, Running, ◌>>=◌, finishes}
use Rattle.machine_model.specs.Monitors.{held_by}
use Rattle.machine_model.specs.CallSteps.{first_locals, new_frame, waits, entered_by}
use Rattle.machine_model.specs.ThreadNatives.{target_field, number_field, run_method, thread_number, started_number, number_lives, join_thread, thread_with, starts_thread, starts_method, starts_target, classes_below_thread, starts, starts_once, start_thread}
use Rattle.machine_model.specs.TypedValues.{HeapTyping, heap_typing, may_stand, stands_for, is_of_type, holds}
use Rattle.machine_model.specs.Conforms.{current_types, holds_rightly, frame_conforms, callers_conform, frames_conform, thread_conforms, ConformsWith}
use Rattle.frame_laws.proofs.Outcome.{some_inj, both}
use Rattle.frame_laws.proofs.Verified.{some_and_is}
use Rattle.frame_laws.proofs.Growing.{frames_kept}
use Rattle.state_laws.proofs.Lists.{all_last}
use Rattle.machine_laws.specs.Runnable.{class_of_type, PlaceUse, Runs, ThreadUse}
use Rattle.machine_laws.proofs.TypedStates.{IsTypedDeed}
use Rattle.machine_laws.proofs.Ready.{Ready, Follows, itself, shared_with, throws_rightly}
use Rattle.machine_laws.proofs.Calling.{of_frame}
use Rattle.machine_laws.proofs.Beginning.{nothing_taken, nothing_read, begins, entering}
use Rattle.machine_laws.proofs.Calls.{held_right}
use Rattle.machine_laws.proofs.Receivers.{receiver_fits, object_type, object_class}
use Rattle.machine_laws.proofs.NativeEnds.{Leaves, ends_rightly}
use Rattle.machine_laws.proofs.Fields.{field_there, field_found, field_put}

pub runnable_read : field_type_of target_field.descriptor ≡ Some (class_type (codes "java/lang/Runnable"))
unfolding type_at before_semicolon are_parts dimensions
runnable_read = refl

number_read : field_type_of number_field.descriptor ≡ Some int_field
unfolding type_at before_semicolon are_parts dimensions
number_read = refl

-- what follows and then follows
pub follows_then : (a b c : State) (live more most : ℕ → Bool) → Follows a live b more → Follows b more c most → Follows a live c most
follows_then a b c live more most first second = record {
  conforms = second.conforms;
  same_world = second.same_world ∙ first.same_world;
  grows = λ id type h. second.grows id type (first.grows id type h);
}

module _ (r : Running) (live : ℕ → Bool) (ready : Ready r live) (on : flow_goes_on ready.at.placed.instruction ≡ true)
    (m : MemberReference) (type : MethodType) (is_type : method_type_of m.descriptor ≡ Some type) (gives_none : type.result ≡ None)
    (others : List Value) (left : Leaves r live ready m others) (fewer : nat_le (length others) (length r.frame.stack) ≡ true) where
  abbrev heap : HeapTyping
  heap = heap_typing r.state live

  ends : (after : State) → Follows r.state live after live → IsTypedDeed r.state.world (finishes 0 true r after others)
  ends after follows = ends_rightly r live ready m type is_type others left after live follows 0 true gives_none fewer

  -- the number of the thread that an object started is read
  number_found : (owner : List ℕ) (id : ℕ) → PlaceUse r.state.world owner number_field → stands_for heap id (class_type owner) ≡ true
      → (number : Option ℕ) × (started_number r.state id ≡ Some number)
  number_found owner id places stands =
      let there = field_there r live ready on owner number_field id places stands in
      let found = field_found r live ready on id number_field number_field int_field there refl number_read in
      (thread_number (length r.state.threads) there.value, ap (option_map (thread_number (length r.state.threads))) found.0)

  -- `join` is right
  pub join_is_right : (owner : List ℕ) (id : ℕ) → PlaceUse r.state.world owner number_field → stands_for heap id (class_type owner) ≡ true
      → IsTypedDeed r.state.world (join_thread r id others)
  join_is_right owner id places stands =
      let n = number_found owner id places stands in rw n.1 (either (number_lives r.state n.0))
    where
      either : (b : Bool) → IsTypedDeed r.state.world (if b then blocked else finishes 0 true r r.state others)
      either true = tt
      either false = ends r.state (itself r.state live ready.conforms)

  -- ---- start

  module _ (owner : List ℕ) (id : ℕ) (uses : ThreadUse r.state.world owner) (stands : stands_for heap id (class_type owner) ≡ true) where
    -- a new thread, with frames that conform
    starts_thread_right : (frames : List Frame) (enter : State → State) → frames_conform heap frames ≡ true
        → ((state : State) → ConformsWith state live → Follows state live (enter state) live)
        → IsTypedDeed r.state.world (starts_thread r id frames enter others)
    starts_thread_right frames enter conform enters =
        let there = field_there r live ready on owner number_field id uses.number stands in
        let put = field_put r live ready on id number_field number_field int_field there (int (pos (length r.state.threads))) refl number_read refl in
        either (nat_le most_threads (length r.state.threads)) _ (rw put.1 (ends (enter (grown put.0)) (follows_then r.state (grown put.0) (enter (grown put.0)) live live live (added put.0 put.2) (enters (grown put.0) (added put.0 put.2).conforms))))
      where
        grown : Heap → State
        grown objects = record r.state { heap = objects; threads = r.state.threads ++ thread_with frames ∷ [] }

        either : (b : Bool) (deed : Deed) → IsTypedDeed r.state.world deed → IsTypedDeed r.state.world (if b then is_crowded else deed)
        either true deed right = tt
        either false deed right = right

        added : (objects : Heap) → Follows r.state live (record r.state { heap = objects }) live
            → Follows r.state live (record r.state { heap = objects; threads = r.state.threads ++ thread_with frames ∷ [] }) live
        added objects follows = record {
          conforms = record {
            threads = all_last (thread_conforms (heap_typing (record r.state { heap = objects }) live)) r.state.threads (thread_with frames) follows.conforms.threads
                (both (frames_conform (heap_typing (record r.state { heap = objects }) live) frames) true (kept frames conform) refl);
            shared = shared_with (record r.state { heap = objects }) live (r.state.threads ++ thread_with frames ∷ []) follows.conforms.shared;
          };
          same_world = refl;
          grows = follows.grows;
        }
          where
            kept : (frames : List Frame) → frames_conform heap frames ≡ true
                → frames_conform (heap_typing (record r.state { heap = objects }) live) frames ≡ true
            kept frames h = frames_kept r.state.world heap.type_at (heap_typing (record r.state { heap = objects }) live).type_at follows.grows frames h

    -- a method that it runs on an object
    starts_method_right : (receiver : ℕ) (own : FieldType) → heap.type_at receiver ≡ Some own → (o : Option (Found Method))
        → Runs r.state.world own o → IsTypedDeed r.state.world (starts_method r id receiver others o)
    unfolding callers_conform nothing_taken
    starts_method_right receiver own at None selects = throws_rightly r live ready (codes "java/lang/AbstractMethodError") true refl
    starts_method_right receiver own at (Some found) selects =
        by_flag (has_flag acc_abstract found.member.flags) refl
      where
        with_code : (code : Option (Body Operand)) → found.member.code ≡ code → has_flag acc_abstract found.member.flags ≡ false
            → IsTypedDeed r.state.world (code >>= λ body. first_locals body (reference receiver ∷ []) >>= λ locals.
            starts_thread r id (new_frame (method_found found) (held_by found.member (Some receiver)) locals ∷ []) (entered_by (length r.state.threads) found (Some receiver)) others)
        with_code None none concrete = absurd (let abstract = selects.0.has_code none in cc)
        with_code (Some body) some concrete =
            let use_of = selects.0.environment body some in
            let e = use_of.0 in
            let of = of_frame r.state.world (new_frame (method_found found) None []) e use_of.1 in
            let taken : e.type ≡ nothing_taken = some_inj (sym of.is_type ∙ (ap (λ (x : Method). method_type_of x.descriptor) use_of.2 ∙ (ap method_type_of selects.0.same_descriptor ∙ nothing_read))) in
            let held = held_right heap found.member (Some receiver) (λ u same. ap is_some (ap heap.type_at (sym (some_inj same)) ∙ at)) (inr refl) in
            let stands_there : stands_for heap receiver (class_type e.class.name) ≡ true =
            subst (λ (n : List ℕ). stands_for heap receiver (class_type n) ≡ true) (sym use_of.4) (rw at selects.1) in
            let b = begins heap ready.runnable.verified (method_found found) e (held_by found.member (Some receiver)) (reference receiver ∷ []) use_of.1
            (receiver_fits heap e receiver [] (ap is_static_method use_of.2 ∙ selects.0.kind) stands_there
            (subst (λ (t : MethodType). pointwise (is_of_type heap e) (as_locals (map type_of t.parameters)) [] ≡ true) (sym taken) (nothing_fits e)))
            (subst (λ (method : Method). holds_rightly heap method (held_by found.member (Some receiver)) ≡ true) (sym use_of.2) held) in
            rw (ap (λ (b : Body Operand). first_locals b (reference receiver ∷ [])) (sym use_of.3) ∙ b.are_first)
            (starts_thread_right (new_frame (method_found found) (held_by found.member (Some receiver)) b.locals ∷ [])
            (entered_by (length r.state.threads) found (Some receiver))
            (both (frame_conforms heap (λ e. current_types e 0) (new_frame (method_found found) (held_by found.member (Some receiver)) b.locals)) true b.conforms refl)
            (λ state conforms. entering (length r.state.threads) found (Some receiver) state live conforms))
          where
            nothing_fits : (e : Environment) → pointwise (is_of_type heap e) (as_locals (map type_of nothing_taken.parameters)) [] ≡ true
            nothing_fits e = refl

        by_flag : (b : Bool) → has_flag acc_abstract found.member.flags ≡ b
            → IsTypedDeed r.state.world (if b then throws (codes "java/lang/AbstractMethodError") true else (if waits (length r.state.threads) r.state found (Some receiver) then blocked else (found.member.code >>= λ body. first_locals body (reference receiver ∷ []) >>= λ locals.
            starts_thread r id (new_frame (method_found found) (held_by found.member (Some receiver)) locals ∷ []) (entered_by (length r.state.threads) found (Some receiver)) others)))
        by_flag true is = throws_rightly r live ready (codes "java/lang/AbstractMethodError") true refl
        by_flag false is = either (waits (length r.state.threads) r.state found (Some receiver)) _ (with_code found.member.code refl is)
          where
            either : (b : Bool) (deed : Deed) → IsTypedDeed r.state.world deed → IsTypedDeed r.state.world (if b then blocked else deed)
            either true deed right = tt
            either false deed right = right

    -- a target that it runs, if any
    starts_target_right : (target : Value) → holds heap (class_type (codes "java/lang/Runnable")) target ≡ true
        → IsTypedDeed r.state.world (starts_target r id others target)
    starts_target_right null h = starts_thread_right [] (λ state. state) refl (λ state conforms. itself state live conforms)
    starts_target_right (reference target) h =
        let own = some_and_is (λ own. may_stand r.state.world own (class_type (codes "java/lang/Runnable"))) (heap.type_at target) h in
        rw (object_class r live ready target own.0 own.1) (either (is_sub r.state.world (class_of_type own.0) (codes "java/lang/Runnable")) _
        (λ below. starts_method_right target own.0 own.1 (select_in r.state.world (run_method (class_of_type own.0)) (chain r.state.world (class_of_type own.0))) (uses.target_runs own.0 (object_type r live ready target own.0 own.1) below)))
      where
        either : (b : Bool) (deed : Deed) → (b ≡ true → IsTypedDeed r.state.world deed)
            → IsTypedDeed r.state.world (if b then deed else throws (codes "java/lang/IncompatibleClassChangeError") true)
        either true deed right = right refl
        either false deed right = throws_rightly r live ready (codes "java/lang/IncompatibleClassChangeError") true refl
    starts_target_right (int n) h = absurd cc
    starts_target_right (long n) h = absurd cc
    starts_target_right half h = absurd cc

    -- `start` is right
    pub start_is_right : IsTypedDeed r.state.world (start_thread r id others)
    start_is_right =
        let n = number_found owner id uses.number stands in
        let own = some_and_is (λ own. may_stand r.state.world own (class_type owner)) (heap.type_at id) stands in
        rw n.1 (once n.0 own.0 own.1 own.2)
      where
        selected : (own : FieldType) → heap.type_at id ≡ Some own → (o : Option (Found Method)) → Runs r.state.world own o
            → IsTypedDeed r.state.world (starts r id others (class_of_type own) o)
        selected own at (Some found) selects = starts_method_right id own at (Some found) selects
        selected own at None selects =
            let there = field_there r live ready on owner target_field id uses.target stands in
            let found = field_found r live ready on id target_field target_field (class_type (codes "java/lang/Runnable")) there refl runnable_read in
            rw found.0 (starts_target_right there.value found.1)

        once : (number : Option ℕ) (own : FieldType) → heap.type_at id ≡ Some own → may_stand r.state.world own (class_type owner) ≡ true
            → IsTypedDeed r.state.world (starts_once r id others number)
        once (Some number) own at may = throws_rightly r live ready (codes "java/lang/IllegalThreadStateException") true refl
        once None own at may =
            rw (object_class r live ready id own at)
            (selected own at (select_in r.state.world (run_method (class_of_type own)) (classes_below_thread r.state.world (class_of_type own))) (uses.runs own may))
