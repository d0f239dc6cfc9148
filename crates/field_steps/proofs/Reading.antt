-- Static fields are read.
use Rattle.std.proofs.Common.{◌≡◌, ◌≢◌, ℕ, ◌+◌, ◌≤◌, Bool, true, false, List, ◌++◌, Option, Some, option_map, length, refl, ap, sym, subst, ◌∙◌, arith, length-append}
use Rattle.std.specs.Prelude.{IsTrue, if◌then◌else◌, option_to_list}
use Rattle.std.specs.List.{list_all}
use Rattle.std.proofs.lemmas.Bool.{and_parts}
use Rattle.std.proofs.lemmas.List.Folds.{list_all-append}
use Rattle.jv_model.specs.Descriptors.{FieldType}
use Rattle.jv_model.specs.Instruction.{getstatic}
use Rattle.jv_model.specs.Operand.{MemberReference, member_named}
use Rattle.code_model.specs.Names.{member_at}
use Rattle.world_model.specs.World.{World}
use Rattle.world_model.specs.LookUp.{find_field}
use Rattle.world_model.specs.Resolution.{resolved_field}
use Rattle.machine_model.specs.Value as model
use Rattle.machine_model.specs.Value.{id_in, kind_of, is_of_kind, onto, taken_of}
use Rattle.machine_model.specs.State.{State, static_value}
use Rattle.machine_model.specs.Reach.{ids_in}
use Rattle.machine_model.specs.Deed.{Deed, wrong, Running, operands, goes_on, finishes, has_room, ◌>>=◌}
use Rattle.machine_model.specs.FieldSteps.{get_static, reads}
use Rattle.machine_model.specs.LocalStep.{local_step_of}
use Rattle.machine_model.specs.SharedStep.{deed_of, shared_step}
use Rattle.class_world.specs.World.{field_at}
use Rattle.class_layouts.specs.Layouts.{field_found}
use Rattle.jv_values.specs.declared.value.Value.{Value}
use Rattle.jv_values.specs.Values.{value_of, values_of, places_of}
use Rattle.static_fields.specs.Statics.{Place, value_at}
use Rattle.thread_frames.specs.Frames.{words_of}
use Rattle.thread_frames.specs.Machine.{held_in}
use Rattle.thread_frames.proofs.TopLemmas.{length-words_of}
use Rattle.look_up_cache.specs.Kept.{Kept, IsTrueOf}
use Rattle.look_up_cache.specs.Targets.{a_field, pool_at}
use Rattle.jv_types.specs.declared.number.ClassNo.{ClassNo}
use Rattle.heap_objects.specs.Ids.{Ids, ids_of, are_live, value_by}
use Rattle.machine_shared.specs.Shared.{AreStatics}
use Rattle.machine_shared.proofs.Statics.{are_read}
use Rattle.code_marks.specs.Marks.{mark_at}
use Rattle.machine_threads.specs.Threads.{AreThreads}
use Rattle.machine_threads.specs.Laws.{goes_to}
use Rattle.frame_stacks.specs.Threads.{change_thread}
use Rattle.machine_parts.specs.Parts.{Machine, StandsFor}
use Rattle.machine_parts.specs.Steps.{IsDone}
use Rattle.machine_parts.proofs.Operands.{tops, tops_pushed, live_pushed}
use Rattle.machine_parts.proofs.Steps.{some_by, running, orderly, world_is, frame_is, deed_is, fits, finish_is_done}
use Rattle.field_steps.specs.Fields.{IsAtField, LeadsToStatic}
use Rattle.field_steps.proofs.Named.{resolved_by, resolves_to, found_by_target, operand_is, target_is}

-- the member that an entry names
abbrev pub member_in : Machine → ClassNo → ℕ → MemberReference
member_in machine class index = member_at (pool_at machine.world class) index

-- the operands of a frame name what is live
pub live_operands : (live : ℕ → Bool) (held : List ℕ) (locals operands : List ℕ) → list_all live (held ++ locals ++ operands) ≡ true → list_all live operands ≡ true
live_operands live held locals operands all =
    (and_parts (list_all live (held ++ locals)) (list_all live operands) (sym (list_all-append live (held ++ locals) operands) ∙ all)).1

pub if_right : (b : Bool) (d : Deed) → ((if b then d else wrong) ≢ wrong) → b ≡ true
if_right true d right = refl
if_right false d right = absurd (right refl)

-- ---- reading

module _ (machine : Machine) (t next index : ℕ) (at : IsAtField machine t next index (getstatic index))
    (types : List FieldType) (state : State) (stands : StandsFor types machine state) where
  abbrev m : MemberReference
  m = member_in machine at.at.frame.method.class index

  abbrev run : Running
  run = running machine t next (getstatic index) at.at types state stands

  abbrev own_ids : Ids
  own_ids = ids_of machine.heap

  get_deed : deed_of state t ≡ get_static run m
  unfolding shared_step local_step_of
  get_deed = deed_is machine t next (getstatic index) at.at types state stands (getstatic (member_named m))
      (ap getstatic (operand_is (pool_at machine.world at.at.frame.method.class) index at.class at.pair at.entry)) refl

  pub get_leads : deed_of state t ≢ wrong → LeadsToStatic machine.world at.at.frame.method.class index
  get_leads right =
      let resolved = some_by (resolved_field true state.world m) _ (λ is. right (get_deed ∙ is)) in
      let is = resolved_by true state.world m resolved.0 resolved.1 in
      record {
        found = is.found;
        named = target_is machine.world at.at.frame.method.class index at.class at.pair at.entry
            ∙ ap (λ (w : World). option_map a_field (find_field w m.class m.name m.descriptor)) (world_is machine t next (getstatic index) at.at types state stands)
            ∙ ap (option_map a_field) is.named;
        static = is.static;
      }

  module _ (leads : LeadsToStatic machine.world at.at.frame.method.class index) (place : Place) (value : Value)
      (placed : field_at machine.world place ≡ Some leads.found) (there : value_at machine.versions.statics place ≡ Some value) where
    abbrev read_value : model.Value
    read_value = value_by own_ids.id (value_of value)

    abbrev words : List Value
    words = at.at.frame.stack ++ words_of value

    abbrev same_world : machine.world ≡ state.world
    same_world = world_is machine t next (getstatic index) at.at types state stands

    resolved : resolved_field true state.world m ≡ Some (field_found leads.found)
    resolved = resolves_to true state.world m leads.found
        (ap (λ (w : World). find_field w m.class m.name m.descriptor) (sym same_world)
        ∙ found_by_target (find_field machine.world m.class m.name m.descriptor) leads.found
        (sym (target_is machine.world at.at.frame.method.class index at.class at.pair at.entry) ∙ leads.named))
        leads.static

    read : (static_value state.statics (field_found leads.found) ≡ Some read_value) × IsTrue (are_live own_ids (id_in (value_of value)))
    read = are_read state.world own_ids machine.versions.statics state.statics place leads.found value
        (record {
          orderly = orderly machine t next (getstatic index) at.at types state stands;
          at = ap (λ (w : World). field_at w place) (sym same_world) ∙ placed;
          static = leads.static;
        })
        (subst (λ (w : World). AreStatics w own_ids machine.versions.statics state.statics) same_world stands.parts.statics) there

    get_reads : deed_of state t ≡ reads run (field_found leads.found) (operands run) read_value
    get_reads = get_deed
        ∙ ap (λ (o : Option MemberReference). o >>= λ (field : MemberReference). static_value state.statics field >>= λ (v : model.Value). reads run field (operands run) v) resolved
        ∙ ap (λ (o : Option model.Value). o >>= λ (v : model.Value). reads run (field_found leads.found) (operands run) v) read.0

    pushed : tops own_ids.id words ≡ onto read_value (operands run)
    pushed = tops_pushed own_ids.id at.at.frame.stack value

    pub get_fits : deed_of state t ≢ wrong → length at.at.frame.stack + places_of value ≤ at.at.frame.max_stack
    get_fits right =
        let kind = is_of_kind (kind_of (field_found leads.found).descriptor) read_value in
        let finished = finishes 0 false run state (onto read_value (operands run)) in
        let reading : reads run (field_found leads.found) (operands run) read_value ≢ wrong = λ is. right (get_reads ∙ is) in
        let of_kind : kind ≡ true = if_right kind finished reading in
        let room = if_right (has_room at.at.body (operands run) (onto read_value (operands run))) _
        (λ is. reading (ap (λ (b : Bool). if b then finished else wrong) of_kind ∙ is)) in
        omega (
          arith,
          fits machine t next (getstatic index) at.at types state stands words (onto read_value (operands run)) pushed room,
          length-append at.at.frame.stack (words_of value),
          length-words_of value,
        )

    -- the machine after it
    abbrev get_after : Kept → Machine
    get_after kept = record machine { stacks = change_thread t (goes_to next words false) machine.stacks; caches = kept }

    pub get_is_done : (kept : Kept) → IsTrueOf machine.world machine.versions.slots machine.versions.literals.texts kept
        → IsDone types t (get_after kept) (deed_of state t)
    get_is_done kept truth =
        subst (IsDone types t (get_after kept)) (sym get_reads)
        (by (is_of_kind (kind_of (field_found leads.found).descriptor) read_value))
      where
        live : IsTrue (are_live own_ids (ids_in (values_of words)))
        live = live_pushed own_ids.is_live at.at.frame.stack value
            (live_operands own_ids.is_live (option_to_list (held_in at.at.frame.held)) (ids_in (values_of at.at.frame.locals))
            (ids_in (values_of at.at.frame.stack))
            (frame_is machine t next (getstatic index) at.at types state stands).live)
            read.1

        by : (b : Bool) → IsDone types t (get_after kept) (if b then goes_on run state (onto read_value (operands run)) else wrong)
        by false = tt
        by true =
            finish_is_done machine t next (getstatic index) at.at types state stands (get_after kept) state 0 false words
            (onto read_value (operands run)) refl pushed live
            (λ threads are ended. record {
              parts = record {
                world = stands.parts.world;
                versions = stands.parts.versions;
                heap = stands.parts.heap;
                args = stands.parts.args;
                threads = subst (λ (w : World). AreThreads w (mark_at machine.versions.marks) own_ids (get_after kept).stacks threads) (sym same_world) are;
                statics = stands.parts.statics;
                class_monitors = stands.parts.class_monitors;
                interned = stands.parts.interned;
                output = stands.parts.output;
                requests = stands.parts.requests;
              };
              ended = ended;
              caches = truth;
              orderly = stands.orderly;
            })
