-- Static fields are written.
use Rattle.std.proofs.Common.{◌≡◌, ◌≢◌, ℕ, true, false, List, ◌++◌, Option, Some, None, option_map, reverse, is_some, refl, ap, sym, subst, ◌∙◌}
use Rattle.std.specs.Prelude.{if◌then◌else◌, option_to_list}
use Rattle.std.specs.List.{list_all}
use Rattle.jv_model.specs.Descriptors.{FieldType}
use Rattle.jv_model.specs.Instruction.{putstatic}
use Rattle.jv_model.specs.Operand.{MemberReference, member_named}
use Rattle.world_model.specs.World.{World}
use Rattle.world_model.specs.LookUp.{find_field}
use Rattle.world_model.specs.Resolution.{resolved_field}
use Rattle.machine_model.specs.Value as model
use Rattle.machine_model.specs.Value.{id_in, kind_of, is_of_kind, onto, taken_of}
use Rattle.machine_model.specs.State.{State, static_value, with_static}
use Rattle.machine_model.specs.Reach.{ids_in}
use Rattle.machine_model.specs.Deed.{Deed, wrong, Running, operands, goes_on, ◌>>=◌}
use Rattle.machine_model.specs.FieldSteps.{put_static}
use Rattle.machine_model.specs.LocalStep.{local_step_of}
use Rattle.machine_model.specs.SharedStep.{deed_of, shared_step}
use Rattle.class_world.specs.World.{field_at}
use Rattle.class_layouts.specs.Layouts.{field_found}
use Rattle.jv_values.specs.declared.value.Value.{Value}
use Rattle.jv_values.specs.Values.{value_of, values_of}
use Rattle.static_fields.specs.Statics.{Statics, Place, value_at, same_place}
use Rattle.thread_frames.specs.Frames.{words_of}
use Rattle.thread_frames.specs.Machine.{held_in, value_on_top}
use Rattle.look_up_cache.specs.Kept.{Kept, IsTrueOf}
use Rattle.look_up_cache.specs.Targets.{a_field, pool_at}
use Rattle.heap_objects.specs.Ids.{Ids, ids_of, value_by}
use Rattle.machine_shared.specs.Shared.{AreStatics}
use Rattle.machine_shared.specs.Laws.{HasStatic}
use Rattle.machine_shared.proofs.Statics.{are_read, are_written}
use Rattle.code_marks.specs.Marks.{mark_at}
use Rattle.machine_threads.specs.Threads.{AreThreads}
use Rattle.machine_threads.specs.Laws.{goes_to}
use Rattle.frame_stacks.specs.Threads.{change_thread}
use Rattle.machine_parts.specs.Parts.{Machine, StandsFor}
use Rattle.machine_parts.specs.Steps.{IsDone}
use Rattle.machine_parts.proofs.Operands.{IsTaken, tops, is_taken, same_value, live_parts}
use Rattle.machine_parts.proofs.Steps.{some_by, running, orderly, world_is, frame_is, deed_is, finish_is_done}
use Rattle.field_steps.specs.Fields.{IsAtField, LeadsToStatic}
use Rattle.field_steps.proofs.Reading.{member_in, live_operands}
use Rattle.class_versions.specs.Versions.{AreVersions}
use Rattle.field_steps.proofs.Named.{resolved_by, resolves_to, found_by_target, operand_is, target_is}

some_there : {A : Type 0} (o : Option A) → is_some o ≡ true → (a : A) × (o ≡ Some a)
some_there None there = absurd cc
some_there (Some a) there = (a, refl)

module _ (machine : Machine) (t next index : ℕ) (at : IsAtField machine t next index (putstatic index))
    (types : List FieldType) (state : State) (stands : StandsFor types machine state) where
  abbrev m : MemberReference
  m = member_in machine at.at.frame.method.class index

  abbrev run : Running
  run = running machine t next (putstatic index) at.at types state stands

  abbrev own_ids : Ids
  own_ids = ids_of machine.heap

  abbrev stack : List Value
  stack = at.at.frame.stack

  put_deed : deed_of state t ≡ put_static run m
  unfolding shared_step local_step_of
  put_deed = deed_is machine t next (putstatic index) at.at types state stands (putstatic (member_named m))
      (ap putstatic (operand_is (pool_at machine.world at.at.frame.method.class) index at.class at.pair at.entry)) refl

  -- what is taken from the operands
  abbrev Takes : Type 0
  Takes = (taken : model.Taken) × (taken_of (kind_of m.descriptor) (tops own_ids.id stack) ≡ Some taken)

  abbrev stores : model.Taken → MemberReference → Deed
  stores taken field = static_value state.statics field >>= λ (old : model.Value).
      goes_on run (record state { statics = with_static field taken.value state.statics }) taken.rest

  pub put_takes : deed_of state t ≢ wrong → Takes
  put_takes right = some_by (taken_of (kind_of m.descriptor) (operands run)) _ (λ is. right (put_deed ∙ is))

  pub top_there : (takes : Takes) → is_some (value_on_top (values_of (reverse stack))) ≡ true
  top_there takes = ap is_some (is_taken (kind_of m.descriptor) own_ids.id stack takes.0 takes.1).on_top

  -- what is left
  abbrev pub its_below : Takes → List Value
  its_below takes = (is_taken (kind_of m.descriptor) own_ids.id stack takes.0 takes.1).below

  after_taken : (takes : Takes) → deed_of state t ≡ (resolved_field true state.world m >>= stores takes.0)
  after_taken takes = put_deed
      ∙ ap (λ (o : Option model.Taken). o >>= λ (taken : model.Taken). resolved_field true state.world m >>= stores taken) takes.1

  pub put_leads : deed_of state t ≢ wrong → LeadsToStatic machine.world at.at.frame.method.class index
  put_leads right =
      let takes = put_takes right in
      let resolved = some_by (resolved_field true state.world m) (stores takes.0) (λ is. right (after_taken takes ∙ is)) in
      let is = resolved_by true state.world m resolved.0 resolved.1 in
      record {
        found = is.found;
        named = target_is machine.world at.at.frame.method.class index at.class at.pair at.entry
            ∙ ap (λ (w : World). option_map a_field (find_field w m.class m.name m.descriptor)) (world_is machine t next (putstatic index) at.at types state stands)
            ∙ ap (option_map a_field) is.named;
        static = is.static;
      }

  module _ (takes : Takes) (leads : LeadsToStatic machine.world at.at.frame.method.class index) (place : Place) (value : Value)
      (placed : field_at machine.world place ≡ Some leads.found)
      (on_top : value_on_top (values_of (reverse stack)) ≡ Some (value_of value)) where
    abbrev same_world : machine.world ≡ state.world
    same_world = world_is machine t next (putstatic index) at.at types state stands

    abbrev taken_is : IsTaken own_ids.id stack takes.0
    taken_is = is_taken (kind_of m.descriptor) own_ids.id stack takes.0 takes.1

    -- the value that the code takes is that one
    its_value : taken_is.value ≡ value
    its_value =
        let both : Some (value_of taken_is.value) ≡ Some (value_of value) = sym taken_is.on_top ∙ on_top in
        same_value taken_is.value value cc

    pub below_it : stack ≡ taken_is.below ++ words_of value
    below_it = taken_is.is ∙ ap (λ (v : Value). taken_is.below ++ words_of v) its_value

    abbrev put_value : model.Value
    put_value = value_by own_ids.id (value_of value)

    has : HasStatic state.world place leads.found
    has = record {
      orderly = orderly machine t next (putstatic index) at.at types state stands;
      at = ap (λ (w : World). field_at w place) (sym same_world) ∙ placed;
      static = leads.static;
    }

    statics_are : AreStatics state.world own_ids machine.versions.statics state.statics
    statics_are = subst (λ (w : World). AreStatics w own_ids machine.versions.statics state.statics) same_world stands.parts.statics

    pub value_there : is_some (value_at machine.versions.statics place) ≡ true
    value_there = stands.parts.versions.statics place ∙ ap is_some placed

    resolved : resolved_field true state.world m ≡ Some (field_found leads.found)
    resolved = resolves_to true state.world m leads.found
        (ap (λ (w : World). find_field w m.class m.name m.descriptor) (sym same_world)
        ∙ found_by_target (find_field machine.world m.class m.name m.descriptor) leads.found
        (sym (target_is machine.world at.at.frame.method.class index at.class at.pair at.entry) ∙ leads.named))
        leads.static

    abbrev after : State
    after = record state { statics = with_static (field_found leads.found) put_value state.statics }

    put_goes_on : deed_of state t ≡ goes_on run after (tops own_ids.id taken_is.below)
    put_goes_on =
        let old = some_there (value_at machine.versions.statics place) value_there in
        after_taken takes ∙ ap (λ (o : Option MemberReference). o >>= stores takes.0) resolved
        ∙ ap (λ (o : Option model.Value). o >>= λ (v : model.Value).
        goes_on run (record state { statics = with_static (field_found leads.found) takes.0.value state.statics }) takes.0.rest)
        (are_read state.world own_ids machine.versions.statics state.statics place leads.found old.0 has statics_are old.1).0
        ∙ (λ i. goes_on run (record state { statics = with_static (field_found leads.found) (value_is i) state.statics }) (taken_is.rest_is i))
      where
        value_is : takes.0.value ≡ put_value
        value_is = taken_is.value_is ∙ ap (λ (v : Value). value_by own_ids.id (value_of v)) its_value

    -- the machine after it
    abbrev put_after : Kept → Statics → Machine
    put_after kept statics = record machine {
      stacks = change_thread t (goes_to next taken_is.below false) machine.stacks;
      caches = kept;
      versions = record machine.versions { statics = statics };
    }

    pub put_is_done : (kept : Kept) → IsTrueOf machine.world machine.versions.slots machine.versions.literals.texts kept
        → (statics : Statics)
        → ((other : Place) → value_at statics other ≡ (if same_place place other then Some value else value_at machine.versions.statics other))
        → AreVersions machine.world (record machine.versions { statics = statics })
        → IsDone types t (put_after kept statics) (deed_of state t)
    put_is_done kept truth statics changed versions =
        subst (IsDone types t (put_after kept statics)) (sym put_goes_on)
        (finish_is_done machine t next (putstatic index) at.at types state stands (put_after kept statics) after 0 false taken_is.below
        (tops own_ids.id taken_is.below) refl refl live.0
        (λ threads are ended. record {
          parts = record {
            world = stands.parts.world;
            versions = versions;
            heap = stands.parts.heap;
            args = stands.parts.args;
            threads = subst (λ (w : World). AreThreads w (mark_at machine.versions.marks) own_ids (put_after kept statics).stacks threads) (sym same_world) are;
            statics = subst (λ (w : World). AreStatics w own_ids statics after.statics) (sym same_world)
                (are_written state.world own_ids machine.versions.statics statics state.statics place leads.found value has statics_are
                value_there changed live.1);
            class_monitors = stands.parts.class_monitors;
            interned = stands.parts.interned;
            output = stands.parts.output;
            requests = stands.parts.requests;
          };
          ended = ended;
          caches = truth;
          orderly = stands.orderly;
        }))
      where
        live : (list_all own_ids.is_live (ids_in (values_of taken_is.below)) ≡ true) × (list_all own_ids.is_live (id_in (value_of value)) ≡ true)
        live = live_parts own_ids.is_live taken_is.below stack value below_it
            (live_operands own_ids.is_live (option_to_list (held_in at.at.frame.held)) (ids_in (values_of at.at.frame.locals))
            (ids_in (values_of stack)) (frame_is machine t next (putstatic index) at.at types state stands).live)
