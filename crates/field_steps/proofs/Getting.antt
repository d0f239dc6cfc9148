-- Fields of objects are read.
use Rattle.std.proofs.Common.{◌≡◌, ◌≢◌, ℕ, ◌+◌, ◌^◌, ◌<◌, ◌≤◌, Bool, true, false, List, [], ◌∷◌, ◌++◌, Option, Some, None, length, reverse, slice_get, option_map, option_and_then, is_some, refl, ap, sym, subst, ◌∙◌, arith, length-append}
use Rattle.std.specs.Prelude.{IsTrue, IfSome, IsSomeAnd, codes, if◌then◌else◌, option_to_list}
use Rattle.std.specs.List.{list_all}
use Rattle.std.proofs.lemmas.Bool.{and_parts}
use Rattle.jv_model.specs.Descriptors.{FieldType}
use Rattle.jv_model.specs.Instruction.{getfield, of_reference}
use Rattle.jv_model.specs.Operand.{MemberReference, member_named}
use Rattle.world_model.specs.World.{World, Field}
use Rattle.world_model.specs.LookUp.{Found, find_field}
use Rattle.world_model.specs.Layout.{layout, field_place}
use Rattle.world_model.specs.Resolution.{resolved_field}
use Rattle.machine_model.specs.Value as model
use Rattle.machine_model.specs.Value.{id_in, kind_of, is_of_kind, onto, taken_of}
use Rattle.machine_model.specs.Heap.{Contents, instance, contents_at}
use Rattle.machine_model.specs.State.{State}
use Rattle.machine_model.specs.Reach.{ids_in}
use Rattle.machine_model.specs.Deed.{Deed, wrong, throws, Running, operands, goes_on, finishes, has_room, on_object, ◌>>=◌}
use Rattle.machine_model.specs.FieldSteps.{get_field, field_at, field_in, reads}
use Rattle.machine_model.specs.LocalStep.{local_step_of}
use Rattle.machine_model.specs.SharedStep.{deed_of, shared_step}
use Rattle.class_layouts.specs.Layouts.{field_found}
use Rattle.class_world.specs.World.{name_at}
use Rattle.jv_values.specs.declared.value.Value.{Value}
use Rattle.jv_values.specs.declared.value.Value.TheVariants.{Null, Ref}
use Rattle.jv_values.specs.Values.{value_of, values_of, places_of}
use Rattle.thread_frames.specs.Frames.{FrameState, newest, change_newest, with_popped, words_of}
use Rattle.thread_frames.specs.Machine.{held_in, value_on_top, operands_of}
use Rattle.thread_frames.proofs.TopLemmas.{length-words_of}
use Rattle.look_up_cache.specs.Kept.{Kept, IsTrueOf}
use Rattle.look_up_cache.specs.Targets.{a_field, pool_at, target_at}
use Rattle.look_up_cache.specs.Words.{word_of}
use Rattle.look_up_cache.proofs.Layouts.{words_stay}
use Rattle.jv_types.specs.declared.number.MethodNo.{MethodNo}
use Rattle.heap_face.specs.declared.address.Addr.{Addr}
use Rattle.heap_objects.specs.Ids.{Ids, ids_of, are_live, value_by}
use Rattle.code_marks.specs.Marks.{mark_at}
use Rattle.machine_threads.specs.Threads.{AreThreads}
use Rattle.machine_threads.specs.Laws.{goes_to}
use Rattle.frame_stacks.specs.Threads.{Threads, IsOf, change_thread, with_frames}
use Rattle.object_fields.specs.Fields.{IsRead, HasValue}
use Rattle.object_fields.proofs.Objects.{object_there}
use Rattle.machine_parts.specs.Parts.{Machine, StandsFor, classes_of}
use Rattle.machine_parts.specs.Steps.{CanStep, IsDone, Makes}
use Rattle.machine_parts.proofs.Operands.{IsTaken, tops, is_taken, same_value, tops_pushed, live_pushed, live_parts, left_below}
use Rattle.machine_parts.proofs.Steps.{some_by, running, orderly, world_is, frame_is, deed_is, fits, finish_is_done}
use Rattle.field_steps.specs.Fields.{IsAtField, LeadsToPlace, method_in}
use Rattle.field_steps.specs.Receivers.{reference_to, operand_at, HasReference, FindsNull}
use Rattle.field_steps.proofs.Going.{its_method, of_newest, at_newest, newest_after}
use Rattle.field_steps.proofs.Named.{resolved_by, resolves_to, found_by_target, operand_is, target_is}
use Rattle.field_steps.proofs.Reading.{member_in, live_operands, if_right}
use Rattle.field_steps.proofs.Receivers.{IsInstance, IsReceiver, found_instance, is_receiver, live_object, live_below, object_taken, words_of_reference, operand_on_top, same_reference}

module _ (machine : Machine) (t next index : ℕ) (at : IsAtField machine t next index (getfield index)) where
  abbrev m : MemberReference
  m = member_in machine at.at.frame.method.class index

  abbrev own_ids : Ids
  own_ids = ids_of machine.heap

  abbrev stack : List Value
  stack = at.at.frame.stack

  -- the reference that is taken from the operands
  abbrev pub Takes : Type 0
  Takes = (taken : model.Taken) × (taken_of of_reference (tops own_ids.id stack) ≡ Some taken)

  abbrev it : (takes : Takes) → IsTaken own_ids.id stack takes.0
  it takes = is_taken of_reference own_ids.id stack takes.0 takes.1

  -- to this object
  abbrev pub its_object : Takes → Option Addr
  its_object takes = (object_taken own_ids.id stack takes.0 takes.1).0

  -- and what is left
  abbrev pub its_rest : Takes → List Value
  its_rest takes = (it takes).below

  its_value : (takes : Takes) → (it takes).value ≡ reference_to (its_object takes)
  its_value takes = (object_taken own_ids.id stack takes.0 takes.1).1

  stack_is : (takes : Takes) → stack ≡ its_rest takes ++ reference_to (its_object takes) ∷ []
  stack_is takes =
      (it takes).is ∙ ap (λ (v : Value). its_rest takes ++ words_of v) (its_value takes)
      ∙ ap (λ (ws : List Value). its_rest takes ++ ws) (words_of_reference (its_object takes))

  pub its_operand : (takes : Takes) → operand_at at.at.frame 0 ≡ Some (reference_to (its_object takes))
  its_operand takes =
      ap (λ (words : List Value). slice_get (reverse words) 0) (stack_is takes)
      ∙ operand_on_top (its_rest takes) (reference_to (its_object takes))

  pub get_on_top : (takes : Takes) → is_some (value_on_top (values_of (reverse stack))) ≡ true
  get_on_top takes = ap is_some (it takes).on_top

  -- the code pops it
  pub get_popped : (takes : Takes) (top : Value) → value_on_top (values_of (reverse stack)) ≡ Some (value_of top)
      → stack ≡ its_rest takes ++ words_of top
  get_popped takes top on_top =
      let both : Some (value_of (it takes).value) ≡ Some (value_of top) = sym (it takes).on_top ∙ on_top in
      (it takes).is ∙ ap (λ (v : Value). its_rest takes ++ words_of v) (same_value (it takes).value top cc)

  module _ (types : List FieldType) (state : State) (stands : StandsFor types machine state) where
    abbrev run : Running
    run = running machine t next (getfield index) at.at types state stands

    abbrev same_world : machine.world ≡ state.world
    same_world = world_is machine t next (getfield index) at.at types state stands

    get_deed : deed_of state t ≡ get_field run m
    unfolding shared_step local_step_of
    get_deed = deed_is machine t next (getfield index) at.at types state stands (getfield (member_named m))
        (ap getfield (operand_is (pool_at machine.world at.at.frame.method.class) index at.class at.pair at.entry)) refl

    pub get_takes : deed_of state t ≢ wrong → Takes
    get_takes right = some_by (taken_of of_reference (operands run)) _ (λ is. right (get_deed ∙ is))

    -- what is then read of the object of an id
    abbrev from_field : ℕ → List model.Value → MemberReference → Deed
    from_field id rest field = field_at state id field >>= λ (value : model.Value). reads run field rest value

    abbrev from_object : ℕ → List model.Value → Deed
    from_object id rest = resolved_field false state.world m >>= from_field id rest

    taken_value : (takes : Takes) → takes.0.value ≡ value_by own_ids.id (value_of (reference_to (its_object takes)))
    taken_value takes = (it takes).value_is ∙ ap (λ (v : Value). value_by own_ids.id (value_of v)) (its_value takes)

    after_taken : (takes : Takes)
        → deed_of state t ≡ on_object (value_by own_ids.id (value_of (reference_to (its_object takes)))) (λ id. from_object id (tops own_ids.id (its_rest takes)))
    after_taken takes = get_deed
        ∙ ap (λ (o : Option model.Taken). o >>= λ (object : model.Taken). on_object object.value (λ id. from_object id object.rest)) takes.1
        ∙ (λ i. on_object (taken_value takes i) (λ id. from_object id ((it takes).rest_is i)))

    -- null throws
    pub get_throws : (takes : Takes) → its_object takes ≡ None
        → deed_of state t ≡ throws (codes "java/lang/NullPointerException") false
    get_throws takes none = after_taken takes
        ∙ ap (λ (o : Option Addr). on_object (value_by own_ids.id (value_of (reference_to o))) (λ id. from_object id (tops own_ids.id (its_rest takes)))) none

    live_stack : list_all own_ids.is_live (ids_in (values_of stack)) ≡ true
    live_stack = live_operands own_ids.is_live (option_to_list (held_in at.at.frame.held)) (ids_in (values_of at.at.frame.locals))
        (ids_in (values_of stack)) (frame_is machine t next (getfield index) at.at types state stands).live

    live_object_of : (takes : Takes) → list_all own_ids.is_live (id_in (value_of (reference_to (its_object takes)))) ≡ true
    live_object_of takes =
        ap (λ (v : Value). list_all own_ids.is_live (id_in (value_of v))) (sym (its_value takes))
        ∙ (live_parts own_ids.is_live (its_rest takes) stack (it takes).value (it takes).is live_stack).1

    -- the word of the reference names a live object, or none
    pub get_has_reference : (takes : Takes) → HasReference 0 at.at.frame
    get_has_reference takes = record {
      object = its_object takes;
      at = its_operand takes;
      small = small (its_object takes) (live_object_of takes);
    }
      where
        small : (o : Option Addr) → list_all own_ids.is_live (id_in (value_of (reference_to o))) ≡ true → IfSome o (λ (a : Addr). a.0 < 2 ^ 32)
        small None live = tt
        small (Some a) live =
            (live_below machine types state stands a.0 (and_parts (own_ids.is_live a.0) true live).0).1

    -- ---- the object

    module _ (takes : Takes) (a : Addr) (object_is : its_object takes ≡ Some a) where
      abbrev below : List Value
      below = its_rest takes

      abbrev id : ℕ
      id = own_ids.id a.0

      at_object : deed_of state t ≡ from_object id (tops own_ids.id below)
      at_object = after_taken takes
          ∙ ap (λ (o : Option Addr). on_object (value_by own_ids.id (value_of (reference_to o))) (λ i. from_object i (tops own_ids.id below))) object_is

      pub get_leads : deed_of state t ≢ wrong → LeadsToPlace machine.world at.at.frame.method.class index
      get_leads right =
          let resolved = some_by (resolved_field false state.world m) (from_field id (tops own_ids.id below)) (λ is. right (at_object ∙ is)) in
          let is = resolved_by false state.world m resolved.0 resolved.1 in
          record {
            found = is.found;
            named = target_is machine.world at.at.frame.method.class index at.class at.pair at.entry
                ∙ ap (λ (w : World). option_map a_field (find_field w m.class m.name m.descriptor)) same_world
                ∙ ap (option_map a_field) is.named;
            own = is.static;
          }

      module _ (leads : LeadsToPlace machine.world at.at.frame.method.class index) where
        resolved : resolved_field false state.world m ≡ Some (field_found leads.found)
        resolved = resolves_to false state.world m leads.found
            (ap (λ (w : World). find_field w m.class m.name m.descriptor) (sym same_world)
            ∙ found_by_target (find_field machine.world m.class m.name m.descriptor) leads.found
            (sym (target_is machine.world at.at.frame.method.class index at.class at.pair at.entry) ∙ leads.named))
            leads.own

        at_field : deed_of state t ≡ from_field id (tops own_ids.id below) (field_found leads.found)
        at_field = at_object ∙ ap (λ (o : Option MemberReference). o >>= from_field id (tops own_ids.id below)) resolved

        -- it has the field, at the place that it has in each object
        pub get_receives : (place : ℕ) → word_of machine.world leads.found ≡ Some place → deed_of state t ≢ wrong
            → IsReceiver machine a leads.found place
        get_receives place word right =
            let value = some_by (field_at state id (field_found leads.found)) (λ (v : model.Value). reads run (field_found leads.found) (tops own_ids.id below) v)
            (λ is. right (at_field ∙ is)) in
            let instance = found_instance state.world (field_found leads.found) (contents_at state.heap id) value.0 value.1 in
            let here : IsInstance machine.world (field_found leads.found) (contents_at state.heap id) =
            subst (λ (w : World). IsInstance w (field_found leads.found) (contents_at state.heap id)) (sym same_world) instance in
            let live : own_ids.is_live a.0 ≡ true =
            (and_parts (own_ids.is_live a.0) true
            (ap (λ (o : Option Addr). list_all own_ids.is_live (id_in (value_of (reference_to o)))) (sym object_is) ∙ live_object_of takes)).0 in
            let stored = live_object machine types state stands a.0 live in
            is_receiver machine types state stands a stored.0 stored.1 leads.found place here
            (words_stay machine.world stands.orderly.sound leads.found here.class place here.place word here.placed)

        module _ (place : ℕ) (receiver : IsReceiver machine a leads.found place) (value : Value)
            (read : IsRead machine.versions.layouts.layouts machine.heap a place (value_of value)) where
          abbrev read_value : model.Value
          read_value = value_by own_ids.id (value_of value)

          abbrev words : List Value
          words = below ++ words_of value

          has : HasValue state.heap id place read_value × IsTrue (are_live own_ids (id_in (value_of value)))
          has = read (classes_of machine.world types machine.versions) state.heap refl stands.parts.heap

          -- its class is that of the receiver
          class_is : has.0.class ≡ name_at machine.world receiver.field.stored.shape.class
          class_is =
              let there = object_there machine.versions.layouts.layouts machine.heap a place receiver.field _ receiver.cell
              (classes_of machine.world types machine.versions) state.heap refl stands.parts.heap in
              let both = sym has.0.there ∙ there in
              of_class both
            where
              of_class : {one other : List ℕ} {values others : List model.Value} → Some (instance one values) ≡ Some (instance other others) → one ≡ other
              of_class same = cc

          value_is : field_at state id (field_found leads.found) ≡ Some read_value
          value_is =
              ap (option_and_then (λ (contents : Contents). field_in state.world contents (field_found leads.found))) has.0.there
              ∙ ap (λ (c : List ℕ). option_and_then (slice_get has.0.values) (field_place (layout state.world c) (field_found leads.found))) class_is
              ∙ ap (λ (w : World). option_and_then (slice_get has.0.values) (field_place (layout w (name_at machine.world receiver.field.stored.shape.class)) (field_found leads.found))) (sym same_world)
              ∙ ap (option_and_then (slice_get has.0.values)) receiver.placed ∙ has.0.at

          get_reads : deed_of state t ≡ reads run (field_found leads.found) (tops own_ids.id below) read_value
          get_reads = at_field
              ∙ ap (λ (o : Option model.Value). o >>= λ (v : model.Value). reads run (field_found leads.found) (tops own_ids.id below) v) value_is

          pushed : tops own_ids.id words ≡ onto read_value (tops own_ids.id below)
          pushed = tops_pushed own_ids.id below value

          pub get_fits : deed_of state t ≢ wrong → length below + places_of value ≤ at.at.frame.max_stack
          get_fits right =
              let kind = is_of_kind (kind_of (field_found leads.found).descriptor) read_value in
              let finished = finishes 0 false run state (onto read_value (tops own_ids.id below)) in
              let reading : reads run (field_found leads.found) (tops own_ids.id below) read_value ≢ wrong = λ is. right (get_reads ∙ is) in
              let of_kind : kind ≡ true = if_right kind finished reading in
              let room = if_right (has_room at.at.body (operands run) (onto read_value (tops own_ids.id below))) _
              (λ is. reading (ap (λ (b : Bool). if b then finished else wrong) of_kind ∙ is)) in
              omega (
                arith,
                fits machine t next (getfield index) at.at types state stands words (onto read_value (tops own_ids.id below)) pushed room,
                length-append below (words_of value),
                length-words_of value,
              )

          -- the machine after it
          abbrev get_after : Kept → Machine
          get_after kept = record machine { stacks = change_thread t (goes_to next words false) machine.stacks; caches = kept }

          pub get_is_done : (kept : Kept) → IsTrueOf machine.world machine.versions.slots machine.versions.literals.texts kept
              → IsDone types t (get_after kept) (deed_of state t)
          get_is_done kept truth =
              subst (IsDone types t (get_after kept)) (sym get_reads)
              (by (is_of_kind (kind_of (field_found leads.found).descriptor) read_value))
            where
              live : IsTrue (are_live own_ids (ids_in (values_of words)))
              live = live_pushed own_ids.is_live below value
                  (live_parts own_ids.is_live below stack (it takes).value (it takes).is live_stack).0 has.1

              by : (b : Bool) → IsDone types t (get_after kept) (if b then goes_on run state (onto read_value (tops own_ids.id below)) else wrong)
              by false = tt
              by true =
                  finish_is_done machine t next (getfield index) at.at types state stands (get_after kept) state 0 false words
                  (onto read_value (tops own_ids.id below)) refl pushed live
                  (λ threads are ended. record {
                    parts = record {
                      world = stands.parts.world;
                      versions = stands.parts.versions;
                      heap = stands.parts.heap;
                      args = stands.parts.args;
                      threads = subst (λ (w : World). AreThreads w (mark_at machine.versions.marks) own_ids (get_after kept).stacks threads) (sym same_world) are;
                      statics = stands.parts.statics;
                      class_monitors = stands.parts.class_monitors;
                      interned = stands.parts.interned;
                      output = stands.parts.output;
                      requests = stands.parts.requests;
                    };
                    ended = ended;
                    caches = truth;
                    orderly = stands.orderly;
                  })

-- ---- what the code comes to

module _ (machine : Machine) (t next index : ℕ) (at : IsAtField machine t next index (getfield index)) (step : CanStep machine t) where
  abbrev pub gets : Takes machine t next index at
  gets = get_takes machine t next index at step.types step.state step.stands step.right

  pub get_asks : IsOf machine.stacks t (λ thread. IsSomeAnd (newest thread.frames) (HasReference 0))
  get_asks = of_newest machine.stacks t at.at.frame at.at.older (HasReference 0) at.at.newest
      (get_has_reference machine t next index at step.types step.state step.stands gets)

  -- what it sees is the reference that is taken
  pub get_sees : (object : Option Addr)
      → IsOf machine.stacks t (λ thread. IsSomeAnd (newest thread.frames) (λ frame. operand_at frame 0 ≡ Some (reference_to object)))
      → its_object machine t next index at gets ≡ object
  get_sees object seen =
      let here = at_newest machine.stacks t at.at.frame at.at.older
      (λ (frame : FrameState). operand_at frame 0 ≡ Some (reference_to object)) at.at.newest seen in
      let both : Some (reference_to (its_object machine t next index at gets)) ≡ Some (reference_to object) =
      sym (its_operand machine t next index at gets) ∙ here in
      same_reference (its_object machine t next index at gets) object cc

  pub get_finds_null : its_object machine t next index at gets ≡ None → FindsNull t machine
  get_finds_null none types state stands = get_throws machine t next index at types state stands gets none

  pub get_pops : (popped : Threads) (top value : Value)
      → IsOf machine.stacks t (λ thread. IsSomeAnd (newest thread.frames) (λ frame. value_on_top (operands_of frame) ≡ Some (value_of top)))
      → popped ≡ change_thread t (with_frames (change_newest (with_popped (places_of top)))) machine.stacks
      → (length (its_rest machine t next index at gets) + places_of value ≤ at.at.frame.max_stack)
      → IsOf popped t (λ thread. IsSomeAnd (newest thread.frames) (λ frame. length frame.stack + places_of value ≤ frame.max_stack))
  get_pops popped top value on_top popped_is room =
      of_newest popped t (with_popped (places_of top) at.at.frame) at.at.older
      (λ (frame : FrameState). length frame.stack + places_of value ≤ frame.max_stack)
      (newest_after machine.stacks popped t at.at.frame at.at.older (with_popped (places_of top)) at.at.newest popped_is)
      (subst (λ (words : List Value). length words + places_of value ≤ at.at.frame.max_stack)
      (sym (left_below (its_rest machine t next index at gets) at.at.frame.stack top (get_popped machine t next index at gets top
      (at_newest machine.stacks t at.at.frame at.at.older
      (λ (frame : FrameState). value_on_top (operands_of frame) ≡ Some (value_of top)) at.at.newest on_top)))) room)

  module _ (a : Addr) (object_is : its_object machine t next index at gets ≡ Some a)
      (method : MethodNo) (method_is : method_in (slice_get machine.stacks.threads t) ≡ Some method) where
    abbrev leads : LeadsToPlace machine.world at.at.frame.method.class index
    leads = get_leads machine t next index at step.types step.state step.stands gets a object_is step.right

    same_method : at.at.frame.method ≡ method
    same_method = its_method machine.stacks t at.at.frame at.at.older method at.at.newest method_is

    pub get_leads_there : LeadsToPlace machine.world method.class index
    get_leads_there = subst (λ (number : MethodNo). LeadsToPlace machine.world number.class index) same_method leads

    module _ (place : ℕ)
        (found_is : (found : Found Field) → target_at machine.world method.class index ≡ Some (a_field found) → word_of machine.world found ≡ Some place) where
      pub get_receiver : IsReceiver machine a leads.found place
      get_receiver =
          get_receives machine t next index at step.types step.state step.stands gets a object_is leads place
          (found_is leads.found (ap (λ (number : MethodNo). target_at machine.world number.class index) (sym same_method) ∙ leads.named)) step.right

      pub get_room : (value : Value) → IsRead machine.versions.layouts.layouts machine.heap a place (value_of value)
          → length (its_rest machine t next index at gets) + places_of value ≤ at.at.frame.max_stack
      get_room value read =
          get_fits machine t next index at step.types step.state step.stands gets a object_is leads place get_receiver value read step.right

      pub get_makes : (value : Value) → IsRead machine.versions.layouts.layouts machine.heap a place (value_of value)
          → (kept : Kept) → IsTrueOf machine.world machine.versions.slots machine.versions.literals.texts kept
          → (went : Threads)
          → went ≡ change_thread t (goes_to next (its_rest machine t next index at gets ++ words_of value) false) machine.stacks
          → Makes t machine (record machine { stacks = went; caches = kept })
      get_makes value read kept truth went went_is types state stands =
          subst (λ (s : Threads). IsDone types t (record machine { stacks = s; caches = kept }) (deed_of state t)) (sym went_is)
          (get_is_done machine t next index at types state stands gets a object_is leads place get_receiver value read kept truth)
