-- Fields of objects are written.
use Rattle.std.proofs.Common.{◌≡◌, ◌≢◌, ℕ, ◌+◌, ◌^◌, ◌<◌, Bool, true, false, List, [], ◌∷◌, ◌++◌, Option, Some, None, length, reverse, slice_get, option_map, option_and_then, is_some, refl, ap, sym, subst, ◌∙◌, arith, length-append}
use Rattle.std.specs.Prelude.{IsSomeAnd, IfSome, codes, option_to_list, slice_set}
use Rattle.std.specs.List.{list_all}
use Rattle.std.proofs.lemmas.Bool.{and_parts}
use Rattle.std.proofs.lemmas.List.{reverse-append}
use Rattle.jv_model.specs.Descriptors.{FieldType}
use Rattle.jv_model.specs.Instruction.{ValueKind, of_int, of_long, of_reference, putfield}
use Rattle.jv_model.specs.Operand.{MemberReference, member_named}
use Rattle.world_model.specs.World.{World, Field}
use Rattle.world_model.specs.LookUp.{Found, find_field}
use Rattle.world_model.specs.Layout.{layout, field_place}
use Rattle.world_model.specs.Resolution.{resolved_field}
use Rattle.machine_model.specs.Value as model
use Rattle.machine_model.specs.Value.{id_in, kind_of, is_of_kind, taken_of}
use Rattle.machine_model.specs.Heap.{Contents, instance, contents_at, with_contents}
use Rattle.machine_model.specs.State.{State}
use Rattle.machine_model.specs.Reach.{ids_in}
use Rattle.machine_model.specs.Deed.{Deed, wrong, throws, Running, operands, goes_on, on_object, ◌>>=◌}
use Rattle.machine_model.specs.FieldSteps.{put_field, with_field, with_field_at}
use Rattle.machine_model.specs.LocalStep.{local_step_of}
use Rattle.machine_model.specs.SharedStep.{deed_of, shared_step}
use Rattle.class_world.specs.World.{name_at}
use Rattle.class_members.specs.Members.{cell_of_kind}
use Rattle.class_layouts.specs.Layouts.{field_found}
use Rattle.jv_values.specs.declared.value.Value.{Value}
use Rattle.jv_values.specs.declared.value.Value.TheVariants.{Int, Long, Half, Null, Ref}
use Rattle.jv_values.specs.Values.{value_of, values_of, places_of}
use Rattle.thread_frames.specs.Frames.{FrameState, newest, change_newest, with_popped, words_of}
use Rattle.thread_frames.specs.Machine.{held_in, value_on_top, operands_of}
use Rattle.look_up_cache.specs.Kept.{Kept, IsTrueOf}
use Rattle.look_up_cache.specs.Targets.{a_field, pool_at, target_at}
use Rattle.look_up_cache.specs.Words.{word_of}
use Rattle.look_up_cache.proofs.Layouts.{words_stay}
use Rattle.jv_types.specs.declared.number.MethodNo.{MethodNo}
use Rattle.heap_face.specs.declared.address.Addr.{Addr}
use Rattle.heap_face.specs.declared.layout.Cell.{Cell}
use Rattle.heap_face.specs.Heap.{HeapState}
use Rattle.heap_objects.specs.Ids.{Ids, ids_of, value_by, values_by}
use Rattle.heap_objects.specs.Words.{IsOfCell}
use Rattle.heap_objects.specs.Objects.{Classes, values_in}
use Rattle.code_marks.specs.Marks.{mark_at}
use Rattle.machine_threads.specs.Threads.{AreThreads}
use Rattle.machine_threads.specs.Laws.{IsNewest, goes_to}
use Rattle.machine_shared.specs.Shared.{AreStatics, AreInterned}
use Rattle.frame_stacks.specs.Threads.{Threads, IsOf, change_thread, with_frames}
use Rattle.object_fields.specs.Fields.{IsWritten, cell_of_field}
use Rattle.object_fields.proofs.Objects.{object_there}
use Rattle.machine_parts.specs.Parts.{Machine, StandsFor, IsFirst, classes_of}
use Rattle.machine_parts.specs.Steps.{CanStep, IsDone, Makes}
use Rattle.machine_parts.proofs.Operands.{IsTaken, tops, is_taken, same_value, live_parts, left_below}
use Rattle.machine_parts.proofs.Steps.{some_by, running, world_is, frame_is, deed_is, finish_is_done}
use Rattle.field_steps.specs.Fields.{IsAtField, LeadsToPlace, method_in}
use Rattle.field_steps.specs.Receivers.{reference_to, operand_at, words_under, HasReference, FindsNull}
use Rattle.field_steps.proofs.Going.{on, its_method, of_newest, at_newest, newest_after, still_has_frame, pop_pop_on}
use Rattle.field_steps.proofs.Named.{found_named, resolved_by, resolves_to, found_by_target, operand_is, target_is}
use Rattle.field_steps.proofs.Reading.{member_in, live_operands}
use Rattle.field_steps.proofs.Receivers.{IsInstance, IsReceiver, changed_instance, is_receiver, live_object, live_below, taken_is_of_kind, object_taken, words_of_reference, operand_below, same_reference}

-- ---- the value on top

-- the upper word of a value
abbrev upper : Value → Value
upper (Long n) = Half
upper value = value

upper_on_top : (below : List Value) (value : Value) → slice_get (reverse (below ++ words_of value)) 0 ≡ Some (upper value)
upper_on_top below value = ap (λ (ws : List Value). slice_get ws 0) (reverse-append below (words_of value)) ∙ by value
  where
    by : (v : Value) → slice_get (reverse (words_of v) ++ reverse below) 0 ≡ Some (upper v)
    by (Int n) = refl
    by (Long n) = refl
    by Half = refl
    by Null = refl
    by (Ref n) = refl

-- no value of a kind is the upper half of one
words_under_upper : (id : ℕ → ℕ) (kind : ValueKind) (value : Value) → is_of_kind kind (value_by id (value_of value)) ≡ true
    → words_under (upper value) ≡ places_of value
words_under_upper id kind (Int n) is = refl
words_under_upper id kind (Long n) is = refl
words_under_upper id kind Null is = refl
words_under_upper id kind (Ref n) is = refl
words_under_upper id of_int Half is = absurd cc
words_under_upper id of_long Half is = absurd cc
words_under_upper id of_reference Half is = absurd cc

-- a value of a kind goes into a field of that kind: no object lies at 0
of_cell : (id : ℕ → ℕ) (kind : ValueKind) (value : Value) → is_of_kind kind (value_by id (value_of value)) ≡ true
    → ((address : ℕ) → value ≡ Ref address → 0 < address) → IsOfCell (cell_of_kind kind) (value_of value)
of_cell id of_int (Int n) is some = tt
of_cell id of_long (Long n) is some = tt
of_cell id of_reference Null is some = tt
of_cell id of_reference (Ref address) is some = λ zero_is. let positive = some address refl in absurd (omega (arith, positive, zero_is))
of_cell id kind value is some = absurd cc

-- what is taken from the operands: a value, and below it a reference
pub record TakesTwo (kind : ValueKind) (operands : List model.Value) : Type 0 where
  pub value : model.Taken
  pub value_is : taken_of kind operands ≡ Some value
  pub object : model.Taken
  pub object_is : taken_of of_reference value.rest ≡ Some object

some_words : (below : List Value) (value : Value) → 0 < length (below ++ words_of value)
some_words below value = by value
  where
    by : (v : Value) → 0 < length (below ++ words_of v)
    by (Int n) = omega (arith, length-append below (Int n ∷ []))
    by (Long n) = omega (arith, length-append below (Long n ∷ Half ∷ []))
    by Half = omega (arith, length-append below (Half ∷ []))
    by Null = omega (arith, length-append below (Null ∷ []))
    by (Ref n) = omega (arith, length-append below (Ref n ∷ []))

mapped_some : {A B : Type 0} (f : A → B) (o : Option A) (b : B) → option_map f o ≡ Some b → (a : A) × (o ≡ Some a)
mapped_some f None b is = absurd cc
mapped_some f (Some a) b is = (a, refl)

module _ (machine : Machine) (t next index : ℕ) (at : IsAtField machine t next index (putfield index)) where
  abbrev m : MemberReference
  m = member_in machine at.at.frame.method.class index

  abbrev own_ids : Ids
  own_ids = ids_of machine.heap

  abbrev stack : List Value
  stack = at.at.frame.stack

  abbrev kind : ValueKind
  kind = kind_of m.descriptor

  abbrev pub Takes : Type 0
  Takes = TakesTwo kind (tops own_ids.id stack)

  module _ (takes : Takes) where
    -- the value, and what is below it
    abbrev first : IsTaken own_ids.id stack takes.value
    first = is_taken kind own_ids.id stack takes.value takes.value_is

    pub reference_there : taken_of of_reference (tops own_ids.id first.below) ≡ Some takes.object
    reference_there = ap (taken_of of_reference) (sym first.rest_is) ∙ takes.object_is

    abbrev second : IsTaken own_ids.id first.below takes.object
    second = is_taken of_reference own_ids.id first.below takes.object reference_there

    abbrev pub put_value : Value
    put_value = first.value

    -- the object of the reference
    abbrev pub put_object : Option Addr
    put_object = (object_taken own_ids.id first.below takes.object reference_there).0

    abbrev pub put_rest : List Value
    put_rest = second.below

    reference_is : second.value ≡ reference_to put_object
    reference_is = (object_taken own_ids.id first.below takes.object reference_there).1

    pub put_below : first.below ≡ put_rest ++ words_of (reference_to put_object)
    put_below = second.is ∙ ap (λ (v : Value). put_rest ++ words_of v) reference_is

    pub put_stack : stack ≡ first.below ++ words_of put_value
    put_stack = first.is

    of_kind : is_of_kind kind (value_by own_ids.id (value_of put_value)) ≡ true
    of_kind = ap (is_of_kind kind) (sym first.value_is) ∙ taken_is_of_kind kind (tops own_ids.id stack) takes.value takes.value_is

    pub put_words : (count : ℕ) → IsSomeAnd (operand_at at.at.frame 0) (λ word. count ≡ words_under word) → count ≡ places_of put_value
    put_words count is =
        subst (λ (o : Option Value). IsSomeAnd o (λ word. count ≡ words_under word))
        (ap (λ (words : List Value). slice_get (reverse words) 0) put_stack ∙ upper_on_top first.below put_value) is
        ∙ words_under_upper own_ids.id kind put_value of_kind

    pub put_operand : operand_at at.at.frame (places_of put_value) ≡ Some (reference_to put_object)
    put_operand =
        ap (λ (words : List Value). slice_get (reverse words) (places_of put_value))
        (put_stack ∙ ap (λ (ws : List Value). ws ++ words_of put_value)
        (put_below ∙ ap (λ (ws : List Value). put_rest ++ ws) (words_of_reference put_object)))
        ∙ operand_below put_rest (reference_to put_object) put_value

    pub put_on_top : is_some (value_on_top (values_of (reverse stack))) ≡ true
    put_on_top = ap is_some first.on_top

    pub reference_on_top : is_some (value_on_top (values_of (reverse first.below))) ≡ true
    reference_on_top = ap is_some second.on_top

    -- the code pops that value
    pub popped_value : (value : Value) → value_on_top (values_of (reverse stack)) ≡ Some (value_of value) → put_value ≡ value
    popped_value value on_top = let both : Some (value_of put_value) ≡ Some (value_of value) = sym first.on_top ∙ on_top in same_value put_value value cc

    -- and then that reference
    pub popped_reference : (value : Value) → value_on_top (values_of (reverse first.below)) ≡ Some (value_of value) → reference_to put_object ≡ value
    popped_reference value on_top =
        let both : Some (value_of second.value) ≡ Some (value_of value) = sym second.on_top ∙ on_top in
        sym reference_is ∙ same_value second.value value cc

  module _ (types : List FieldType) (state : State) (stands : StandsFor types machine state) where
    abbrev run : Running
    run = running machine t next (putfield index) at.at types state stands

    abbrev same_world : machine.world ≡ state.world
    same_world = world_is machine t next (putfield index) at.at types state stands

    put_deed : deed_of state t ≡ put_field run m
    unfolding shared_step local_step_of
    put_deed = deed_is machine t next (putfield index) at.at types state stands (putfield (member_named m))
        (ap putfield (operand_is (pool_at machine.world at.at.frame.method.class) index at.class at.pair at.entry)) refl

    -- what is then done to the object of an id
    abbrev in_field : ℕ → model.Value → List model.Value → MemberReference → Deed
    in_field id value rest field = with_field_at state id field value >>= λ (s : State). goes_on run s rest

    abbrev in_object : ℕ → model.Value → List model.Value → Deed
    in_object id value rest = resolved_field false state.world m >>= in_field id value rest

    abbrev with_taken : model.Taken → Deed
    with_taken taken = taken_of of_reference taken.rest >>= λ (object : model.Taken). on_object object.value (λ id. in_object id taken.value object.rest)

    pub put_takes : deed_of state t ≢ wrong → Takes
    put_takes right =
        let value = some_by (taken_of kind (operands run)) with_taken (λ is. right (put_deed ∙ is)) in
        let object = some_by (taken_of of_reference value.0.rest) (λ (o : model.Taken). on_object o.value (λ id. in_object id value.0.value o.rest))
        (λ is. right (put_deed ∙ ap (λ (o : Option model.Taken). o >>= with_taken) value.1 ∙ is)) in
        record { value = value.0; value_is = value.1; object = object.0; object_is = object.1 }

    live_stack : list_all own_ids.is_live (ids_in (values_of stack)) ≡ true
    live_stack = live_operands own_ids.is_live (option_to_list (held_in at.at.frame.held)) (ids_in (values_of at.at.frame.locals))
        (ids_in (values_of stack)) (frame_is machine t next (putfield index) at.at types state stands).live

    module _ (takes : Takes) where
      abbrev given : model.Value
      given = value_by own_ids.id (value_of (put_value takes))

      abbrev rest : List model.Value
      rest = tops own_ids.id (put_rest takes)

      object_value : takes.object.value ≡ value_by own_ids.id (value_of (reference_to (put_object takes)))
      object_value = (second takes).value_is ∙ ap (λ (v : Value). value_by own_ids.id (value_of v)) (reference_is takes)

      after_taken : deed_of state t ≡ on_object (value_by own_ids.id (value_of (reference_to (put_object takes)))) (λ id. in_object id given rest)
      after_taken = put_deed
          ∙ ap (λ (o : Option model.Taken). o >>= with_taken) takes.value_is
          ∙ ap (λ (o : Option model.Taken). o >>= λ (object : model.Taken). on_object object.value (λ id. in_object id takes.value.value object.rest)) takes.object_is
          ∙ (λ i. on_object (object_value i) (λ id. in_object id ((first takes).value_is i) ((second takes).rest_is i)))

      -- null throws
      pub put_throws : put_object takes ≡ None → deed_of state t ≡ throws (codes "java/lang/NullPointerException") false
      put_throws none = after_taken
          ∙ ap (λ (o : Option Addr). on_object (value_by own_ids.id (value_of (reference_to o))) (λ id. in_object id given rest)) none

      live_first : (list_all own_ids.is_live (ids_in (values_of (first takes).below)) ≡ true) × (list_all own_ids.is_live (id_in (value_of (put_value takes))) ≡ true)
      live_first = live_parts own_ids.is_live (first takes).below stack (put_value takes) (put_stack takes) live_stack

      live_second : (list_all own_ids.is_live (ids_in (values_of (put_rest takes))) ≡ true) × (list_all own_ids.is_live (id_in (value_of (reference_to (put_object takes)))) ≡ true)
      live_second = live_parts own_ids.is_live (put_rest takes) (first takes).below (reference_to (put_object takes)) (put_below takes) live_first.0

      pub put_has_reference : HasReference (places_of (put_value takes)) at.at.frame
      put_has_reference = record {
        object = put_object takes;
        at = put_operand takes;
        small = small (put_object takes) live_second.1;
      }
        where
          small : (o : Option Addr) → list_all own_ids.is_live (id_in (value_of (reference_to o))) ≡ true → IfSome o (λ (a : Addr). a.0 < 2 ^ 32)
          small None live = tt
          small (Some a) live = (live_below machine types state stands a.0 (and_parts (own_ids.is_live a.0) true live).0).1

      -- ---- the object

      module _ (a : Addr) (object_is : put_object takes ≡ Some a) where
        abbrev id : ℕ
        id = own_ids.id a.0

        at_object : deed_of state t ≡ in_object id given rest
        at_object = after_taken
            ∙ ap (λ (o : Option Addr). on_object (value_by own_ids.id (value_of (reference_to o))) (λ i. in_object i given rest)) object_is

        pub put_leads : deed_of state t ≢ wrong → LeadsToPlace machine.world at.at.frame.method.class index
        put_leads right =
            let resolved = some_by (resolved_field false state.world m) (in_field id given rest) (λ is. right (at_object ∙ is)) in
            let is = resolved_by false state.world m resolved.0 resolved.1 in
            record {
              found = is.found;
              named = target_is machine.world at.at.frame.method.class index at.class at.pair at.entry
                  ∙ ap (λ (w : World). option_map a_field (find_field w m.class m.name m.descriptor)) same_world
                  ∙ ap (option_map a_field) is.named;
              own = is.static;
            }

        module _ (leads : LeadsToPlace machine.world at.at.frame.method.class index) where
          found_there : find_field machine.world m.class m.name m.descriptor ≡ Some leads.found
          found_there = found_by_target (find_field machine.world m.class m.name m.descriptor) leads.found
              (sym (target_is machine.world at.at.frame.method.class index at.class at.pair at.entry) ∙ leads.named)

          resolved : resolved_field false state.world m ≡ Some (field_found leads.found)
          resolved = resolves_to false state.world m leads.found
              (ap (λ (w : World). find_field w m.class m.name m.descriptor) (sym same_world) ∙ found_there) leads.own

          at_field : deed_of state t ≡ in_field id given rest (field_found leads.found)
          at_field = at_object ∙ ap (λ (o : Option MemberReference). o >>= in_field id given rest) resolved

          -- it has the field, at the place that it has in each object
          pub put_receives : (place : ℕ) → word_of machine.world leads.found ≡ Some place → deed_of state t ≢ wrong
              → IsReceiver machine a leads.found place
          put_receives place word right =
              let after = some_by (with_field_at state id (field_found leads.found) given) (λ (s : State). goes_on run s rest) (λ is. right (at_field ∙ is)) in
              let changed = mapped_some (λ (contents : Contents). let s : State = record state { heap = with_contents id contents state.heap } in s)
              (option_and_then (with_field state.world (field_found leads.found) given) (contents_at state.heap id)) after.0 after.1 in
              let instance = changed_instance state.world (field_found leads.found) given (contents_at state.heap id) changed.0 changed.1 in
              let here : IsInstance machine.world (field_found leads.found) (contents_at state.heap id) =
              subst (λ (w : World). IsInstance w (field_found leads.found) (contents_at state.heap id)) (sym same_world) instance in
              let live : own_ids.is_live a.0 ≡ true =
              (and_parts (own_ids.is_live a.0) true
              (ap (λ (o : Option Addr). list_all own_ids.is_live (id_in (value_of (reference_to o)))) (sym object_is) ∙ live_second.1)).0 in
              let stored = live_object machine types state stands a.0 live in
              is_receiver machine types state stands a stored.0 stored.1 leads.found place here
              (words_stay machine.world stands.orderly.sound leads.found here.class place here.place word here.placed)

          module _ (place : ℕ) (receiver : IsReceiver machine a leads.found place) (value : Value) (value_is : put_value takes ≡ value) where
            -- the value is of the field's kind
            pub put_fits : IsSomeAnd (cell_of_field machine.versions.layouts.layouts machine.heap a place) (λ cell. IsOfCell cell (value_of value))
            put_fits =
                subst (λ (v : Value). IsSomeAnd (cell_of_field machine.versions.layouts.layouts machine.heap a place) (λ cell. IsOfCell cell (value_of v))) value_is
                (subst (λ (o : Option Cell). IsSomeAnd o (λ cell. IsOfCell cell (value_of (put_value takes)))) (sym receiver.cell)
                (subst (λ (d : List ℕ). IsOfCell (cell_of_kind (kind_of d)) (value_of (put_value takes)))
                (sym (found_named machine.world m.class m.name m.descriptor leads.found found_there).1)
                (of_cell own_ids.id kind (put_value takes) (of_kind takes) not_null)))
              where
                not_null : (address : ℕ) → put_value takes ≡ Ref address → 0 < address
                not_null address is =
                    (live_below machine types state stands address
                    (and_parts (own_ids.is_live address) true
                    (ap (λ (v : Value). list_all own_ids.is_live (id_in (value_of v))) (sym is) ∙ live_first.1)).0).0

            abbrev classes : Classes
            classes = classes_of machine.world types machine.versions

            abbrev name : List ℕ
            name = name_at machine.world receiver.field.stored.shape.class

            abbrev values : List model.Value
            values = values_by own_ids.id (values_in receiver.field.cells receiver.field.stored.contents)

            contents_there : contents_at state.heap id ≡ Some (instance name values)
            contents_there = object_there machine.versions.layouts.layouts machine.heap a place receiver.field _ receiver.cell
                classes state.heap refl stands.parts.heap

            abbrev new_value : model.Value
            new_value = value_by own_ids.id (value_of value)

            abbrev after : State
            after = record state { heap = with_contents id (instance name (slice_set values place new_value)) state.heap }

            abbrev with_heap : Contents → State
            with_heap contents = record state { heap = with_contents id contents state.heap }

            abbrev put_at : Option ℕ → Option State
            put_at o = option_map with_heap (option_map (λ p. instance name (slice_set values p new_value)) o)

            field_changed : with_field_at state id (field_found leads.found) new_value ≡ Some after
            field_changed =
                ap (λ (o : Option Contents). option_map with_heap (option_and_then (with_field state.world (field_found leads.found) new_value) o)) contents_there
                ∙ ap (λ (w : World). put_at (field_place (layout w name) (field_found leads.found))) (sym same_world)
                ∙ ap put_at receiver.placed

            put_goes_on : deed_of state t ≡ goes_on run after rest
            put_goes_on = at_field
                ∙ ap (λ (v : Value). in_field id (value_by own_ids.id (value_of v)) rest (field_found leads.found)) value_is
                ∙ ap (λ (o : Option State). o >>= λ (s : State). goes_on run s rest) field_changed

            -- the machine after it
            abbrev put_after : Kept → HeapState → Machine
            put_after kept heap = record machine {
              stacks = change_thread t (goes_to next (put_rest takes) false) machine.stacks;
              caches = kept;
              heap = heap;
            }

            pub put_is_done : (kept : Kept) → IsTrueOf machine.world machine.versions.slots machine.versions.literals.texts kept
                → (heap : HeapState) → IsWritten machine.versions.layouts.layouts machine.heap heap a place (value_of value)
                → ids_of heap ≡ own_ids → IsDone types t (put_after kept heap) (deed_of state t)
            put_is_done kept truth heap written ids_same =
                subst (IsDone types t (put_after kept heap)) (sym put_goes_on)
                (finish_is_done machine t next (putfield index) at.at types state stands (put_after kept heap) after 0 false (put_rest takes)
                rest refl refl live_second.0
                (λ threads are ended. record {
                  parts = record {
                    world = stands.parts.world;
                    versions = stands.parts.versions;
                    heap = written classes state.heap name values refl stands.parts.heap live_value contents_there;
                    args = subst (λ (ids : Ids). IsFirst ids machine.args.0) (sym ids_same) stands.parts.args;
                    threads =
                        subst (λ (ids : Ids). AreThreads machine.world (mark_at machine.versions.marks) ids (put_after kept heap).stacks threads) (sym ids_same)
                        (subst (λ (w : World). AreThreads w (mark_at machine.versions.marks) own_ids (put_after kept heap).stacks threads) (sym same_world) are);
                    statics = subst (λ (ids : Ids). AreStatics machine.world ids machine.versions.statics state.statics) (sym ids_same) stands.parts.statics;
                    class_monitors = stands.parts.class_monitors;
                    interned = subst (λ (ids : Ids). AreInterned ids machine.versions.literals state.interned) (sym ids_same) stands.parts.interned;
                    output = stands.parts.output;
                    requests = stands.parts.requests;
                  };
                  ended = ended;
                  caches = truth;
                  orderly = stands.orderly;
                }))
              where
                live_value : list_all own_ids.is_live (id_in (value_of value)) ≡ true
                live_value = ap (λ (v : Value). list_all own_ids.is_live (id_in (value_of v))) (sym value_is) ∙ live_first.1

-- ---- what the code comes to

module _ (machine : Machine) (t next index : ℕ) (at : IsAtField machine t next index (putfield index)) (step : CanStep machine t) where
  abbrev pub puts : Takes machine t next index at
  puts = put_takes machine t next index at step.types step.state step.stands step.right

  abbrev value : Value
  value = put_value machine t next index at puts

  abbrev middle : List Value
  middle = (is_taken (kind_of (member_in machine at.at.frame.method.class index).descriptor) (ids_of machine.heap).id at.at.frame.stack puts.value puts.value_is).below

  pub put_asks_operand : IsOf machine.stacks t (λ thread. IsSomeAnd (newest thread.frames) (λ frame. 0 < length frame.stack))
  put_asks_operand = of_newest machine.stacks t at.at.frame at.at.older (λ (frame : FrameState). 0 < length frame.stack) at.at.newest
      (subst (λ (words : List Value). 0 < length words) (sym (put_stack machine t next index at puts)) (some_words middle value))

  pub put_counts : (count : ℕ)
      → IsOf machine.stacks t (λ thread. IsSomeAnd (newest thread.frames) (λ frame. IsSomeAnd (operand_at frame 0) (λ word. count ≡ words_under word)))
      → count ≡ places_of value
  put_counts count seen =
      put_words machine t next index at puts count
      (at_newest machine.stacks t at.at.frame at.at.older
      (λ (frame : FrameState). IsSomeAnd (operand_at frame 0) (λ word. count ≡ words_under word)) at.at.newest seen)

  pub put_asks : (count : ℕ) → count ≡ places_of value
      → IsOf machine.stacks t (λ thread. IsSomeAnd (newest thread.frames) (HasReference count))
  put_asks count is =
      of_newest machine.stacks t at.at.frame at.at.older (HasReference count) at.at.newest
      (subst (λ n. HasReference n at.at.frame) (sym is) (put_has_reference machine t next index at step.types step.state step.stands puts))

  -- what it sees is the reference that is taken
  pub put_sees : (count : ℕ) → count ≡ places_of value → (object : Option Addr)
      → IsOf machine.stacks t (λ thread. IsSomeAnd (newest thread.frames) (λ frame. operand_at frame count ≡ Some (reference_to object)))
      → put_object machine t next index at puts ≡ object
  put_sees count is object seen =
      let here = at_newest machine.stacks t at.at.frame at.at.older
      (λ (frame : FrameState). operand_at frame count ≡ Some (reference_to object)) at.at.newest seen in
      let both : Some (reference_to (put_object machine t next index at puts)) ≡ Some (reference_to object) =
      sym (put_operand machine t next index at puts) ∙ ap (operand_at at.at.frame) (sym is) ∙ here in
      same_reference (put_object machine t next index at puts) object cc

  pub put_finds_null : put_object machine t next index at puts ≡ None → FindsNull t machine
  put_finds_null none types state stands = put_throws machine t next index at types state stands puts none

  -- the values that are popped
  pub put_asks_value : IsOf machine.stacks t (λ thread. IsSomeAnd (newest thread.frames) (λ frame. is_some (value_on_top (operands_of frame)) ≡ true))
  put_asks_value = of_newest machine.stacks t at.at.frame at.at.older
      (λ (frame : FrameState). is_some (value_on_top (operands_of frame)) ≡ true) at.at.newest (put_on_top machine t next index at puts)

  module _ (popped : Threads) (top : Value)
      (on_top : IsOf machine.stacks t (λ thread. IsSomeAnd (newest thread.frames) (λ frame. value_on_top (operands_of frame) ≡ Some (value_of top))))
      (popped_is : popped ≡ change_thread t (with_frames (change_newest (with_popped (places_of top)))) machine.stacks) where
    pub put_popped : value ≡ top
    put_popped = popped_value machine t next index at puts top
        (at_newest machine.stacks t at.at.frame at.at.older
        (λ (frame : FrameState). value_on_top (operands_of frame) ≡ Some (value_of top)) at.at.newest on_top)

    stack_is : at.at.frame.stack ≡ middle ++ words_of top
    stack_is = put_stack machine t next index at puts ∙ ap (λ (v : Value). middle ++ words_of v) put_popped

    left_is : (with_popped (places_of top) at.at.frame).stack ≡ middle
    left_is = left_below middle at.at.frame.stack top stack_is

    newest_is : IsNewest popped t (with_popped (places_of top) at.at.frame) at.at.older
    newest_is = newest_after machine.stacks popped t at.at.frame at.at.older (with_popped (places_of top)) at.at.newest popped_is

    pub put_asks_reference : IsOf popped t (λ thread. IsSomeAnd (newest thread.frames) (λ frame. is_some (value_on_top (operands_of frame)) ≡ true))
    put_asks_reference = of_newest popped t (with_popped (places_of top) at.at.frame) at.at.older
        (λ (frame : FrameState). is_some (value_on_top (operands_of frame)) ≡ true) newest_is
        (subst (λ (words : List Value). is_some (value_on_top (values_of (reverse words))) ≡ true) (sym left_is)
        (reference_on_top machine t next index at puts))

    module _ (twice : Threads) (second : Value)
        (also : IsOf popped t (λ thread. IsSomeAnd (newest thread.frames) (λ frame. value_on_top (operands_of frame) ≡ Some (value_of second))))
        (twice_is : twice ≡ change_thread t (with_frames (change_newest (with_popped (places_of second)))) popped) where
      pub put_goes : IsOf twice t (λ thread. 0 < length thread.frames)
      put_goes = still_has_frame popped twice t (with_popped (places_of top) at.at.frame) at.at.older (with_popped (places_of second)) newest_is twice_is

      second_is : reference_to (put_object machine t next index at puts) ≡ second
      second_is = popped_reference machine t next index at puts second
          (subst (λ (words : List Value). value_on_top (values_of (reverse words)) ≡ Some (value_of second)) left_is
          (at_newest popped t (with_popped (places_of top) at.at.frame) at.at.older
          (λ (frame : FrameState). value_on_top (operands_of frame) ≡ Some (value_of second)) newest_is also))

      pub put_went : (went : Threads) → went ≡ change_thread t (on next) twice
          → went ≡ change_thread t (goes_to next (put_rest machine t next index at puts) false) machine.stacks
      put_went went went_is =
          pop_pop_on machine.stacks popped twice went t next at.at.frame at.at.older middle (put_rest machine t next index at puts) top second
          at.at.newest stack_is
          (put_below machine t next index at puts ∙ ap (λ (v : Value). put_rest machine t next index at puts ++ words_of v) second_is)
          popped_is twice_is went_is

  module _ (a : Addr) (object_is : put_object machine t next index at puts ≡ Some a)
      (method : MethodNo) (method_is : method_in (slice_get machine.stacks.threads t) ≡ Some method) where
    abbrev leads : LeadsToPlace machine.world at.at.frame.method.class index
    leads = put_leads machine t next index at step.types step.state step.stands puts a object_is step.right

    same_method : at.at.frame.method ≡ method
    same_method = its_method machine.stacks t at.at.frame at.at.older method at.at.newest method_is

    pub put_leads_there : LeadsToPlace machine.world method.class index
    put_leads_there = subst (λ (number : MethodNo). LeadsToPlace machine.world number.class index) same_method leads

    module _ (place : ℕ)
        (found_is : (found : Found Field) → target_at machine.world method.class index ≡ Some (a_field found) → word_of machine.world found ≡ Some place) where
      pub put_receiver : IsReceiver machine a leads.found place
      put_receiver =
          put_receives machine t next index at step.types step.state step.stands puts a object_is leads place
          (found_is leads.found (ap (λ (number : MethodNo). target_at machine.world number.class index) (sym same_method) ∙ leads.named)) step.right

      module _ (top : Value) (top_is : value ≡ top) where
        pub put_cell : IsSomeAnd (cell_of_field machine.versions.layouts.layouts machine.heap a place) (λ cell. IsOfCell cell (value_of top))
        put_cell = put_fits machine t next index at step.types step.state step.stands puts a object_is leads place put_receiver top top_is

        pub put_makes : (kept : Kept) → IsTrueOf machine.world machine.versions.slots machine.versions.literals.texts kept
            → (heap : HeapState) → IsWritten machine.versions.layouts.layouts machine.heap heap a place (value_of top)
            → ids_of heap ≡ ids_of machine.heap → (went : Threads)
            → went ≡ change_thread t (goes_to next (put_rest machine t next index at puts) false) machine.stacks
            → Makes t machine (record machine { stacks = went; caches = kept; heap = heap })
        put_makes kept truth heap written ids_same went went_is types state stands =
            subst (λ (s : Threads). IsDone types t (record machine { stacks = s; caches = kept; heap = heap }) (deed_of state t)) (sym went_is)
            (put_is_done machine t next index at types state stands puts a object_is leads place put_receiver top top_is kept truth heap written ids_same)
