-- What changes of a state leave within reach.
use Rattle.std.proofs.Common.{◌≡◌, ℕ, zero, suc, ◌+◌, Bool, true, false, cond, List, [], ◌∷◌, ◌++◌, length, Option, Some, None, refl, subst, inl, inr}
use Rattle.std.specs.Prelude.{◌⊎◌, ◌&&◌, IfSome, slice_get, slice_set, option_map, option_and_then}
use Rattle.std.specs.List.{AllByRecursion}
use Rattle.jv_model.specs.Operand.{MemberReference}
use Rattle.world_model.specs.World.{Method}
use Rattle.world_model.specs.LookUp.{Found}
use Rattle.world_model.specs.Layout.{layout, field_place}
use Rattle.machine_model.specs.Value.{Value}
use Rattle.machine_model.specs.Heap.{Contents, instance, array, string, Object, Monitor, Heap, contents_at, values_of, replace_at, with_object, with_contents, with_monitor, entered, exited}
use Rattle.machine_model.specs.State.{Frame, Thread, Static, State, with_thread, with_static, static_value}
use Rattle.machine_model.specs.FieldSteps.{field_in, field_at, with_field, with_field_at}
use Rattle.machine_model.specs.Monitors.{is_synchronized, change_monitor, held_by}
use Rattle.machine_model.specs.Throwing.{is_synchronized_frame, owns, left_by}
use Rattle.machine_model.specs.CallSteps.{entered_by}
use Rattle.machine_model.specs.Strings.{with_interned}
use Rattle.world_model.specs.Members.{same_member}
use Rattle.frame_laws.proofs.Outcome.{some_inj}
use Rattle.reach_laws.proofs.Lists.{all_append, all_get, all_set, all_find, all_replaced, all_where, if_map}
use Rattle.reach_laws.proofs.Holding.{MayReach, Names, Holds, ThreadIn, StaticIn, LiteralIn, Within, next_in}

-- ---- the heap

-- what an object holds once one has changed is what it held, or what the changed one does
contents_replaced : (change : Object → Object) (heap : Heap) (n id : ℕ) (contents : Contents)
    → contents_at (replace_at change heap n) id ≡ Some contents
    → (contents_at heap id ≡ Some contents) ⊎ ((o : Object) × (contents_at heap id ≡ Some o.contents) × ((change o).contents ≡ contents))
contents_replaced change [] n id contents is = inl is
contents_replaced change (o ∷ heap) zero zero contents is = inr (o, refl, some_inj is)
contents_replaced change (o ∷ heap) zero (suc id) contents is = inl is
contents_replaced change (o ∷ heap) (suc n) zero contents is = inl is
contents_replaced change (o ∷ heap) (suc n) (suc id) contents is = contents_replaced change heap n id contents is

contents_added : (heap : Heap) (new : Object) (id : ℕ) (contents : Contents) → contents_at (heap ++ new ∷ []) id ≡ Some contents
    → (contents_at heap id ≡ Some contents) ⊎ (new.contents ≡ contents)
contents_added [] new zero contents is = inr (some_inj is)
contents_added [] new (suc id) contents is = absurd cc
contents_added (o ∷ heap) new zero contents is = inl is
contents_added (o ∷ heap) new (suc id) contents is = contents_added heap new id contents is

module _ (before state : State) (within : Within before state) where
  heap_within : (heap : Heap)
      → ((id : ℕ) (contents : Contents) → MayReach before id → contents_at heap id ≡ Some contents → Holds before (values_of contents))
      → Within before (record state { heap = heap })
  heap_within heap objects = record {
    first = within.first;
    threads = within.threads;
    statics = within.statics;
    literals = within.literals;
    objects = objects;
  }

  pub contents_within : (id : ℕ) (contents : Contents) → Holds before (values_of contents)
      → Within before (record state { heap = with_contents id contents state.heap })
  contents_within id contents holds =
      heap_within (with_contents id contents state.heap) λ u now may is.
      elim (contents_replaced (λ (o : Object). record o { contents = contents }) state.heap id u now is) [
        | inl old ↦ within.objects u now may old
        | inr new ↦ subst (λ (c : Contents). Holds before (values_of c)) new.2 holds
      ]

  pub added_within : (contents : Contents) → Holds before (values_of contents)
      → Within before (record state { heap = with_object contents state.heap })
  added_within contents holds =
      heap_within (with_object contents state.heap) λ u now may is.
      elim (contents_added state.heap _ u now is) [
        | inl old ↦ within.objects u now may old
        | inr new ↦ subst (λ (c : Contents). Holds before (values_of c)) new holds
      ]

  pub monitor_within : (class : List ℕ) (held : Option ℕ) (change : Monitor → Monitor)
      → Within before (change_monitor class held change state)
  monitor_within class (Some id) change =
      heap_within (with_monitor id change state.heap) λ u now may is.
      elim (contents_replaced (λ (o : Object). record o { monitor = change o.monitor }) state.heap id u now is) [
        | inl old ↦ within.objects u now may old
        | inr new ↦ subst (λ (c : Contents). Holds before (values_of c)) new.2 (within.objects u new.0.contents may new.1)
      ]
  monitor_within class None change = record {
    first = within.first;
    threads = within.threads;
    statics = within.statics;
    literals = within.literals;
    objects = within.objects;
  }

  pub entered_within : (t : ℕ) (found : Found Method) (receiver : Option ℕ) → Within before (entered_by t found receiver state)
  entered_within t found receiver = go (is_synchronized found.member)
    where
      go : (b : Bool) → Within before (cond b (change_monitor found.class (held_by found.member receiver) (entered t) state) state)
      go true = monitor_within found.class (held_by found.member receiver) (entered t)
      go false = within

  pub left_within : (t : ℕ) (frame : Frame) → Within before (left_by t frame state)
  left_within t frame = go (is_synchronized_frame state.world frame && owns t state frame)
    where
      go : (b : Bool) → Within before (cond b (change_monitor frame.method.class frame.held exited state) state)
      go true = monitor_within frame.method.class frame.held exited
      go false = within

  -- ---- fields

  -- the value of a field of an object in reach
  pub field_within : (id : ℕ) (field : MemberReference) → MayReach before id → IfSome (field_at state id field) (Names before)
  field_within id field may = go (contents_at state.heap id) refl
    where
      of : (contents : Contents) → Holds before (values_of contents) → IfSome (field_in state.world contents field) (Names before)
      of (instance class values) holds = at_place (field_place (layout state.world class) field)
        where
          at_place : (o : Option ℕ) → IfSome (option_and_then (slice_get values) o) (Names before)
          at_place None = tt
          at_place (Some place) = all_get (Names before) values place holds
      of (array type elements) holds = tt
      of (string units) holds = tt

      go : (o : Option Contents) → contents_at state.heap id ≡ o
          → IfSome (option_and_then (λ contents. field_in state.world contents field) o) (Names before)
      go None is = tt
      go (Some contents) is = of contents (within.objects id contents may is)

  -- the state with such a value in a field of one
  pub field_set_within : (id : ℕ) (field : MemberReference) (value : Value) → MayReach before id → Names before value
      → IfSome (with_field_at state id field value) (Within before)
  field_set_within id field value may here =
      if_map (λ (c : Contents). Holds before (values_of c)) (Within before) (λ contents. record state { heap = with_contents id contents state.heap })
      (option_and_then (with_field state.world field value) (contents_at state.heap id)) (go (contents_at state.heap id) refl) (contents_within id)
    where
      at_place : (class : List ℕ) (values : List Value) → Holds before values → (o : Option ℕ)
          → IfSome (option_map (λ place. instance class (slice_set values place value)) o) (λ (c : Contents). Holds before (values_of c))
      at_place class values holds None = tt
      at_place class values holds (Some place) = all_set (Names before) values place value holds here

      of : (contents : Contents) → Holds before (values_of contents)
          → IfSome (with_field state.world field value contents) (λ (c : Contents). Holds before (values_of c))
      of (instance class values) holds = at_place class values holds (field_place (layout state.world class) field)
      of (array type elements) holds = tt
      of (string units) holds = tt

      go : (o : Option Contents) → contents_at state.heap id ≡ o
          → IfSome (option_and_then (with_field state.world field value) o) (λ (c : Contents). Holds before (values_of c))
      go None is = tt
      go (Some contents) is = of contents (within.objects id contents may is)

  -- ---- the rest

  pub static_within : (field : MemberReference) → IfSome (static_value state.statics field) (Names before)
  static_within field =
      if_map (StaticIn before) (Names before) (λ (s : Static). s.value) _ (all_find (StaticIn before) (λ (s : Static). same_member s.field field) state.statics within.statics) (λ s h. h)

  pub static_set_within : (field : MemberReference) (value : Value) → Names before value
      → Within before (record state { statics = with_static field value state.statics })
  static_set_within field value here = record {
    first = within.first;
    threads = within.threads;
    statics = all_where (StaticIn before) (λ (s : Static). same_member s.field field) (λ s. record s { value = value }) (λ s h. here) state.statics within.statics;
    literals = within.literals;
    objects = within.objects;
  }

  pub interned_within : (units : List ℕ) → length state.heap ≡ length before.heap → Within before (with_interned units state)
  interned_within units same =
      let added = added_within (string units) tt in
      record {
        first = within.first;
        threads = within.threads;
        statics = within.statics;
        literals = all_append (LiteralIn before) state.interned _ within.literals (next_in before state same, tt);
        objects = added.objects;
      }

  pub output_within : (output : List ℕ) → Within before (record state { output = output })
  output_within output = record {
    first = within.first;
    threads = within.threads;
    statics = within.statics;
    literals = within.literals;
    objects = within.objects;
  }

  pub request_within : Within before (record state { requests = state.requests + 1 })
  request_within = record {
    first = within.first;
    threads = within.threads;
    statics = within.statics;
    literals = within.literals;
    objects = within.objects;
  }

  -- ---- threads

  pub threads_within : (threads : List Thread) → AllByRecursion (ThreadIn before) threads → Within before (record state { threads = threads })
  threads_within threads all = record {
    first = within.first;
    threads = all;
    statics = within.statics;
    literals = within.literals;
    objects = within.objects;
  }

  pub thread_within : (t : ℕ) (change : Thread → Thread) → ((th : Thread) → ThreadIn before th → ThreadIn before (change th))
      → Within before (with_thread t change state)
  thread_within t change each = threads_within (replace_at change state.threads t) (all_replaced (ThreadIn before) change each state.threads t within.threads)
