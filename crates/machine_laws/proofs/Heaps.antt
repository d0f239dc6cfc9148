-- What changes of the heap leave conforming: a further object, other contents of one, a monitor that is entered or left.
use Rattle.std.proofs.Common.{◌≡◌, ℕ, zero, suc, List, [], ◌∷◌, ◌++◌, Option, Some, None, Bool, true, false, refl, ap, sym, subst, ◌&&◌, ◌||◌, ◌==◌, slice_get, length, if◌then◌else◌, option_map, map, inl, inr, arith, ◌∙◌}
use Rattle.std.specs.Prelude.{◌⊎◌, IsTrue, not, bytes_eq}
use Rattle.std.proofs.lemmas.Bool.{and_parts, or_left, or_right, or_cases, eqb-true, eq-eqb}
use Rattle.std.proofs.lemmas.Option.{slice_get_within}
use Rattle.jv_model.specs.Partial.{passes}
use Rattle.jv_model.specs.Descriptors.{FieldType}
use Rattle.jv_model.specs.Operand.{MemberReference}
use Rattle.world_model.specs.World.{World}
use Rattle.world_model.specs.BootNames.{java_string}
use Rattle.world_model.specs.Layout.{layout}
use Rattle.machine_model.specs.Heap.{Contents, instance, array, string, Object, free, Monitor, Heap, contents_at, with_object, with_contents, with_monitor}
use Rattle.machine_model.specs.ObjectTypes.{own_type}
use Rattle.machine_model.specs.State.{Static, ClassMonitor, Interned, State, with_class_monitor}
use Rattle.machine_model.specs.Monitors.{change_monitor}
use Rattle.machine_model.specs.TypedValues.{heap_typing, is_in_use, holds, is_declared}
use Rattle.machine_model.specs.Conforms.{is_present, contents_conform, is_string, literal_conforms, SharedConforms}
use Rattle.run_laws.proofs.Keeping.{slice_get-replace_at, slice_get-replace_same}
use Rattle.frame_laws.proofs.Outcome.{some_inj, both, map_is}
use Rattle.frame_laws.proofs.Growing.{all_pass, pairs_pass, in_use_kept, holds_kept, declared_kept}

-- ---- lists with one element more

get_kept : {A : Type 0} (xs ys : List A) (n : ℕ) (x : A) → slice_get xs n ≡ Some x → slice_get (xs ++ ys) n ≡ Some x
get_kept [] ys n x h = absurd cc
get_kept (z ∷ xs) ys zero x h = h
get_kept (z ∷ xs) ys (suc n) x h = get_kept xs ys n x h

get_last : {A : Type 0} (xs : List A) (x : A) → slice_get (xs ++ x ∷ []) (length xs) ≡ Some x
get_last [] x = refl
get_last (z ∷ xs) x = get_last xs x

-- an element of the longer list is one of the shorter, or the last
get_either : {A : Type 0} (xs : List A) (x y : A) (n : ℕ) → slice_get (xs ++ x ∷ []) n ≡ Some y
    → (slice_get xs n ≡ Some y) ⊎ ((n ≡ length xs) × (x ≡ y))
get_either [] x y zero h = inr (refl, some_inj h)
get_either [] x y (suc n) h = absurd cc
get_either (z ∷ xs) x y zero h = inl h
get_either (z ∷ xs) x y (suc n) h = up (get_either xs x y n h)
  where
    up : (slice_get xs n ≡ Some y) ⊎ ((n ≡ length xs) × (x ≡ y))
        → (slice_get xs n ≡ Some y) ⊎ ((suc n ≡ suc (length xs)) × (x ≡ y))
    up (inl h) = inl h
    up (inr (at, same)) = inr (ap suc at, same)

-- ---- types of objects

-- what it takes for an object in use to have a type
pub typed_is : (state : State) (live : ℕ → Bool) (id : ℕ) (type : FieldType)
    → (heap_typing state live).type_at id ≡ Some type
    → (live id ≡ true) × (contents : Contents) × (contents_at state.heap id ≡ Some contents) × (own_type contents ≡ type)
typed_is state live id type h = go (live id) refl (contents_at state.heap id) refl h
  where
    go : (b : Bool) → live id ≡ b → (o : Option Contents) → contents_at state.heap id ≡ o
        → (if b then option_map own_type o else None) ≡ Some type
        → (live id ≡ true) × (contents : Contents) × (contents_at state.heap id ≡ Some contents) × (own_type contents ≡ type)
    go false l o c h = absurd cc
    go true l None c h = absurd cc
    go true l (Some contents) c h = (l, contents, c, some_inj h)

pub typed_by : (state : State) (live : ℕ → Bool) (id : ℕ) (contents : Contents) (type : FieldType) → live id ≡ true
    → contents_at state.heap id ≡ Some contents → own_type contents ≡ type
    → (heap_typing state live).type_at id ≡ Some type
typed_by state live id contents type l at own = rw (l, at) (ap Some own)

-- ---- contents

module _ (world : World) (one other : ℕ → Option FieldType)
    (grows : (id : ℕ) (type : FieldType) → one id ≡ Some type → other id ≡ Some type) where
  -- contents that conform still do where more objects are in use
  pub contents_kept : (contents : Contents) → contents_conform (record { world = world; type_at = one }) contents ≡ true
      → contents_conform (record { world = world; type_at = other }) contents ≡ true
  contents_kept (instance name values) h =
      let p = and_parts (is_present world name && not (bytes_eq name java_string)) _ h in
      both (is_present world name && not (bytes_eq name java_string)) _ p.0
      (pairs_pass (λ (f : MemberReference) value. is_declared (record { world = world; type_at = one }) f.descriptor value) (λ (f : MemberReference) value. is_declared (record { world = world; type_at = other }) f.descriptor value) (λ f value k. declared_kept world one other grows f.descriptor value k) (layout world name) values p.1)
  contents_kept (array type elements) h =
      all_pass (holds (record { world = world; type_at = one }) type) (holds (record { world = world; type_at = other }) type) (λ value j. holds_kept world one other grows type value j) elements h
  contents_kept (string units) h = refl

-- ---- another heap

-- Each object in use keeps its type.
abbrev pub Grows : State → State → (ℕ → Bool) → (ℕ → Bool) → Type 0
Grows before after live more = (id : ℕ) (type : FieldType) → (heap_typing before live).type_at id ≡ Some type
    → (heap_typing after more).type_at id ≡ Some type

module _ (state : State) (live more : ℕ → Bool) (heap : Heap) where
  abbrev with_heap : State
  with_heap = record state { heap = heap }

  -- what threads share conforms on another heap, where types and strings stay, and what is in use conforms
  pub shared_on : SharedConforms state live → Grows state with_heap live more
      → ((id : ℕ) (units : List ℕ) → passes (is_string units) (contents_at state.heap id) ≡ true
      → passes (is_string units) (contents_at heap id) ≡ true)
      → ((id : ℕ) (contents : Contents) → IsTrue (more id) → contents_at heap id ≡ Some contents
      → IsTrue (contents_conform (heap_typing with_heap more) contents))
      → SharedConforms with_heap more
  shared_on shared grows strings objects = record {
    statics = all_pass (λ (s : Static). is_declared (heap_typing state live) s.field.descriptor s.value) (λ (s : Static). is_declared (heap_typing with_heap more) s.field.descriptor s.value)
        (λ s k. declared_kept state.world (heap_typing state live).type_at (heap_typing with_heap more).type_at grows s.field.descriptor s.value k) state.statics shared.statics;
    static_fields = shared.static_fields;
    class_monitors = shared.class_monitors;
    literals = all_pass (literal_conforms state (heap_typing state live)) (literal_conforms with_heap (heap_typing with_heap more)) kept state.interned shared.literals;
    arguments = grows 0 _ shared.arguments;
    objects = objects;
  }
    where
      kept : (row : Interned) → literal_conforms state (heap_typing state live) row ≡ true
          → literal_conforms with_heap (heap_typing with_heap more) row ≡ true
      kept row h =
          let p = and_parts (is_in_use (heap_typing state live) row.id) (passes (is_string row.units) (contents_at state.heap row.id)) h in
          both (is_in_use (heap_typing with_heap more) row.id) (passes (is_string row.units) (contents_at heap row.id))
          (in_use_kept state.world (heap_typing state live).type_at (heap_typing with_heap more).type_at grows row.id p.0) (strings row.id row.units p.1)

-- ---- a further object

-- those in use, and the next one
abbrev pub and_next : State → (ℕ → Bool) → ℕ → Bool
and_next state live id = live id || (id == length state.heap)

module _ (state : State) (live : ℕ → Bool) (contents : Contents) where
  abbrev object : Object
  object = record { contents = contents; monitor = free }

  abbrev pub allocated : State
  allocated = record state { heap = with_object contents state.heap }

  contents_at_kept : (id : ℕ) (old : Contents) → contents_at state.heap id ≡ Some old
      → contents_at (with_object contents state.heap) id ≡ Some old
  contents_at_kept id old h =
      let o = map_is (λ (o : Object). o.contents) (slice_get state.heap id) old h in
      ap (option_map (λ (o : Object). o.contents)) (get_kept state.heap (object ∷ []) id o.0 o.1) ∙ ap Some o.2

  pub new_contents_at : contents_at (with_object contents state.heap) (length state.heap) ≡ Some contents
  new_contents_at = ap (option_map (λ (o : Object). o.contents)) (get_last state.heap object)

  pub allocation_grows : Grows state allocated live (and_next state live)
  allocation_grows id type h =
      let is = typed_is state live id type h in
      typed_by allocated (and_next state live) id is.1 type (or_left (live id) (id == length state.heap) is.0) (contents_at_kept id is.1 is.2) is.3

  pub new_type : (type : FieldType) → own_type contents ≡ type
      → (heap_typing allocated (and_next state live)).type_at (length state.heap) ≡ Some type
  new_type type own =
      typed_by allocated (and_next state live) (length state.heap) contents type (or_right (live (length state.heap)) (length state.heap == length state.heap) (eq-eqb (length state.heap) (length state.heap) refl)) new_contents_at own

  -- an object conforms that was there and is in use, or that is new
  pub allocation_conforms : SharedConforms state live
      → contents_conform (heap_typing allocated (and_next state live)) contents ≡ true
      → SharedConforms allocated (and_next state live)
  allocation_conforms shared conforms = shared_on state live (and_next state live) (with_object contents state.heap) shared allocation_grows
      (λ id units h. string_kept id units (contents_at state.heap id) refl h) each
    where
      string_kept : (id : ℕ) (units : List ℕ) (o : Option Contents) → contents_at state.heap id ≡ o
          → passes (is_string units) o ≡ true → passes (is_string units) (contents_at (with_object contents state.heap) id) ≡ true
      string_kept id units None at h = absurd cc
      string_kept id units (Some old) at h = rw (contents_at_kept id old at) h

      old_one : (id : ℕ) (old : Contents) → (live id ≡ true) ⊎ ((id == length state.heap) ≡ true) → contents_at state.heap id ≡ Some old
          → IsTrue (contents_conform (heap_typing allocated (and_next state live)) old)
      old_one id old (inl l) at =
          contents_kept state.world (heap_typing state live).type_at (heap_typing allocated (and_next state live)).type_at allocation_grows old (shared.objects id old l at)
      old_one id old (inr last) at =
          let o = map_is (λ (o : Object). o.contents) (slice_get state.heap id) old at in
          let low = slice_get_within state.heap id o.0 o.1 in
          let same = eqb-true id (length state.heap) last in
          absurd (omega arith)

      of : (id : ℕ) (old : Contents) (o : Object) → IsTrue (and_next state live id) → o.contents ≡ old
          → (slice_get state.heap id ≡ Some o) ⊎ ((id ≡ length state.heap) × (object ≡ o))
          → IsTrue (contents_conform (heap_typing allocated (and_next state live)) old)
      of id old o l is (inl at) =
          old_one id old (or_cases (live id) (id == length state.heap) l) (ap (option_map (λ (o : Object). o.contents)) at ∙ ap Some is)
      of id old o l is (inr (last, same)) =
          subst (λ (c : Contents). contents_conform (heap_typing allocated (and_next state live)) c ≡ true) (ap (λ (o : Object). o.contents) same ∙ is) conforms

      each : (id : ℕ) (old : Contents) → IsTrue (and_next state live id) → contents_at (with_object contents state.heap) id ≡ Some old
          → IsTrue (contents_conform (heap_typing allocated (and_next state live)) old)
      each id old l at =
          let o = map_is (λ (o : Object). o.contents) (slice_get (with_object contents state.heap) id) old at in
          of id old o.0 l o.2 (get_either state.heap object o.0 id o.1)

-- ---- other contents of an object

module _ (state : State) (live : ℕ → Bool) (id : ℕ) (old contents : Contents) (there : contents_at state.heap id ≡ Some old)
    (same_type : own_type contents ≡ own_type old) where
  abbrev pub rewritten : State
  rewritten = record state { heap = with_contents id contents state.heap }

  -- the object has the new contents, and each other one has its own
  at_changed : contents_at (with_contents id contents state.heap) id ≡ Some contents
  at_changed =
      let o = map_is (λ (o : Object). o.contents) (slice_get state.heap id) old there in
      ap (option_map (λ (o : Object). o.contents)) (slice_get-replace_same (λ (o : Object). record o { contents = contents }) state.heap id)
      ∙ ap (λ (o : Option Object). option_map (λ (o : Object). o.contents) (option_map (λ (o : Object). record o { contents = contents }) o)) o.1

  at_other : (u : ℕ) → (u ≡ id → ⊥) → contents_at (with_contents id contents state.heap) u ≡ contents_at state.heap u
  at_other u other =
      ap (option_map (λ (o : Object). o.contents)) (slice_get-replace_at (λ (o : Object). record o { contents = contents }) state.heap id u other)

  -- what stands at an id afterwards
  data There (u : ℕ) (found : Contents) : Type 0 where
    here : u ≡ id → contents ≡ found → There u found
    elsewhere : (u ≡ id → ⊥) → contents_at state.heap u ≡ Some found → There u found

  there_is : (u : ℕ) (found : Contents) → contents_at (with_contents id contents state.heap) u ≡ Some found → There u found
  there_is u found h = go (u == id) refl
    where
      go : (b : Bool) → (u == id) ≡ b → There u found
      go true is =
          let same = eqb-true u id is in
          here same (some_inj (sym at_changed ∙ (ap (contents_at (with_contents id contents state.heap)) (sym same) ∙ h)))
      go false is =
          let other : u ≡ id → ⊥ = λ same. (let yes = eq-eqb u id same in cc) in
          elsewhere other (sym (at_other u other) ∙ h)

  pub rewriting_grows : Grows state rewritten live live
  rewriting_grows u type h = go (u == id) refl
    where
      is : (live u ≡ true) × (c : Contents) × (contents_at state.heap u ≡ Some c) × (own_type c ≡ type)
      is = typed_is state live u type h

      go : (b : Bool) → (u == id) ≡ b → (heap_typing rewritten live).type_at u ≡ Some type
      go true same =
          let at = eqb-true u id same in
          typed_by rewritten live u contents type is.0 (ap (contents_at (with_contents id contents state.heap)) at ∙ at_changed)
          (same_type ∙ (ap own_type (some_inj (sym there ∙ (ap (contents_at state.heap) (sym at) ∙ is.2))) ∙ is.3))
      go false same =
          typed_by rewritten live u is.1 type is.0 (at_other u (λ at. (let yes = eq-eqb u id at in cc)) ∙ is.2) is.3

  pub rewriting_conforms : SharedConforms state live → ((units : List ℕ) → is_string units old ≡ false)
      → contents_conform (heap_typing rewritten live) contents ≡ true → SharedConforms rewritten live
  rewriting_conforms shared no_string conforms =
      shared_on state live live (with_contents id contents state.heap) shared rewriting_grows strings (λ u found l at. each u found l (there_is u found at))
    where
      strings : (u : ℕ) (units : List ℕ) → passes (is_string units) (contents_at state.heap u) ≡ true
          → passes (is_string units) (contents_at (with_contents id contents state.heap) u) ≡ true
      strings u units h = go (u == id) refl
        where
          go : (b : Bool) → (u == id) ≡ b → passes (is_string units) (contents_at (with_contents id contents state.heap) u) ≡ true
          go true same =
              let is : passes (is_string units) (contents_at state.heap u) ≡ is_string units old = ap (passes (is_string units)) (ap (contents_at state.heap) (eqb-true u id same) ∙ there) in
              absurd (let no = no_string units in let yes = h in cc)
          go false same = ap (passes (is_string units)) (at_other u (λ at. (let yes = eq-eqb u id at in cc))) ∙ h

      each : (u : ℕ) (found : Contents) → IsTrue (live u) → There u found
          → IsTrue (contents_conform (heap_typing rewritten live) found)
      each u found l (here at same) = subst (λ (c : Contents). contents_conform (heap_typing rewritten live) c ≡ true) same conforms
      each u found l (elsewhere other at) =
          contents_kept state.world (heap_typing state live).type_at (heap_typing rewritten live).type_at rewriting_grows found (shared.objects u found l at)

-- ---- monitors

-- a monitor that changes leaves the contents of each object
monitor_leaves : (id : ℕ) (change : Monitor → Monitor) (heap : Heap) (u : ℕ)
    → contents_at (with_monitor id change heap) u ≡ contents_at heap u
monitor_leaves id change [] u = refl
monitor_leaves zero change (o ∷ heap) zero = refl
monitor_leaves zero change (o ∷ heap) (suc u) = refl
monitor_leaves (suc id) change (o ∷ heap) zero = refl
monitor_leaves (suc id) change (o ∷ heap) (suc u) = monitor_leaves id change heap u

-- a class monitor that changes leaves the names of the classes
names_left : (class : List ℕ) (change : Monitor → Monitor) (monitors : List ClassMonitor)
    → map (λ (m : ClassMonitor). m.class) (with_class_monitor class change monitors) ≡ map (λ (m : ClassMonitor). m.class) monitors
names_left class change [] = refl
names_left class change (m ∷ monitors) = go (bytes_eq m.class class) (names_left class change monitors)
  where
    go : (b : Bool) → map (λ (m : ClassMonitor). m.class) (with_class_monitor class change monitors) ≡ map (λ (m : ClassMonitor). m.class) monitors
        → map (λ (m : ClassMonitor). m.class) ((if b then record m { monitor = change m.monitor } else m) ∷ with_class_monitor class change monitors)
        ≡ map (λ (m : ClassMonitor). m.class) (m ∷ monitors)
    go true rest = ap (λ (names : List (List ℕ)). m.class ∷ names) rest
    go false rest = ap (λ (names : List (List ℕ)). m.class ∷ names) rest

pub monitor_grows : (class : List ℕ) (held : Option ℕ) (change : Monitor → Monitor) (state : State) (live : ℕ → Bool)
    → Grows state (change_monitor class held change state) live live
monitor_grows class (Some id) change state live u type h =
    let is = typed_is state live u type h in
    typed_by (change_monitor class (Some id) change state) live u is.1 type is.0 (monitor_leaves id change state.heap u ∙ is.2) is.3
monitor_grows class None change state live u type h = h

pub monitor_conforms : (class : List ℕ) (held : Option ℕ) (change : Monitor → Monitor) (state : State) (live : ℕ → Bool)
    → SharedConforms state live → SharedConforms (change_monitor class held change state) live
monitor_conforms class (Some id) change state live shared =
    shared_on state live live (with_monitor id change state.heap) shared (monitor_grows class (Some id) change state live)
    (λ u units h. ap (passes (is_string units)) (monitor_leaves id change state.heap u) ∙ h)
    (λ u found l at. contents_kept state.world (heap_typing state live).type_at (heap_typing (change_monitor class (Some id) change state) live).type_at (monitor_grows class (Some id) change state live) found
    (shared.objects u found l (sym (monitor_leaves id change state.heap u) ∙ at)))
monitor_conforms class None change state live shared = record {
  statics = shared.statics;
  static_fields = shared.static_fields;
  class_monitors = names_left class change state.class_monitors ∙ shared.class_monitors;
  literals = shared.literals;
  arguments = shared.arguments;
  objects = shared.objects;
}
