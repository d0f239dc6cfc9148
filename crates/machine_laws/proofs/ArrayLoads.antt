-- Array loads and stores, `arraylength` and `newarray` are right.
use Rattle.std.proofs.Common.{◌≡◌, ℕ, ℤ, pos, int_le, unsigned_abs, List, [], ◌∷◌, Option, Some, None, Bool, true, false, refl, ap, sym, subst, ◌∙◌, if◌then◌else◌, slice_get, codes, inl, inr}
use Rattle.std.specs.Prelude.{IsTrue}
use Rattle.std.specs.List.{list_all}
use Rattle.std.proofs.lemmas.Bool.{and_parts, or_cases}
use Rattle.jv_model.specs.Descriptors.{FieldType, byte_type, char_type, int_type as int_field, long_type as long_field, short_type, boolean_type, class_type, array_of}
use Rattle.jv_model.specs.Flow.{goes_on as flow_goes_on}
use Rattle.jv_model.specs.Instruction.{ElementKind, ints, longs, references, bytes, chars, shorts}
use Rattle.world_model.specs.World.{World}
use Rattle.world_model.specs.BootNames.{java_object}
use Rattle.typing_model.specs.VerificationType.{VerificationType, int as int_type, null as null_type, array as array_type, is_int, is_same, is_same_field_type, type_of}
use Rattle.typing_model.specs.Assignable.{assignable, component_assignable}
use Rattle.typing_model.specs.ArrayTypes.{is_array_of, element_type as loaded_type, array_loaded, is_any_array}
use Rattle.typing_model.specs.Environment.{Environment}
use Rattle.typing_model.specs.Transition.{to, below, pushed, changed, operand_at}
use Rattle.machine_model.specs.Value.{Value, int, long, null, reference, is_of_kind}
use Rattle.machine_model.specs.Heap.{Contents, instance, array, string, contents_at}
use Rattle.machine_model.specs.ObjectTypes.{own_type}
use Rattle.machine_model.specs.State.{State}
use Rattle.machine_model.specs.Deed.{Running}
use Rattle.machine_model.specs.ArraySteps.{kind_of_elements, element_at, loads_element, load_element}
use Rattle.machine_model.specs.TypedValues.{HeapTyping, heap_typing, may_stand, stands_for, is_of_type, are_of_types, holds}
use Rattle.machine_model.specs.Conforms.{contents_conform}
use Rattle.frame_laws.proofs.Outcome.{some_inj, changed_is, bind_is, all_of}
use Rattle.frame_laws.proofs.Verified.{some_and_is}
use Rattle.frame_laws.proofs.Growing.{passes_too}
use Rattle.frame_laws.proofs.Ordered.{has_orders}
use Rattle.machine_laws.specs.Runnable.{is_operand}
use Rattle.machine_laws.proofs.TypedStates.{IsTypedDeed}
use Rattle.machine_laws.proofs.Heaps.{typed_is}
use Rattle.machine_laws.proofs.Ready.{Ready, throws_rightly, operands_fit}
use Rattle.machine_laws.proofs.Operands.{lands, when_test, stands_through}
use Rattle.machine_laws.proofs.Numbers.{gives_rightly}

-- ---- arrays in use

-- An array in use: its contents, and the type of its elements, which it holds.
pub record ArrayThere (state : State) (heap : HeapTyping) (id : ℕ) (component : FieldType) : Type 0 where
  pub type : FieldType
  pub elements : List Value
  pub there : contents_at state.heap id ≡ Some (array type elements)
  pub hold : list_all (holds heap type) elements ≡ true
  pub stands : may_stand heap.world type component ≡ true

-- what may stand for an array is one
array_own : (world : World) (own component : FieldType) → may_stand world own (array_of component) ≡ true
    → (type : FieldType) × (own ≡ array_of type) × (may_stand world type component ≡ true)
unfolding may_stand is_same_field_type
array_own world (array_of type) component h = (type, refl, h)
array_own world own component h = absurd cc

-- equal types of arrays have equal components
component_same : (a b : FieldType) → array_of a ≡ array_of b → a ≡ b
component_same a b h = ap (component_or a) h
  where
    component_or : FieldType → FieldType → FieldType
    component_or a (array_of c) = c
    component_or a other = a

module _ (r : Running) (live : ℕ → Bool) (ready : Ready r live) where
  abbrev heap : HeapTyping
  heap = heap_typing r.state live

  -- an object that stands for an array is an array in use
  pub array_there : (id : ℕ) (component : FieldType) → stands_for heap id (array_of component) ≡ true
      → ArrayThere r.state heap id component
  array_there id component h =
      let own = some_and_is (λ own. may_stand r.state.world own (array_of component)) (heap.type_at id) h in
      let is = typed_is r.state live id own.0 own.1 in
      let array = array_own r.state.world own.0 component own.2 in
      of is.1 array.0 is.2 (is.3 ∙ array.1) array.2 (ready.conforms.shared.objects id is.1 is.0 is.2)
    where
      of : (contents : Contents) (type : FieldType) → contents_at r.state.heap id ≡ Some contents
          → own_type contents ≡ array_of type → may_stand r.state.world type component ≡ true
          → IsTrue (contents_conform heap contents) → ArrayThere r.state heap id component
      of (instance name values) type at own stands conforms = absurd cc
      of (string units) type at own stands conforms = absurd cc
      of (array own elements) type at same stands conforms = record {
        type = own;
        elements = elements;
        there = at;
        hold = conforms;
        stands = subst (λ (t : FieldType). may_stand r.state.world t component ≡ true) (sym (component_same own type same)) stands;
      }

-- ---- kinds of arrays

-- the types of elements that an instruction of a kind may find
abbrev pub fits_kind : ElementKind → FieldType → Bool
fits_kind ints int_field = true
fits_kind longs long_field = true
fits_kind references (class_type name) = true
fits_kind references (array_of component) = true
fits_kind bytes byte_type = true
fits_kind bytes boolean_type = true
fits_kind chars char_type = true
fits_kind shorts short_type = true
fits_kind kind type = false

-- a held value is of the kind of the instruction
held_of_kind : (heap : HeapTyping) (kind : ElementKind) (type : FieldType) (value : Value) → fits_kind kind type ≡ true
    → holds heap type value ≡ true → is_of_kind (kind_of_elements kind) value ≡ true
held_of_kind heap ints int_field (int n) fits h = refl
held_of_kind heap longs long_field (long n) fits h = refl
held_of_kind heap references (class_type name) null fits h = refl
held_of_kind heap references (class_type name) (reference id) fits h = refl
held_of_kind heap references (array_of component) null fits h = refl
held_of_kind heap references (array_of component) (reference id) fits h = refl
held_of_kind heap bytes byte_type (int n) fits h = refl
held_of_kind heap bytes boolean_type (int n) fits h = refl
held_of_kind heap chars char_type (int n) fits h = refl
held_of_kind heap shorts short_type (int n) fits h = refl
held_of_kind heap kind type value fits h = absurd cc

-- what an instruction of a kind takes is an array or null
pub any_array : (e : Environment) (kind : ElementKind) (t : VerificationType) → is_array_of e kind t ≡ true
    → is_any_array t ≡ true
unfolding assignable is_same
any_array e kind null_type h = refl
any_array e kind (array_type c) h = refl
any_array e ints t h = absurd cc
any_array e longs t h = absurd cc
any_array e references t h = absurd cc
any_array e bytes t h = absurd cc
any_array e chars t h = absurd cc
any_array e shorts t h = absurd cc

-- whatever may stand for its components fits the kind
abbrev pub FitsAll : World → ElementKind → FieldType → Type 0
FitsAll world kind component = (t : FieldType) → may_stand world t component ≡ true → fits_kind kind t ≡ true

-- components that aren't references stand only for themselves
fits_ints : (world : World) (c : FieldType) → component_assignable world c int_field ≡ true → FitsAll world ints c
unfolding component_assignable may_stand is_same_field_type
fits_ints world int_field h int_field k = refl
fits_ints world int_field h t k = absurd cc
fits_ints world c h t k = absurd cc

fits_longs : (world : World) (c : FieldType) → component_assignable world c long_field ≡ true → FitsAll world longs c
unfolding component_assignable may_stand is_same_field_type
fits_longs world long_field h long_field k = refl
fits_longs world long_field h t k = absurd cc
fits_longs world c h t k = absurd cc

fits_chars : (world : World) (c : FieldType) → component_assignable world c char_type ≡ true → FitsAll world chars c
unfolding component_assignable may_stand is_same_field_type
fits_chars world char_type h char_type k = refl
fits_chars world char_type h t k = absurd cc
fits_chars world c h t k = absurd cc

fits_shorts : (world : World) (c : FieldType) → component_assignable world c short_type ≡ true → FitsAll world shorts c
unfolding component_assignable may_stand is_same_field_type
fits_shorts world short_type h short_type k = refl
fits_shorts world short_type h t k = absurd cc
fits_shorts world c h t k = absurd cc

fits_bytes : (world : World) (c : FieldType) → component_assignable world c byte_type ≡ true → FitsAll world bytes c
unfolding component_assignable may_stand is_same_field_type
fits_bytes world byte_type h byte_type k = refl
fits_bytes world byte_type h t k = absurd cc
fits_bytes world c h t k = absurd cc

fits_booleans : (world : World) (c : FieldType) → component_assignable world c boolean_type ≡ true → FitsAll world bytes c
unfolding component_assignable may_stand is_same_field_type
fits_booleans world boolean_type h boolean_type k = refl
fits_booleans world boolean_type h t k = absurd cc
fits_booleans world c h t k = absurd cc

fits_references : (world : World) (c : FieldType) → component_assignable world c (class_type java_object) ≡ true
    → FitsAll world references c
unfolding component_assignable may_stand is_same_field_type
fits_references world (class_type c) h (class_type t) k = refl
fits_references world (class_type c) h (array_of t) k = refl
fits_references world (class_type c) h t k = absurd cc
fits_references world (array_of c) h (array_of t) k = refl
fits_references world (array_of c) h t k = absurd cc
fits_references world c h t k = absurd cc

pub kinded : (e : Environment) (kind : ElementKind) (c : FieldType) → is_array_of e kind (array_type c) ≡ true
    → FitsAll e.world kind c
unfolding assignable
kinded e ints c h = fits_ints e.world c h
kinded e longs c h = fits_longs e.world c h
kinded e references c h = fits_references e.world c h
kinded e chars c h = fits_chars e.world c h
kinded e shorts c h = fits_shorts e.world c h
kinded e bytes c h = elim (or_cases (component_assignable e.world c byte_type) (component_assignable e.world c boolean_type) h) [
  | inl k ↦ fits_bytes e.world c k
  | inr k ↦ fits_booleans e.world c k
]

-- what is loaded of an array with such elements is of the type that typing finds
loaded_of_type : (heap : HeapTyping) (e : Environment) (kind : ElementKind) (component type : FieldType) (value : Value)
    → fits_kind kind type ≡ true
    → ((id : ℕ) → stands_for heap id type ≡ true → stands_for heap id component ≡ true) → FitsAll heap.world kind component
    → may_stand heap.world type component ≡ true
    → holds heap type value ≡ true → is_of_type heap e (loaded_type kind (array_type component)) value ≡ true
unfolding is_of_type type_of may_stand is_same_field_type
loaded_of_type heap e ints component int_field (int n) fits through all stands h = refl
loaded_of_type heap e longs component long_field (long n) fits through all stands h = refl
loaded_of_type heap e bytes component byte_type (int n) fits through all stands h = refl
loaded_of_type heap e bytes component boolean_type (int n) fits through all stands h = refl
loaded_of_type heap e chars component char_type (int n) fits through all stands h = refl
loaded_of_type heap e shorts component short_type (int n) fits through all stands h = refl
loaded_of_type heap e references (class_type c) (class_type t) null fits through all stands h = refl
loaded_of_type heap e references (class_type c) (class_type t) (reference id) fits through all stands h = through id h
loaded_of_type heap e references (class_type c) (array_of t) null fits through all stands h = refl
loaded_of_type heap e references (class_type c) (array_of t) (reference id) fits through all stands h = through id h
loaded_of_type heap e references (array_of c) (array_of t) null fits through all stands h = refl
loaded_of_type heap e references (array_of c) (array_of t) (reference id) fits through all stands h = through id h
loaded_of_type heap e references component (class_type t) value fits through all stands h = absurd cc
loaded_of_type heap e references component (array_of t) value fits through all stands h = absurd cc
loaded_of_type heap e kind component type value fits through all stands h = absurd cc

-- ---- loads

-- What lies on the operands before a load: an index, and null or an array.
pub record LoadShape (heap : HeapTyping) (e : Environment) (kind : ElementKind) (stack rest : List VerificationType)
    (values : List Value) : Type 0 where
  pub index : ℤ
  pub value : Value
  pub others : List Value
  pub type : VerificationType
  pub is : values ≡ int index ∷ value ∷ others
  pub second : slice_get stack 1 ≡ Some type
  pub array : is_array_of e kind type ≡ true
  pub of : is_of_type heap e type value ≡ true
  pub fit : are_of_types heap e rest others ≡ true

pub load_shape : (heap : HeapTyping) (e : Environment) (kind : ElementKind) (stack rest : List VerificationType) (values : List Value)
    → below (is_int ∷ is_array_of e kind ∷ []) stack ≡ Some rest → are_of_types heap e stack values ≡ true
    → LoadShape heap e kind stack rest values
unfolding below are_of_types is_of_type
load_shape heap e kind (int_type ∷ null_type ∷ types) rest (int n ∷ value ∷ values) b f =
    let w = when_test (is_array_of e kind null_type) (Some types) rest b in
    let p = and_parts (is_of_type heap e null_type value) (are_of_types heap e types values) f in
    record {
      index = n;
      value = value;
      others = values;
      type = null_type;
      is = refl;
      second = refl;
      array = w.0;
      of = p.0;
      fit = subst (λ (ts : List VerificationType). are_of_types heap e ts values ≡ true) (some_inj w.1) p.1;
    }
load_shape heap e kind (int_type ∷ array_type c ∷ types) rest (int n ∷ value ∷ values) b f =
    let w = when_test (is_array_of e kind (array_type c)) (Some types) rest b in
    let p = and_parts (is_of_type heap e (array_type c) value) (are_of_types heap e types values) f in
    record {
      index = n;
      value = value;
      others = values;
      type = array_type c;
      is = refl;
      second = refl;
      array = w.0;
      of = p.0;
      fit = subst (λ (ts : List VerificationType). are_of_types heap e ts values ≡ true) (some_inj w.1) p.1;
    }
load_shape heap e kind (int_type ∷ t ∷ types) rest values b f =
    absurd (let w = when_test (is_array_of e kind t) (Some types) rest b in let any = any_array e kind t w.0 in cc)
load_shape heap e kind stack rest values b f = absurd cc

-- what is loaded isn't Top
loaded_operand : (e : Environment) (kind : ElementKind) (c : FieldType) → is_array_of e kind (array_type c) ≡ true
    → is_operand (loaded_type kind (array_type c)) ≡ true
unfolding assignable component_assignable is_same_field_type type_of
loaded_operand e ints c h = refl
loaded_operand e longs c h = refl
loaded_operand e bytes c h = refl
loaded_operand e chars c h = refl
loaded_operand e shorts c h = refl
loaded_operand e references (class_type c) h = refl
loaded_operand e references (array_of c) h = refl
loaded_operand e references c h = absurd cc

-- an element at an index is held by the array
element_held : (test : Value → Bool) (elements : List Value) (index : ℤ) (value : Value) → list_all test elements ≡ true
    → element_at elements index ≡ Some value → test value ≡ true
element_held test elements index value all at = go (int_le (pos 0) index) at
  where
    go : (b : Bool) → (if b then slice_get elements (unsigned_abs index) else None) ≡ Some value → test value ≡ true
    go false at = absurd cc
    go true at = all_of test elements (unsigned_abs index) value all at

module _ (r : Running) (live : ℕ → Bool) (ready : Ready r live) (on : flow_goes_on ready.at.placed.instruction ≡ true) where
  -- what is loaded of an array
  loads_rightly : (kind : ElementKind) (component : FieldType) (rest : List VerificationType) (others : List Value) (index : ℤ)
      (id : ℕ) → is_array_of ready.e kind (array_type component) ≡ true
      → stands_for (heap_typing r.state live) id (array_of component) ≡ true
      → pushed ready.e (loaded_type kind (array_type component) ∷ []) (record ready.before { stack = rest }) ≡ Some ready.at.applies.after
      → are_of_types (heap_typing r.state live) ready.e rest others ≡ true
      → IsTypedDeed r.state.world (load_element r kind (int index ∷ reference id ∷ others))
  unfolding below
  loads_rightly kind component rest others index id taken stands h f =
      let a = array_there r live ready id component stands in
      rw a.there (of a (element_at a.elements index) refl)
    where
      all : FitsAll r.state.world kind component
      all = subst (λ (w : World). FitsAll w kind component) ready.typed.same_world (kinded ready.e kind component taken)

      of : (a : ArrayThere r.state (heap_typing r.state live) id component) (o : Option Value) → element_at a.elements index ≡ o
          → IsTypedDeed r.state.world (loads_element r kind others o)
      of a None at = throws_rightly r live ready (codes "java/lang/ArrayIndexOutOfBoundsException") false refl
      of a (Some value) at =
          let fits = all a.type a.stands in
          let held = element_held (holds (heap_typing r.state live) a.type) a.elements index value a.hold at in
          let typed = loaded_of_type (heap_typing r.state live) ready.e kind component a.type value fits (λ u k. stands_up a.type component u k a.stands) all a.stands held in
          rw (held_of_kind (heap_typing r.state live) kind a.type value fits held)
          (gives_rightly r live ready on (loaded_type kind (array_type component)) rest rest value others h refl f
          (lands (heap_typing r.state live) ready.e (loaded_type kind (array_type component)) value (loaded_operand ready.e kind component taken) typed))
        where
          stands_up : (from to : FieldType) (u : ℕ) → stands_for (heap_typing r.state live) u from ≡ true → may_stand r.state.world from to ≡ true
              → stands_for (heap_typing r.state live) u to ≡ true
          stands_up from to u k up =
              passes_too (λ own. may_stand r.state.world own from) (λ own. may_stand r.state.world own to)
              (λ own j. stands_through r.state.world (has_orders r.state.world ready.runnable.verified.orderly) own from to j up) ((heap_typing r.state live).type_at u) k

  -- what is loaded of null or of an array
  loads_of : (kind : ElementKind) (rest : List VerificationType) (others : List Value) (index : ℤ) (type : VerificationType)
      (value : Value) → is_array_of ready.e kind type ≡ true → is_of_type (heap_typing r.state live) ready.e type value ≡ true
      → pushed ready.e (loaded_type kind type ∷ []) (record ready.before { stack = rest }) ≡ Some ready.at.applies.after
      → are_of_types (heap_typing r.state live) ready.e rest others ≡ true
      → IsTypedDeed r.state.world (load_element r kind (int index ∷ value ∷ others))
  unfolding is_of_type
  loads_of kind rest others index type null taken of h f =
      throws_rightly r live ready (codes "java/lang/NullPointerException") false refl
  loads_of kind rest others index (array_type component) (reference id) taken of h f =
      loads_rightly kind component rest others index id taken of h f
  loads_of kind rest others index null_type value taken of h f = absurd cc
  loads_of kind rest others index (array_type component) value taken of h f = absurd cc
  loads_of kind rest others index type value taken of h f = absurd (let any = any_array ready.e kind type taken in cc)

  -- array loads are right
  pub load_element_is_right : (kind : ElementKind) → array_loaded ready.e kind ready.before ≡ Some ready.at.applies.after
      → IsTypedDeed r.state.world (load_element r kind r.frame.stack)
  load_element_is_right kind h =
      let b = bind_is (λ (t : VerificationType). changed ready.e (is_int ∷ is_array_of ready.e kind ∷ []) (loaded_type kind t ∷ []) ready.before) (operand_at 1 ready.before) ready.at.applies.after h in
      let c = changed_is ready.e (is_int ∷ is_array_of ready.e kind ∷ []) (loaded_type kind b.0 ∷ []) ready.before ready.at.applies.after b.2 in
      let s = load_shape (heap_typing r.state live) ready.e kind ready.before.stack c.0 r.frame.stack c.1 (operands_fit r live ready) in
      subst (λ (vs : List Value). IsTypedDeed r.state.world (load_element r kind vs)) (sym s.is)
      (loads_of kind c.0 s.others s.index s.type s.value s.array s.of (subst (λ (t : VerificationType). pushed ready.e (loaded_type kind t ∷ []) (record ready.before { stack = c.0 }) ≡ Some ready.at.applies.after) (some_inj (sym b.1 ∙ s.second)) c.2) s.fit)
