-- The first state with the array of main's arguments conforms, and what it reaches is that array.
use Rattle.std.proofs.Common.{◌≡◌, ℕ, zero, suc, List, [], ◌∷◌, ◌++◌, Option, Some, None, Bool, true, false, cond, refl, ap, sym, ◌∙◌, map, filter, sum}
use Rattle.std.specs.Prelude.{IsTrue, ◌==◌, flat_map}
use Rattle.std.specs.Bool.{beq}
use Rattle.std.specs.List.{list_all, IsDistinct}
use Rattle.std.proofs.lemmas.Bool.{and_parts, eqb-true}
use Rattle.jv_model.specs.Partial.{passes}
use Rattle.jv_model.specs.Descriptors.{FieldType, class_type, array_of}
use Rattle.jv_model.specs.Operand.{MemberReference}
use Rattle.world_model.specs.World.{World, Class, Field, is_static_field}
use Rattle.world_model.specs.Members.{field_of}
use Rattle.world_model.specs.Layout.{declared}
use Rattle.code_model.specs.TypeReading.{field_type_of}
use Rattle.machine_model.specs.Value.{Value, int, long, half, null, reference, id_in}
use Rattle.machine_model.specs.Heap.{Contents, free, with_object, contents_at}
use Rattle.machine_model.specs.State.{Thread, Static, ClassMonitor, State}
use Rattle.machine_model.specs.Reach.{unseen, reached_within, reach_words, words_at, roots, children_in, reachable, reach_order}
use Rattle.machine_model.specs.Start.{first_value, first_statics, no_arguments, first_state}
use Rattle.machine_model.specs.WellKept.{owned_rightly}
use Rattle.machine_model.specs.TypedValues.{HeapTyping, heap_typing, holds, is_declared}
use Rattle.machine_model.specs.Conforms.{contents_conform, ConformsWith}
use Rattle.frame_laws.proofs.Outcome.{both, some_inj}
use Rattle.frame_laws.proofs.Growing.{declared_kept}
use Rattle.state_laws.proofs.Going.{Mid}
use Rattle.start_laws.specs.Startable.{nothing_in_use, starts_declared}

-- ---- static fields

-- a value that is declared where nothing is in use names no object
names_none : (world : World) (descriptor : List ℕ) (value : Value) → is_declared (nothing_in_use world) descriptor value ≡ true
    → id_in value ≡ []
names_none world descriptor (int n) h = refl
names_none world descriptor (long n) h = refl
names_none world descriptor half h = refl
names_none world descriptor null h = refl
names_none world descriptor (reference id) h = go (field_type_of descriptor) h
  where
    held : (type : FieldType) → holds (nothing_in_use world) type (reference id) ≡ true → id ∷ [] ≡ []
    held (class_type name) h = absurd cc
    held (array_of c) h = absurd cc
    held type h = absurd cc

    go : (o : Option FieldType) → passes (λ type. holds (nothing_in_use world) type (reference id)) o ≡ true → id ∷ [] ≡ []
    go None h = absurd cc
    go (Some type) h = held type h

abbrev is_right : World → Static → Bool
is_right world s = is_declared (nothing_in_use world) s.field.descriptor s.value

all_append : {A : Type 0} (test : A → Bool) (xs ys : List A) → list_all test xs ≡ true → list_all test ys ≡ true
    → list_all test (xs ++ ys) ≡ true
all_append test [] ys h k = k
all_append test (x ∷ xs) ys h k =
    let p = and_parts (test x) (list_all test xs) h in
    both (test x) (list_all test (xs ++ ys)) p.0 (all_append test xs ys p.1 k)

of_class : (world : World) (c : Class) (fields : List Field) → list_all (starts_declared world) fields ≡ true
    → list_all (is_right world) (map (λ (f : Field). record { field = field_of c f; value = first_value f f.constant }) fields) ≡ true
of_class world c [] h = refl
of_class world c (f ∷ fields) h =
    let p = and_parts (starts_declared world f) (list_all (starts_declared world) fields) h in
    both (starts_declared world f) (list_all (is_right world) (map (λ (f : Field). record { field = field_of c f; value = first_value f f.constant }) fields)) p.0 (of_class world c fields p.1)

pub statics_right : (world : World) (classes : List Class)
    → list_all (λ (c : Class). list_all (starts_declared world) (filter is_static_field c.fields)) classes ≡ true
    → list_all (is_right world) (flat_map first_statics classes) ≡ true
statics_right world [] h = refl
statics_right world (c ∷ classes) h =
    let p = and_parts (list_all (starts_declared world) (filter is_static_field c.fields)) (list_all (λ (c : Class). list_all (starts_declared world) (filter is_static_field c.fields)) classes) h in
    all_append (is_right world) (first_statics c) (flat_map first_statics classes) (of_class world c (filter is_static_field c.fields) p.0) (statics_right world classes p.1)

no_ids : (world : World) (statics : List Static) → list_all (is_right world) statics ≡ true
    → flat_map (λ (s : Static). id_in s.value) statics ≡ []
no_ids world [] h = refl
no_ids world (s ∷ statics) h =
    let p = and_parts (is_right world s) (list_all (is_right world) statics) h in
    ap (λ (ids : List ℕ). ids ++ flat_map (λ (s : Static). id_in s.value) statics) (names_none world s.field.descriptor s.value p.0) ∙ no_ids world statics p.1

-- the fields are those that classes declare
same_fields : (c : Class) (fields : List Field)
    → map (λ (s : Static). s.field) (map (λ (f : Field). record { field = field_of c f; value = first_value f f.constant }) (filter is_static_field fields))
    ≡ map (field_of c) (filter (λ f. beq (is_static_field f) true) fields)
same_fields c [] = refl
same_fields c (f ∷ fields) = go (is_static_field f) (same_fields c fields)
  where
    go : (b : Bool) → map (λ (s : Static). s.field) (map (λ (f : Field). record { field = field_of c f; value = first_value f f.constant }) (filter is_static_field fields))
        ≡ map (field_of c) (filter (λ f. beq (is_static_field f) true) fields)
        → map (λ (s : Static). s.field) (map (λ (f : Field). record { field = field_of c f; value = first_value f f.constant }) (cond b (f ∷ filter is_static_field fields) (filter is_static_field fields)))
        ≡ map (field_of c) (cond (beq b true) (f ∷ filter (λ f. beq (is_static_field f) true) fields) (filter (λ f. beq (is_static_field f) true) fields))
    go true rest = ap (λ (ms : List MemberReference). field_of c f ∷ ms) rest
    go false rest = rest

map_append : {A B : Type 0} (f : A → B) (xs ys : List A) → map f (xs ++ ys) ≡ map f xs ++ map f ys
map_append f [] ys = refl
map_append f (x ∷ xs) ys = ap (λ (zs : List _). f x ∷ zs) (map_append f xs ys)

fields_are : (classes : List Class) → map (λ (s : Static). s.field) (flat_map first_statics classes) ≡ flat_map (declared true) classes
fields_are [] = refl
fields_are (c ∷ classes) =
    map_append (λ (s : Static). s.field) (first_statics c) (flat_map first_statics classes)
    ∙ (ap (λ (ms : List MemberReference). ms ++ map (λ (s : Static). s.field) (flat_map first_statics classes)) (same_fields c c.fields)
    ∙ ap (λ (ms : List MemberReference). declared true c ++ ms) (fields_are classes))

monitors_are : (classes : List Class) → map (λ (m : ClassMonitor). m.class) (map (λ (c : Class). record { class = c.name; monitor = free }) classes) ≡ map (λ (c : Class). c.name) classes
monitors_are [] = refl
monitors_are (c ∷ classes) = ap (λ (ns : List (List ℕ)). c.name ∷ ns) (monitors_are classes)

monitors_free : (classes : List Class) → list_all (λ (m : ClassMonitor). owned_rightly 1 m.monitor) (map (λ (c : Class). record { class = c.name; monitor = free }) classes) ≡ true
monitors_free [] = refl
monitors_free (c ∷ classes) = monitors_free classes

-- ---- the state with the array of arguments

abbrev pub first_thread : Thread
first_thread = record { frames = []; to_start = []; mark = true; thrown = None }

abbrev pub with_arguments : World → State
with_arguments world = record (first_state world) { heap = with_object no_arguments [] }

-- A state on the way to the start: it conforms, with the first thread as it was.
pub record Begun (world : World) (state : State) : Type 0 where
  pub live : ℕ → Bool
  pub is : ConformsWith state live
  pub mid : Mid world 0 first_thread state

module _ (world : World) (statics : list_all (λ (c : Class). list_all (starts_declared world) (filter is_static_field c.fields)) world.classes ≡ true) where
  abbrev first_live : ℕ → Bool
  first_live id = id == 0

  abbrev typing : HeapTyping
  typing = heap_typing (with_arguments world) first_live

  all_declared : (fields : List Static) → list_all (is_right world) fields ≡ true
      → list_all (λ (s : Static). is_declared typing s.field.descriptor s.value) fields ≡ true
  all_declared [] h = refl
  all_declared (s ∷ fields) h =
      let p = and_parts (is_right world s) (list_all (is_right world) fields) h in
      both (is_declared typing s.field.descriptor s.value) (list_all (λ (s : Static). is_declared typing s.field.descriptor s.value) fields)
      (declared_kept world (λ id. None) typing.type_at (λ id type h. absurd cc) s.field.descriptor s.value p.0) (all_declared fields p.1)

  only_array : (id : ℕ) (contents : Contents) → IsTrue (first_live id) → contents_at (with_object no_arguments []) id ≡ Some contents
      → contents_conform typing contents ≡ true
  only_array zero contents l at = ap (contents_conform typing) (sym (some_inj at))
  only_array (suc id) contents l at = absurd (let zero_is = eqb-true (suc id) 0 l in cc)

  pub arguments_begun : Begun world (with_arguments world)
  unfolding IsDistinct
  arguments_begun = record {
    live = first_live;
    is = record {
      threads = refl;
      shared = record {
        statics = all_declared (flat_map first_statics world.classes) (statics_right world world.classes statics);
        static_fields = fields_are world.classes;
        class_monitors = monitors_are world.classes;
        literals = refl;
        arguments = refl;
        objects = only_array;
      };
    };
    mid = record {
      kept = record {
        threads = refl;
        frames = refl;
        output = refl;
        ended = refl;
        object_monitors = refl;
        class_monitors = monitors_free world.classes;
        literals = tt;
      };
      same_world = refl;
      at = refl;
    };
  }

  -- ---- room

  no_words : (ids : List ℕ) → sum (map (words_at []) ids) ≡ 0
  no_words [] = refl
  no_words (id ∷ ids) = no_words ids

  pub none_reached : reach_words (first_state world) ≡ 0
  none_reached = no_words (reachable (first_state world))

  roots_are : roots (with_arguments world) ≡ 0 ∷ []
  roots_are = ap (λ (ids : List ℕ). 0 ∷ (ids ++ [])) (no_ids world (flat_map first_statics world.classes) (statics_right world world.classes statics))

  pub array_reached : reach_words (with_arguments world) ≡ 4
  unfolding unseen reached_within
  array_reached = ap (λ (ids : List ℕ). sum (map (words_at (with_object no_arguments [])) (reach_order 1 (children_in (with_object no_arguments [])) ids))) roots_are
