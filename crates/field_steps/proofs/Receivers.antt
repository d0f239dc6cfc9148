-- Objects whose fields are read and written.
use Rattle.std.proofs.Common.{◌≡◌, ◌≢◌, ℕ, suc, ◌+◌, ◌^◌, ◌<◌, ◌==◌, ◌&&◌, Bool, true, false, List, [], ◌∷◌, ◌++◌, Option, Some, None, length, slice_get, option_map, option_and_then, is_some, reverse, if◌then◌else◌, refl, ap, sym, subst, ◌∙◌, arith}
use Rattle.std.specs.Prelude.{IsTrue, slice_set, unwrap_or}
use Rattle.std.specs.List.{All, list_all}
use Rattle.std.proofs.lemmas.Bool.{and_parts, eqb-true}
use Rattle.std.proofs.lemmas.List.{reverse-append}
use Rattle.std.proofs.lemmas.List.Elements.{All-head, All-tail}
use Rattle.std.proofs.lemmas.Option.{slice_get_within}
use Rattle.jv_model.specs.Descriptors.{FieldType}
use Rattle.jv_model.specs.Instruction.{ValueKind, of_int, of_long, of_reference}
use Rattle.jv_model.specs.Operand.{MemberReference}
use Rattle.world_model.specs.World.{World, Field}
use Rattle.world_model.specs.LookUp.{Found}
use Rattle.world_model.specs.Layout.{layout, field_place}
use Rattle.machine_model.specs.Value as model
use Rattle.machine_model.specs.Value.{id_in, is_of_kind, taken_of}
use Rattle.machine_model.specs.Heap.{Contents, instance, array, string, Object, contents_at}
use Rattle.machine_model.specs.State.{State}
use Rattle.machine_model.specs.FieldSteps.{field_in, with_field}
use Rattle.jv_values.specs.declared.value.Value.{Value}
use Rattle.jv_values.specs.declared.value.Value.TheVariants.{Int, Long, Half, Null, Ref}
use Rattle.jv_values.specs.Values.{value_of, places_of}
use Rattle.class_world.specs.World.{name_at}
use Rattle.class_members.specs.Members.{cell_of}
use Rattle.class_layouts.specs.Layouts.{field_found}
use Rattle.jv_types.specs.declared.number.ClassNo.{ClassNo}
use Rattle.heap_face.specs.declared.address.Addr.{Addr}
use Rattle.heap_face.specs.declared.layout.Cell.{Cell}
use Rattle.heap_face.specs.declared.layout.Layouts.{Layouts}
use Rattle.heap_face.specs.declared.shape.Kind.{Kind}
use Rattle.heap_face.specs.declared.shape.Kind.TheVariants as kinds
use Rattle.heap_face.specs.Heap.{Stored, Placed, object_at, object_of, IsWellPlaced}
use Rattle.heap_face.specs.Collection.{cells_of}
use Rattle.heap_objects.specs.Ids.{Ids, ids_of, value_by, contents_by}
use Rattle.heap_objects.specs.Objects.{Classes, contents_by_kind, is_shaped}
use Rattle.thread_frames.specs.Frames.{words_of}
use Rattle.look_up_cache.specs.Words.{word_of}
use Rattle.object_fields.specs.Fields.{HasField, cell_of_field}
use Rattle.object_fields.proofs.Objects.{id_is}
use Rattle.machine_parts.specs.Parts.{Machine, StandsFor, classes_of}
use Rattle.machine_parts.proofs.Operands.{IsTaken, tops, is_taken}
use Rattle.field_steps.specs.Receivers.{reference_to}
use Rattle.field_steps.proofs.Places.{cell_at_place}

-- ---- what is taken

pub taken_is_of_kind : (kind : ValueKind) (operands : List model.Value) (taken : model.Taken) → taken_of kind operands ≡ Some taken
    → is_of_kind kind taken.value ≡ true
taken_is_of_kind of_int (model.int n ∷ rest) taken is =
    let same : record { value = model.int n; rest = rest } ≡ taken = cc in ap (λ (t : model.Taken). is_of_kind of_int t.value) (sym same)
taken_is_of_kind of_long (model.half ∷ model.long n ∷ rest) taken is =
    let same : record { value = model.long n; rest = rest } ≡ taken = cc in ap (λ (t : model.Taken). is_of_kind of_long t.value) (sym same)
taken_is_of_kind of_reference (model.null ∷ rest) taken is =
    let same : record { value = model.null; rest = rest } ≡ taken = cc in ap (λ (t : model.Taken). is_of_kind of_reference t.value) (sym same)
taken_is_of_kind of_reference (model.reference id ∷ rest) taken is =
    let same : record { value = model.reference id; rest = rest } ≡ taken = cc in ap (λ (t : model.Taken). is_of_kind of_reference t.value) (sym same)
taken_is_of_kind kind operands taken is = absurd cc

-- a value whose value of the definitions is a reference is one, or null
pub as_reference : (id : ℕ → ℕ) (value : Value) → is_of_kind of_reference (value_by id (value_of value)) ≡ true
    → (object : Option Addr) × (value ≡ reference_to object)
as_reference id Null is = (None, refl)
as_reference id (Ref address) is = (Some (record { 0 = address }), refl)
as_reference id value is = absurd cc

-- the reference that is taken
pub object_taken : (id : ℕ → ℕ) (stack : List Value) (taken : model.Taken) (is : taken_of of_reference (tops id stack) ≡ Some taken)
    → (object : Option Addr) × ((is_taken of_reference id stack taken is).value ≡ reference_to object)
object_taken id stack taken is =
    let it = is_taken of_reference id stack taken is in
    as_reference id it.value
    (ap (is_of_kind of_reference) (sym it.value_is) ∙ taken_is_of_kind of_reference (tops id stack) taken is)

-- it is one word, which stands below those of a value
pub words_of_reference : (object : Option Addr) → words_of (reference_to object) ≡ reference_to object ∷ []
words_of_reference None = refl
words_of_reference (Some a) = refl

pub operand_on_top : (below : List Value) (word : Value) → slice_get (reverse (below ++ word ∷ [])) 0 ≡ Some word
operand_on_top below word = ap (λ (ws : List Value). slice_get ws 0) (reverse-append below (word ∷ []))

pub operand_below : (below : List Value) (word value : Value)
    → slice_get (reverse ((below ++ word ∷ []) ++ words_of value)) (places_of value) ≡ Some word
operand_below below word value =
    ap (λ (ws : List Value). slice_get ws (places_of value)) (reverse-append (below ++ word ∷ []) (words_of value))
    ∙ ap (λ (ws : List Value). slice_get (reverse (words_of value) ++ ws) (places_of value)) (reverse-append below (word ∷ []))
    ∙ by value
  where
    by : (v : Value) → slice_get (reverse (words_of v) ++ word ∷ reverse below) (places_of v) ≡ Some word
    by (Int n) = refl
    by (Long n) = refl
    by Half = refl
    by Null = refl
    by (Ref n) = refl

pub same_reference : (one other : Option Addr) → reference_to one ≡ reference_to other → one ≡ other
same_reference None None same = refl
same_reference (Some a) (Some b) same =
    let is : a.0 ≡ b.0 = cc in ap (λ (n : ℕ). let o : Option Addr = Some (record { 0 = n }) in o) is
same_reference one other same = absurd cc

pub no_object : (o : Option Addr) → ((a : Addr) → o ≡ Some a → ⊥) → o ≡ None
no_object None none = refl
no_object (Some a) none = absurd (none a refl)

-- ---- objects at live addresses

pub placed_below : (free : ℕ) (placed : List Placed) (address : ℕ) (stored : Stored ℕ) → All (IsWellPlaced free) placed
    → object_at placed address ≡ Some stored → (0 < address) × (address < 2 ^ 32)
placed_below free [] address stored all there = absurd cc
placed_below free (p ∷ others) address stored all there =
    by (placed_below free others address stored (All-tail (IsWellPlaced free) p others all)) (p.address == address) refl there
  where
    by : (object_at others address ≡ Some stored → (0 < address) × (address < 2 ^ 32)) → (b : Bool) → (p.address == address) ≡ b
        → (if b then Some p.object else object_at others address) ≡ Some stored → (0 < address) × (address < 2 ^ 32)
    by rest true here there =
        let own = All-head (IsWellPlaced free) p others all in
        subst (λ a. (0 < a) × (a < 2 ^ 32)) (eqb-true p.address address here) (own.not_null, own.small)
    by rest false away there = rest there

some_object : (o : Option (Stored ℕ)) → is_some o ≡ true → (stored : Stored ℕ) × (o ≡ Some stored)
some_object None live = absurd cc
some_object (Some stored) live = (stored, refl)

-- ---- objects with a field

-- These are the contents of an object of a class that has the field at this place.
pub record IsInstance (world : World) (field : MemberReference) (o : Option Contents) : Type 0 where
  pub class : List ℕ
  pub values : List model.Value
  pub place : ℕ
  pub there : o ≡ Some (instance class values)
  pub placed : field_place (layout world class) field ≡ Some place

-- where its value is found,
pub found_instance : (world : World) (field : MemberReference) (o : Option Contents) (value : model.Value)
    → option_and_then (λ contents. field_in world contents field) o ≡ Some value → IsInstance world field o
found_instance world field None value is = absurd cc
found_instance world field (Some (array type elements)) value is = absurd cc
found_instance world field (Some (string units)) value is = absurd cc
found_instance world field (Some (instance class values)) value is = by (field_place (layout world class) field) refl is
  where
    by : (o : Option ℕ) → field_place (layout world class) field ≡ o → option_and_then (slice_get values) o ≡ Some value
        → IsInstance world field (Some (instance class values))
    by None placed is = absurd cc
    by (Some place) placed is = record { class = class; values = values; place = place; there = refl; placed = placed }

-- and where one can be put there
pub changed_instance : (world : World) (field : MemberReference) (value : model.Value) (o : Option Contents) (changed : Contents)
    → option_and_then (with_field world field value) o ≡ Some changed → IsInstance world field o
changed_instance world field value None changed is = absurd cc
changed_instance world field value (Some (array type elements)) changed is = absurd cc
changed_instance world field value (Some (string units)) changed is = absurd cc
changed_instance world field value (Some (instance class values)) changed is = by (field_place (layout world class) field) refl is
  where
    by : (o : Option ℕ) → field_place (layout world class) field ≡ o
        → option_map (λ place. instance class (slice_set values place value)) o ≡ Some changed
        → IsInstance world field (Some (instance class values))
    by None placed is = absurd cc
    by (Some place) placed is = record { class = class; values = values; place = place; there = refl; placed = placed }

-- At an address of the machine lies an object whose class has the field at this place, which holds what the field's
-- descriptor says.
pub record IsReceiver (machine : Machine) (a : Addr) (found : Found Field) (place : ℕ) : Type 0 where
  pub field : HasField machine.versions.layouts.layouts machine.heap a place
  pub cell : cell_of_field machine.versions.layouts.layouts machine.heap a place ≡ Some (cell_of found.member.descriptor)
  pub placed : field_place (layout machine.world (name_at machine.world field.stored.shape.class)) (field_found found) ≡ Some place

shaped_cells : (o : Option (List Cell)) (n : ℕ) → unwrap_or (option_map (λ cells. length cells == n) o) false ≡ true
    → (cells : List Cell) × (o ≡ Some cells) × (length cells ≡ n)
shaped_cells None n is = absurd cc
shaped_cells (Some cells) n is = (cells, refl, eqb-true (length cells) n is)

module _ (machine : Machine) (types : List FieldType) (state : State) (stands : StandsFor types machine state) where
  abbrev own_ids : Ids
  own_ids = ids_of machine.heap

  abbrev classes : Classes
  classes = classes_of machine.world types machine.versions

  pub live_object : (address : ℕ) → own_ids.is_live address ≡ true → (stored : Stored ℕ) × (object_at machine.heap.objects address ≡ Some stored)
  unfolding ids_of
  live_object address live = some_object (object_at machine.heap.objects address) live

  -- a live address is below 2 ^ 32, and isn't 0
  pub live_below : (address : ℕ) → own_ids.is_live address ≡ true → (0 < address) × (address < 2 ^ 32)
  live_below address live =
      let object = live_object address live in
      placed_below machine.heap.free_serial machine.heap.objects address object.0 stands.parts.heap.sound.objects object.1

  module _ (a : Addr) (stored : Stored ℕ) (there : object_of machine.heap a ≡ Some stored) (found : Found Field) (place : ℕ) where
    abbrev number : ClassNo
    number = stored.shape.class

    abbrev contents : Kind → Contents
    contents kind = contents_by own_ids.id (contents_by_kind classes number stored.contents kind)

    contents_there : contents_at state.heap (own_ids.id a.0) ≡ Some (contents stored.shape.kind)
    contents_there =
        ap (contents_at state.heap) (id_is machine.heap a.0 stored there)
        ∙ ap (option_map (λ (o : Object). o.contents)) (stands.parts.heap.each a.0 stored there).same

    receives : (kind : Kind) → stored.shape.kind ≡ kind → IsTrue (is_shaped classes number stored.contents kind)
        → (class : List ℕ) (values : List model.Value) → Some (contents kind) ≡ Some (instance class values)
        → field_place (layout machine.world class) (field_found found) ≡ Some place → IsReceiver machine a found place
    receives kinds.Refs kind shaped class values same placed = absurd cc
    receives kinds.Ints kind shaped class values same placed = absurd cc
    receives kinds.Text kind shaped class values same placed = absurd cc
    receives kinds.Object kind shaped class values same placed =
        let name : class ≡ name_at machine.world number = cc in
        let cells = shaped_cells (cells_of machine.versions.layouts.layouts number) (length stored.contents) shaped in
        let own = ap (λ n. field_place (layout machine.world n) (field_found found)) (sym name) ∙ placed in
        let cell = cell_at_place machine.world machine.versions.layouts number cells.0 (field_found found) place stands.parts.versions.layouts cells.1 own in
        let inside = slice_get_within cells.0 place (cell_of found.member.descriptor) cell in
        record {
          field = record {
            stored = stored;
            there = there;
            kind = kind;
            cells = cells.0;
            laid = cells.1;
            in_cells = inside;
            in_words = omega (arith, inside, cells.2);
          };
          cell =
              ap (option_and_then (λ (s : Stored ℕ). option_and_then (λ cs. slice_get cs place) (cells_of machine.versions.layouts.layouts s.shape.class))) there
              ∙ ap (option_and_then (λ (cs : List Cell). slice_get cs place)) cells.1 ∙ cell;
          placed = own;
        }

    pub is_receiver : (it : IsInstance machine.world (field_found found) (contents_at state.heap (own_ids.id a.0)))
        → it.place ≡ place → IsReceiver machine a found place
    is_receiver it same =
        receives stored.shape.kind refl (stands.parts.heap.each a.0 stored there).shaped it.class it.values
        (sym contents_there ∙ it.there) (it.placed ∙ ap Some same)
