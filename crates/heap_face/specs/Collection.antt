-- What a collection leaves, by serials, since all objects may move.
use Rattle.std.specs.Prelude.{ℕ, suc, Bool, true, false, not, ◌&&◌, List, [], ◌∷◌, Option, None, Some, ◌==◌, if◌then◌else◌, IsTrue, length, map, flat_map, slice_get, option_map, option_and_then, option_to_list, unwrap_or, is_some}
use Rattle.std.specs.List.{find, list_all}
use Rattle.jv_types.specs.Sequence.{Sequence}
use Rattle.jv_types.specs.declared.number.ClassNo.{ClassNo}
use Rattle.machine_model.specs.Reach.{reach_order}
use Rattle.heap_face.specs.declared.address.Addr.{Addr}
use Rattle.heap_face.specs.declared.shape.Shape.{Shape}
use Rattle.heap_face.specs.declared.shape.Kind.{Kind}
use Rattle.heap_face.specs.declared.shape.Kind.TheVariants.{Object, Refs, Ints, Text}
use Rattle.heap_face.specs.declared.layout.Cell.{Cell}
use Rattle.heap_face.specs.declared.layout.Cell.TheVariants.{Int, Long, Ref}
use Rattle.heap_face.specs.declared.layout.Layouts.{Layouts}
use Rattle.heap_face.specs.Heap.{Stored, Placed, HeapState, object_at, object_of, serial_of}

-- ---- contents by serial

-- what a word of an object says
pub data Content : Type 0 where
  -- the bits of a number or a unit
  bits : ℕ → Content
  null : Content
  -- to the object of this serial
  reference : ℕ → Content
  -- to where no object lies
  dangling : Content

abbrev pub target : Option (Stored ℕ) → Content
target None = dangling
target (Some object) = reference object.serial

-- what a word says that is a reference, or isn't
abbrev pub content_of : List Placed → Bool → ℕ → Content
content_of objects false word = bits word
content_of objects true word = if word == 0 then null else target (object_at objects word)

abbrev pub is_ref : Option Cell → Bool
is_ref (Some Ref) = true
is_ref (Some Int) = false
is_ref (Some Long) = false
is_ref None = false

-- the cells of a class
abbrev pub cells_of : Layouts → ClassNo → Option (List Cell)
cells_of layouts class =
    option_map (λ (cells : Sequence Cell). cells.items) (slice_get layouts.classes.items class.0)

abbrev pub refers_by : Kind → Option Cell → Bool
refers_by Object cell = is_ref cell
refers_by Refs cell = true
refers_by Ints cell = false
refers_by Text cell = false

-- whether the word at this place of the contents is a reference
abbrev pub refers_at : Layouts → Shape → ℕ → Bool
refers_at layouts shape at =
    refers_by shape.kind (option_and_then (λ cells. slice_get cells at) (cells_of layouts shape.class))

-- the contents from a place on
abbrev pub contents_from : List Placed → (ℕ → Bool) → ℕ → List ℕ → List Content
contents_from objects refers at [] = []
contents_from objects refers at (word ∷ words) =
    content_of objects (refers at) word ∷ contents_from objects refers (suc at) words

abbrev pub read_by : Layouts → List Placed → Stored ℕ → Stored Content
read_by layouts objects object = record {
  serial = object.serial;
  shape = object.shape;
  lock = object.lock;
  contents = contents_from objects (refers_at layouts object.shape) 0 object.contents;
}

-- the objects of a heap, with serials in place of addresses
abbrev pub by_serial : Layouts → HeapState → List (Stored Content)
by_serial layouts heap = map (λ (placed : Placed). read_by layouts heap.objects placed.object) heap.objects

-- ---- what is reached

abbrev pub referred : Content → List ℕ
referred (bits word) = []
referred null = []
referred (reference serial) = serial ∷ []
referred dangling = []

-- the object of a serial
abbrev pub of_serial : List (Stored Content) → ℕ → Option (Stored Content)
of_serial objects serial = find (λ (object : Stored Content). object.serial == serial) objects

abbrev pub children : List (Stored Content) → ℕ → List ℕ
children objects serial =
    flat_map (λ (object : Stored Content). flat_map referred object.contents) (option_to_list (of_serial objects serial))

abbrev pub root_serials : HeapState → List Addr → List ℕ
root_serials heap roots = flat_map (λ a. option_to_list (serial_of heap a)) roots

-- the serials that can be reached, in reach order: there are fewer objects than serials were given
abbrev pub reached : Layouts → HeapState → List Addr → List ℕ
reached layouts heap roots =
    reach_order heap.free_serial (children (by_serial layouts heap)) (root_serials heap roots)

-- the objects that a collection leaves
abbrev pub collected : Layouts → HeapState → List Addr → List (Stored Content)
collected layouts heap roots =
    flat_map (λ serial. option_to_list (of_serial (by_serial layouts heap) serial)) (reached layouts heap roots)

-- ---- what a collection asks

abbrev pub is_dangling : Content → Bool
is_dangling (bits word) = false
is_dangling null = false
is_dangling (reference serial) = false
is_dangling dangling = true

-- the layouts have a cell for each field
abbrev pub has_cells : Layouts → Stored Content → Kind → Bool
has_cells layouts object Object =
    unwrap_or (option_map (λ cells. length cells == length object.contents) (cells_of layouts object.shape.class)) false
has_cells layouts object Refs = true
has_cells layouts object Ints = true
has_cells layouts object Text = true

abbrev pub can_follow : Layouts → Stored Content → Bool
can_follow layouts object =
    has_cells layouts object object.shape.kind && list_all (λ content. not (is_dangling content)) object.contents

pub record CanCollect (layouts : Layouts) (heap : HeapState) (roots : List Addr) : Type 0 where
  -- each root is live
  pub live : IsTrue (list_all (λ a. is_some (object_of heap a)) roots)
  -- each reached object has a cell for each field, and its references are null or live
  pub followed : IsTrue (list_all (can_follow layouts) (collected layouts heap roots))
