-- The parts of a small machine, computed: two objects, a thread with one frame, and a static field.
use Rattle.std.proofs.Common.{◌≡◌, ℕ, List, [], ◌∷◌, true, false, refl, pos}
use Rattle.std.specs.Prelude.{Some, None, codes, map, neg_ℤ}
use Rattle.jv_model.specs.Descriptors.{class_type, boolean_type}
use Rattle.world_model.specs.World.{World, Field, user}
use Rattle.machine_model.specs.Value as model
use Rattle.machine_model.specs.Heap.{instance, array, owned, free}
use Rattle.jv_values.specs.declared.value.Value.TheVariants as values
use Rattle.class_world.specs.World.{name_at}
use Rattle.heap_face.specs.declared.layout.Layouts.{Layouts}
use Rattle.heap_face.specs.declared.layout.Cell.TheVariants as cells
use Rattle.heap_face.specs.declared.shape.Kind.TheVariants as kinds
use Rattle.heap_face.specs.Heap.{Stored, HeapState}
use Rattle.static_fields.specs.Statics.{Statics}
use Rattle.frame_stacks.specs.Threads.{Threads}
use Rattle.heap_objects.specs.Ids.{ids_of, object_by, thread_by, static_by}
use Rattle.heap_objects.specs.Objects.{Classes, object_in, is_shaped, addresses_in}
use Rattle.machine_threads.specs.Threads.{threads_in}
use Rattle.machine_shared.specs.Shared.{statics_in, class_monitors_of}

field : List ℕ → List ℕ → ℕ → Field
field name descriptor flags = record { name = name; descriptor = descriptor; flags = flags; constant = None }

-- a class with an int `a`, a static `s` and a reference `b`, and a method `m`
world : World
world = record {
  classes =
      record { origin = user; name = codes "O"; flags = 1; superclass = None; interfaces = []; fields = []; methods = []; loaded = None }
      ∷ record {
        origin = user;
        name = codes "P";
        flags = 1;
        superclass = Some (codes "O");
        interfaces = [];
        fields = field (codes "a") (codes "I") 0 ∷ field (codes "s") (codes "LP;") 8 ∷ field (codes "b") (codes "LP;") 0 ∷ [];
        methods = record { name = codes "m"; descriptor = codes "()V"; flags = 8; code = None } ∷ [];
        loaded = None;
      } ∷ [];
}

layouts : Layouts
layouts = record {
  classes = record {
    items = record { items = []; spare = 0 } ∷ record { items = cells.Int ∷ cells.Ref ∷ []; spare = 0 } ∷ [];
    spare = 0;
  };
}

classes : Classes
unfolding world layouts
classes = record { name = name_at world; layouts = layouts; types = boolean_type ∷ class_type (codes "P") ∷ [] }

-- an array of two elements, which its first is null, and an object that names itself and is locked by thread 3
elements : Stored ℕ
elements = record {
  serial = 0;
  shape = record { class = record { 0 = 1 }; kind = kinds.Refs; words = 6 };
  lock = 0;
  contents = 0 ∷ 20 ∷ [];
}

itself : Stored ℕ
itself = record {
  serial = 1;
  shape = record { class = record { 0 = 1 }; kind = kinds.Object; words = 5 };
  lock = 131;
  contents = 4294967295 ∷ 20 ∷ [];
}

heap : HeapState
unfolding elements itself
heap = record {
  objects = record { address = 10; object = elements } ∷ record { address = 20; object = itself } ∷ [];
  half = 100;
  free_serial = 2;
  is_draft_open = false;
}

array_is : object_by (ids_of heap).id (object_in classes elements)
    ≡ record { contents = array (class_type (codes "P")) (model.null ∷ model.reference 1 ∷ []); monitor = free }
unfolding ids_of heap classes elements itself world layouts
array_is = refl

object_is : object_by (ids_of heap).id (object_in classes itself)
    ≡ record { contents = instance (codes "P") (model.int (neg_ℤ (pos 1)) ∷ model.reference 1 ∷ []); monitor = owned 3 2 }
unfolding ids_of heap classes elements itself world layouts
object_is = refl

shaped : is_shaped classes itself.shape.class itself.contents itself.shape.kind ≡ true
unfolding classes itself layouts world
shaped = refl

named : addresses_in classes itself ≡ 20 ∷ []
unfolding classes itself layouts world
named = refl

stacks : Threads
stacks = record {
  threads = record {
    frames = record {
      code = record { body = 0; version = 0 };
      method = record { class = record { 0 = 1 }; index = 0 };
      pc = 3;
      held = values.Ref 20;
      locals = values.Ref 10 ∷ values.Null ∷ [];
      stack = values.Int (pos 7) ∷ values.Long (pos 8) ∷ values.Half ∷ values.Ref 20 ∷ [];
      max_stack = 9;
    } ∷ [];
    to_start = [];
    mark = true;
    ended = false;
    thrown = None;
  } ∷ [];
  room = 64;
}

threads_are : map (thread_by (ids_of heap).id) (threads_in world stacks)
    ≡ record {
      frames = record {
        method = record { class = codes "P"; name = codes "m"; descriptor = codes "()V" };
        pc = 3;
        held = Some 1;
        locals = model.reference 0 ∷ model.null ∷ [];
        stack = model.reference 1 ∷ model.half ∷ model.long (pos 8) ∷ model.int (pos 7) ∷ [];
      } ∷ [];
      to_start = [];
      mark = true;
      thrown = None;
    } ∷ []
unfolding ids_of heap elements itself stacks world
threads_are = refl

statics : Statics
statics = record { counts = 0 ∷ 3 ∷ []; values = values.Int (pos 0) ∷ values.Ref 10 ∷ values.Null ∷ [] }

statics_are : map (static_by (ids_of heap).id) (statics_in world statics)
    ≡ record { field = record { class = codes "P"; name = codes "s"; descriptor = codes "LP;" }; value = model.reference 0 } ∷ []
unfolding ids_of heap elements itself statics world field
statics_are = refl

monitors_are : class_monitors_of world.classes (0 ∷ 64 ∷ [])
    ≡ record { class = codes "O"; monitor = free } ∷ record { class = codes "P"; monitor = owned 0 1 } ∷ []
unfolding world
monitors_are = refl
