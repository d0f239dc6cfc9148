-- Which state of the definitions the machine is in.
use Rattle.std.specs.Prelude.{◌≡◌, ℕ, List, IsTrue}
use Rattle.jv_model.specs.Descriptors.{FieldType}
use Rattle.world_model.specs.World.{World}
use Rattle.machine_model.specs.State.{State}
use Rattle.jv_types.specs.Sequence.{Sequence}
use Rattle.class_world.specs.World.{name_at}
use Rattle.heap_face.specs.declared.address.Addr.{Addr}
use Rattle.heap_face.specs.Heap.{HeapState}
use Rattle.frame_stacks.specs.Threads.{Threads}
use Rattle.code_marks.specs.Marks.{mark_at}
use Rattle.class_versions.specs.Versions.{VersionTables, AreVersions}
use Rattle.look_up_cache.specs.Kept.{Kept, IsTrueOf}
use Rattle.heap_objects.specs.Ids.{Ids, ids_of}
use Rattle.heap_objects.specs.Objects.{Classes, IsHeap}
use Rattle.member_names.specs.Names.{IsOrderly}
use Rattle.machine_threads.specs.Threads.{AreThreads, HaveEnded}
use Rattle.machine_shared.specs.Shared.{AreStatics, class_monitors_of, AreInterned}
use Rattle.machine_parts.specs.declared.parts.Parts.{Parts}

-- What contracts see of the machine's parts.
pub record Machine : Type 0 where
  pub heap : HeapState
  pub stacks : Threads
  pub versions : VersionTables
  pub caches : Kept
  pub world : World
  pub output : Sequence ℕ
  pub requests : ℕ
  pub args : Addr
  pub roots : Sequence Addr

-- what they see of `Parts` over a heap
abbrev pub machine_of : {H : Type 0} → (H → HeapState) → Parts H → Machine
machine_of heap parts = record {
  heap = heap parts.heap;
  stacks = parts.stacks;
  versions = parts.versions;
  caches = parts.caches;
  world = parts.world;
  output = parts.output;
  requests = parts.requests;
  args = parts.args;
  roots = parts.roots.addrs;
}

-- the types that numbers of arrays name
abbrev pub classes_of : World → List FieldType → VersionTables → Classes
classes_of world types versions =
    record { name = name_at world; layouts = versions.layouts.layouts; types = types }

-- It's the address of the first object, which is the array that main was called with.
pub record IsFirst (ids : Ids) (address : ℕ) : Type 0 where
  pub live : IsTrue (ids.is_live address)
  pub first : ids.id address ≡ 0

-- Each part of the machine, read through the serials of what it names, is a field of the state.
pub record HasParts (types : List FieldType) (machine : Machine) (state : State) : Type 0 where
  pub world : machine.world ≡ state.world
  pub versions : AreVersions machine.world machine.versions
  pub heap : IsHeap (classes_of machine.world types machine.versions) machine.heap state.heap
  pub args : IsFirst (ids_of machine.heap) machine.args.0
  pub threads : AreThreads machine.world (mark_at machine.versions.marks) (ids_of machine.heap) machine.stacks state.threads
  pub statics : AreStatics machine.world (ids_of machine.heap) machine.versions.statics state.statics
  pub class_monitors : class_monitors_of machine.world.classes machine.versions.locks ≡ state.class_monitors
  pub interned : AreInterned (ids_of machine.heap) machine.versions.literals state.interned
  pub output : machine.output.items ≡ state.output
  pub requests : machine.requests ≡ state.requests

-- The machine is in that state.
pub record StandsFor (types : List FieldType) (machine : Machine) (state : State) : Type 0 where
  pub parts : HasParts types machine state
  pub ended : HaveEnded machine.stacks
  -- what is resolved is what look-up by name gives
  pub caches : IsTrueOf machine.world machine.versions.slots machine.versions.literals.texts machine.caches
  pub orderly : IsOrderly machine.world
