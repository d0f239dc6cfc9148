-- What the machine keeps room for, so that no step takes memory.
use Rattle.std.specs.Prelude.{◌≡◌, ℕ, ◌+◌, ◌*◌, ◌≤◌, List, ◌∷◌, ◌++◌, true, length, flat_map}
use Rattle.jv_model.specs.Limits.{most_threads, most_frames, most_stack_words, most_output_bytes}
use Rattle.world_model.specs.Layout.{declared}
use Rattle.jv_types.specs.Sequence.{Sequence}
use Rattle.machine_threads.specs.Threads.{thread_addresses}
use Rattle.machine_shared.specs.Shared.{statics_in, static_addresses, interned_in, interned_addresses}
use Rattle.machine_parts.specs.Parts.{Machine}

-- from where objects are reached, in the order of roots: the array of main, what threads name by their numbers, static
-- fields, interned strings
abbrev pub root_addresses : Machine → List ℕ
root_addresses machine =
    machine.args.0
    ∷ flat_map thread_addresses machine.stacks.threads
    ++ static_addresses (statics_in machine.world machine.versions.statics)
    ++ interned_addresses (interned_in machine.versions.literals)

-- so many items a list has, or has room for
abbrev pub capacity : {A : Type 0} → Sequence A → ℕ
capacity list = length list.items + list.spare

-- how many roots there ever are: the array of main; each word of a frame, and its held receiver; static fields and literals
abbrev pub most_roots : Machine → ℕ
most_roots machine =
    1 + most_threads * (most_frames + most_stack_words)
    + length (flat_map (declared true) machine.world.classes)
    + (length machine.versions.literals.order + machine.versions.literals.left)

pub record HasRooms (half : ℕ) (machine : Machine) : Type 0 where
  -- for as many words of objects as the program says
  pub heap : machine.heap.half ≡ half
  -- for every root
  pub roots : most_roots machine ≤ capacity machine.roots
  -- for all that may be printed
  pub output : most_output_bytes ≤ capacity machine.output
  -- for a string of each literal
  pub literals : length machine.versions.literals.texts
      ≤ length machine.versions.literals.order + machine.versions.literals.left
  pub threads : most_threads ≤ machine.stacks.room
