use Rattle.std.proofs.Common.{◌≡◌, ◌-◌, ◌∷◌, [], length}
use Rattle.jv_model.specs.ClassData.{gap}
use Rattle.jv_model.specs.ClassReading.{entries_at}
use Rattle.jv_types.specs.ClassData.{pool_of}
use Rattle.jv_model.specs.Input.{in_front}
use Rattle.class_reader.proofs.constant_pool.read_entries.Given as goal

-- the entries so far, and those that are still to be read
abbrev pub invariant-loop-index : goal.invariant-loop-index
invariant-loop-index l = record {
  index : l.index ≡ length l.entries.items;
  so_far : in_front (pool_of l.entries.items) (entries_at l.index (l.end - l.index) l.input)
      ≡ in_front (gap ∷ []) (entries_at 1 (l.fn.count - 1) l.fn.input);
}

abbrev pub decreases-loop-index : goal.decreases-loop-index
decreases-loop-index l = l.end - l.index
