use Rattle.std.proofs.Common.{◌≡◌, ◌++◌, take}
use Rattle.class_versions.specs.Slots.{methods_to, row_of}
use Rattle.class_versions.proofs.slots.add_class.Given as goal

-- those of the methods so far are added
abbrev pub invariant-loop-index : goal.invariant-loop-index
invariant-loop-index l = record {
  methods : l.methods.items ≡ l.fn.methods.items ++ methods_to l.class l.index;
  numbers : l.numbers.items ≡ l.fn.numbers.items ++ take l.index (row_of l.signatures l.class.0);
}
