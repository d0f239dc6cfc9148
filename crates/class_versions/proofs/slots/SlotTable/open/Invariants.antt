use Rattle.std.proofs.Common.{◌≡◌, length, map, take}
use Rattle.class_versions.specs.Slots.{methods_of, signatures_of}
use Rattle.class_versions.proofs.slots.SlotTable.open.Given as goal

-- the methods of the classes so far have slots
abbrev pub invariant-loop-class : goal.invariant-loop-class
invariant-loop-class l = record {
  counts : l.numbers ≡ take l.class (map length l.signatures);
  methods : l.methods.items ≡ methods_of l.signatures l.class;
  rows : l.rows.items ≡ signatures_of l.signatures l.class;
}
