use Rattle.std.proofs.Common.{◌≡◌, ◌*◌, ◌≤◌, take}
use Rattle.std.specs.List.{sum_by}
use Rattle.type_rules.specs.Frames.{words_of}
use Rattle.instruction_types.proofs.operands.words.Given as goal

abbrev pub invariant-loop-type_there : goal.invariant-loop-type_there
invariant-loop-type_there l = record {
  so_far : l.words ≡ sum_by words_of (take l.type_there-index l.types);
  few : l.words ≤ 2 * l.type_there-index;
}
