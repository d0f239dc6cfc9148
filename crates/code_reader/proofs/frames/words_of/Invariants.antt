use Rattle.std.proofs.Common.{◌≡◌, ◌*◌, ◌≤◌, take}
use Rattle.jv_types.specs.Code.{map_types_of}
use Rattle.code_model.specs.StackMaps.{words_of}
use Rattle.code_reader.proofs.frames.words_of.Given as goal

-- the words so far
abbrev pub invariant-loop-each : goal.invariant-loop-each
invariant-loop-each l = record {
  so_far : l.words ≡ words_of (map_types_of (take l.each-index l.types));
  few : l.words ≤ 2 * l.each-index;
}
