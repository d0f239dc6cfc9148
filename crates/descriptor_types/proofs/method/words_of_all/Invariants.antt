use Rattle.std.proofs.Common.{◌≡◌, ◌*◌, ◌≤◌, take, map, sum}
use Rattle.code_model.specs.TypeReading.{words_of_type}
use Rattle.descriptor_types.specs.Types.{field_types_of}
use Rattle.descriptor_types.proofs.method.words_of_all.Given as goal

-- the words so far
abbrev pub invariant-loop-parameter : goal.invariant-loop-parameter
invariant-loop-parameter l = record {
  so_far : l.words ≡ sum (map words_of_type (field_types_of (take l.parameter-index l.parameters)));
  few : l.words ≤ 2 * l.parameter-index;
}
