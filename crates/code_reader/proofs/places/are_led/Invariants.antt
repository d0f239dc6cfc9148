use Rattle.std.proofs.Common.{◌≡◌, drop, map}
use Rattle.std.specs.List.{list_all}
use Rattle.jv_types.specs.Instruction.{pairs_of}
use Rattle.code_model.specs.CodePlaces.{is_start}
use Rattle.code_reader.specs.Switch.{target_of}
use Rattle.code_reader.proofs.places.are_led.Given as goal

-- instructions stand at the targets so far
abbrev pub invariant-loop-pair : goal.invariant-loop-pair
invariant-loop-pair l =
    list_all (is_start l.instructions) (map target_of (pairs_of (drop l.pair-index l.pairs)))
    ≡ list_all (is_start l.instructions) (map target_of (pairs_of l.pairs))
