use Rattle.std.proofs.Common.{◌≡◌, drop}
use Rattle.std.specs.List.{list_all}
use Rattle.code_model.specs.CodePlaces.{is_start}
use Rattle.code_reader.proofs.places.are_starts.Given as goal

-- instructions stand at the places so far
abbrev pub invariant-loop-place : goal.invariant-loop-place
invariant-loop-place l = list_all (is_start l.instructions) (drop l.place-index l.places)
    ≡ list_all (is_start l.instructions) l.places
