use Rattle.std.proofs.Common.{◌≡◌, ℕ, drop}
use Rattle.code_model.specs.CodePlaces.{target_fault}
use Rattle.code_reader.proofs.places.wrong_target.Given as goal

-- the instructions so far branch to instructions
abbrev pub invariant-loop-number : goal.invariant-loop-number
invariant-loop-number l = (method : ℕ)
    → target_fault method l.instructions (drop l.number l.instructions)
    ≡ target_fault method l.instructions l.instructions
