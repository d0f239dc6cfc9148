-- The groups of operands that `pop` to `swap` take.
use Rattle.std.specs.Prelude.{◌≡◌, ℕ, List, [], ◌∷◌, length, take, drop}
use Rattle.type_rules.specs.declared.types.VerificationType.{VerificationType}
use Rattle.instruction_types.specs.declared.stack_forms.Group.{Group}
use Rattle.instruction_types.specs.declared.stack_forms.Group.TheVariants.{Empty, One, Two}

-- from the top down
abbrev pub types_in : Group → List VerificationType
types_in Empty = []
types_in (One type) = type ∷ []
types_in (Two first second) = first ∷ second ∷ []

-- these are the operands from that number on
abbrev pub StandsAt : List VerificationType → ℕ → List VerificationType → Type 0
StandsAt stack from types = take (length types) (drop from stack) ≡ types
