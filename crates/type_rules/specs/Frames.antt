-- What contracts see of a `TypeFrame`, and which frame of the definitions it is.
use Rattle.std.specs.Prelude.{ℕ, List, Bool, true, false, map}
use lib.Pointwise.{pointwise}
use Rattle.std.specs.List.{All}
use Rattle.world_model.specs.World.{World}
use Rattle.typing_model.specs.VerificationType as model
use Rattle.typing_model.specs.Assignable.{assignable, operand_assignable}
use Rattle.type_rules.specs.declared.types.VerificationType.{VerificationType}
use Rattle.type_rules.specs.declared.types.VerificationType.TheVariants.{Long, This}
use Rattle.type_rules.specs.declared.frame_assignment.Place.{Place}
use Rattle.type_rules.specs.declared.frame_assignment.Place.TheVariants.{Local, Operand}
use Rattle.type_rules.specs.Types.{type_of, IsKnownType}

pub record Types : Type 0 where
  -- by number, a Long followed by Top
  pub locals : List VerificationType
  -- from the top down, a Long once
  pub stack : List VerificationType

abbrev pub types_of : World → List VerificationType → List model.VerificationType
types_of world types = map (type_of world) types

abbrev pub frame_of : World → Types → model.TypeFrame
frame_of world frame =
    record { locals = types_of world frame.locals; stack = types_of world frame.stack }

-- the classes that they name are there
abbrev pub AreKnown : World → List VerificationType → Type 0
AreKnown world types = All (IsKnownType world) types

pub record IsKnownFrame (world : World) (frame : Types) : Type 0 where
  pub locals : AreKnown world frame.locals
  pub stack : AreKnown world frame.stack

-- the words that a type takes
abbrev pub words_of : VerificationType → ℕ
words_of Long = 2
words_of other = 1

-- ---- assignability

abbrev pub is_uninitialized_this : VerificationType → Bool
is_uninitialized_this This = true
is_uninitialized_this other = false

-- at a place one type goes to another
abbrev pub goes_in : Place → World → model.VerificationType → model.VerificationType → Bool
goes_in Local world from to = assignable world from to
goes_in Operand world from to = operand_assignable world from to

abbrev pub all_go_in : Place → World → List VerificationType → List VerificationType → Bool
all_go_in place world from to = pointwise (λ f t. goes_in place world (type_of world f) (type_of world t)) from to
