-- What a call takes and gives.
use Rattle.std.specs.Prelude.{[], ◌∷◌, ◌++◌, List, Option, Some, None}
use Rattle.jv_model.specs.Partial.{◌>>=◌}
use Rattle.jv_model.specs.Descriptors.{MethodType}
use Rattle.world_model.specs.World.{World}
use Rattle.typing_model.specs.VerificationType.{TypeFrame}
use Rattle.typing_model.specs.Environment as model
use Rattle.typing_model.specs.Transition.{Test, changed}
use Rattle.typing_model.specs.CallTypes.{are_arguments, results}
use Rattle.instruction_types.specs.declared.operands.Wanted.{Wanted}
use Rattle.instruction_types.specs.Wanted.{test_of}

-- what the receiver has to be, where there is one
abbrev pub receiver_tests : World → model.Environment → Option Wanted → List Test
receiver_tests world e None = []
receiver_tests world e (Some wanted) = test_of world e wanted ∷ []

-- the arguments and the receiver are taken, and the result is put
abbrev pub called : model.Environment → Option MethodType → List Test → TypeFrame → Option TypeFrame
called e type receiver frame = type >>= λ t. changed e (are_arguments e t ++ receiver) (results t) frame
