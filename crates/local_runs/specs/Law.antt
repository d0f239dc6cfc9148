-- What the law of local steps says.
use Rattle.std.specs.Prelude.{◌≡◌, [], None}
use Rattle.jv_model.specs.Operand.{Operand}
use Rattle.jv_model.specs.Code.{Body}
use Rattle.machine_model.specs.State.{Frame}
use Rattle.machine_model.specs.LocalStep.{Local, goes_to, not_local, wrong, local_step}

-- a frame of which neither the method nor the held receiver is told
abbrev pub unnamed : Frame → Frame
unnamed frame = record frame {
  method = record { class = []; name = []; descriptor = [] };
  held = None;
}

-- the step, where the frame that it goes to is of that frame's method
abbrev pub named_as : Frame → Local → Local
named_as frame (goes_to next) =
    goes_to (record next { method = frame.method; held = frame.held })
named_as frame not_local = not_local
named_as frame wrong = wrong

-- The step of a frame is that of its words, and leaves its method and its held receiver.
abbrev pub StepKeepsMethod : Type 0
StepKeepsMethod = (code : Body Operand) (frame : Frame)
    → local_step code frame ≡ named_as frame (local_step code (unnamed frame))
