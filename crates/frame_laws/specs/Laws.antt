-- What the laws of frames say: steps of verified code that touch the current frame alone.
use Rattle.std.specs.Prelude.{◌≡◌, true, Some, ⊤}
use Rattle.typing_model.specs.Environment.{Environment}
use Rattle.machine_model.specs.State.{Frame}
use Rattle.machine_model.specs.LocalStep.{Local, goes_to, not_local, wrong, local_step}
use Rattle.machine_model.specs.TypedValues.{HeapTyping}
use Rattle.machine_model.specs.Conforms.{current_types, frame_environment, frame_conforms}
use Rattle.frame_laws.specs.Worlds.{IsVerified}

-- a step isn't wrong, and a frame of the same method that it leads to conforms
abbrev pub Keeps : HeapTyping → Frame → Local → Type 0
Keeps heap frame (goes_to next) =
    (frame_conforms heap (λ e. current_types e next.pc) next ≡ true) × (next.method ≡ frame.method)
Keeps heap frame not_local = ⊤
Keeps heap frame wrong = ⊥

-- In a verified world a local step of a frame that conforms isn't wrong, and leads to one that conforms.
abbrev pub LocalStepKeeps : Type 0
LocalStepKeeps = (heap : HeapTyping) → IsVerified heap.world → (frame : Frame) (e : Environment)
    → frame_conforms heap (λ e. current_types e frame.pc) frame ≡ true
    → frame_environment heap.world frame ≡ Some e → Keeps heap frame (local_step e.body frame)
