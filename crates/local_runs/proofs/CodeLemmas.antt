-- The local step in the code that a mark shows is the step in its body, with its constants.
use Rattle.std.proofs.Common.{◌≡◌, ℕ, List, refl, sym, ap, ◌∙◌}
use Rattle.std.specs.Prelude.{Option, Some, None}
use Rattle.std.proofs.Math.Path.{fun_ext}
use Rattle.jv_model.specs.Operand.{Operand}
use Rattle.jv_model.specs.Code.{Placed, Body}
use Rattle.code_model.specs.Names.{named}
use Rattle.jv_types.specs.Code.{body_of}
use Rattle.jv_types.specs.ClassData.{pool_of}
use Rattle.jv_types.specs.declared.code.CodeBody.{CodeBody}
use Rattle.jv_types.specs.declared.class_data.Const.{Const}
use Rattle.machine_model.specs.State.{Frame}
use Rattle.machine_model.specs.LocalStep.{local_step, local_step_at, local_step_of}
use Rattle.local_steps.specs.Steps.{with_room}
use Rattle.code_store.specs.Codes.{ShowsCode}
use Rattle.local_runs.specs.Lent.{step_in_code}
use Rattle.local_runs.specs.Places.{code_in, step_of}
use Rattle.local_runs.proofs.PlaceLemmas.{room_only}

-- code with as much room has the same steps
same_room : (a b : Body Operand) (frame : Frame) (placed : Option (Placed Operand)) → a.max_stack ≡ b.max_stack → local_step_at a frame placed ≡ local_step_at b frame placed
same_room a b frame None h = refl
same_room a b frame (Some placed) h =
    room_only a placed frame placed.instruction
    ∙ ap (λ words. local_step_of (with_room words) placed frame placed.instruction) h
    ∙ sym (room_only b placed frame placed.instruction)

-- of the descriptor only stack maps speak
no_descriptor : (pool : List Const) (descriptor : List ℕ) (body : CodeBody) (frame : Frame) → local_step (named (pool_of pool) descriptor (body_of body)) frame ≡ step_of pool body frame
unfolding named
no_descriptor pool descriptor body frame = same_room (named (pool_of pool) descriptor (body_of body)) (code_in pool body) frame _ refl

pub step_is_shown : (found : Option (Body Operand)) (pool : List Const) (body : CodeBody) → ShowsCode found pool body → step_in_code found ≡ step_of pool body
step_is_shown None pool body h = absurd h
step_is_shown (Some code) pool body h =
    fun_ext (λ frame. ap (λ c. local_step c frame) h.same ∙ no_descriptor pool h.descriptor body frame)
