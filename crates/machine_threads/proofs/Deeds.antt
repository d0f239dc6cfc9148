-- What the next instruction of a thread comes to.
use Rattle.std.proofs.Common.{◌≡◌, List, Option, Some, None, slice_get, refl, ap, sym, ◌∙◌}
use Rattle.std.specs.Prelude.{option_map, option_and_then}
use Rattle.std.proofs.lemmas.Option.{slice_get-map}
use Rattle.jv_model.specs.Operand.{Operand}
use Rattle.jv_model.specs.Code.{Body, Placed}
use Rattle.world_model.specs.World.{World, Method}
use Rattle.world_model.specs.LookUp.{Found}
use Rattle.world_model.specs.Members.{body_of}
use Rattle.machine_model.specs.State as model
use Rattle.machine_model.specs.State.{State}
use Rattle.machine_model.specs.LocalStep.{local_step_of, instruction_at}
use Rattle.machine_model.specs.Deed.{◌>>=◌}
use Rattle.machine_model.specs.SharedStep.{deed_of, deed_at, deed_of_frames}
use Rattle.jv_types.specs.declared.number.MethodNo.{MethodNo}
use Rattle.class_world.specs.World.{method_at}
use Rattle.thread_frames.specs.Frames.{FrameState}
use Rattle.frame_stacks.specs.declared.thread.Thread.{Thread}
use Rattle.heap_objects.specs.Ids.{thread_by}
use Rattle.member_names.specs.Names.{IsOrderly, method_name, code_at}
use Rattle.member_names.proofs.Named.{methods_are_named}
use Rattle.machine_threads.specs.Threads.{thread_in, threads_in}
use Rattle.machine_threads.specs.Laws.{frame_in, frames_in, running_of, DeedsAreAtInstructions}

-- the code of a number is that of its name
pub body_named : (world : World) (orderly : IsOrderly world) (method : MethodNo) (body : Body Operand)
    → code_at world method ≡ Some body → body_of world (method_name world method) ≡ Some body
body_named world orderly method body at = of (method_at world method) refl at
  where
    of : (o : Option (Found Method)) → method_at world method ≡ o
        → option_and_then (λ (found : Found Method). found.member.code) o ≡ Some body
        → body_of world (method_name world method) ≡ Some body
    of None there is = absurd cc
    of (Some found) there is =
        ap (option_and_then (λ (m : Method). m.code)) (methods_are_named world orderly method found there) ∙ is

pub deeds_are_at_instructions : DeedsAreAtInstructions
unfolding deed_of
deeds_are_at_instructions state marks ids stacks t frame older body placed orderly are newest code at apart =
    let named : Thread → model.Thread = λ th. thread_by ids.id (thread_in state.world th) in
    let thread_at : slice_get state.threads t ≡ Some (named newest.thread) =
    ap (λ (l : List model.Thread). slice_get l t) (sym are.same)
    ∙ slice_get-map (thread_by ids.id) (threads_in state.world stacks) t
    ∙ ap (option_map (thread_by ids.id)) (slice_get-map (thread_in state.world) stacks.threads t
    ∙ ap (option_map (thread_in state.world)) newest.there) in
    let running = running_of state t ids frame older body placed in
    ap (λ (o : Option model.Thread). o >>= λ (thread : model.Thread). deed_of_frames state t thread.frames) thread_at
    ∙ ap (λ (frames : List FrameState). deed_of_frames state t (frames_in state.world ids frames)) newest.frames
    ∙ ap (λ (o : Option (Body Operand)). o >>= λ (b : Body Operand). instruction_at b frame.pc >>= λ (p : Placed Operand).
    deed_at (record running { body = b; placed = p }) (local_step_of b p (frame_in state.world ids frame) p.instruction))
    (body_named state.world orderly frame.method body code)
    ∙ ap (λ (o : Option (Placed Operand)). o >>= λ (p : Placed Operand).
    deed_at (record running { placed = p }) (local_step_of body p (frame_in state.world ids frame) p.instruction)) at
    ∙ ap (deed_at running) apart
