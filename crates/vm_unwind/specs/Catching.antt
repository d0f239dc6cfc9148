-- Which of the frames of a thread catches, with numbers in place of names.
use Rattle.std.specs.Prelude.{ℕ, ◌*◌, List, [], ◌∷◌, Bool, Option, Some, None, is_some, length, option_map, option_and_then, slice_get, unwrap_or}
use Rattle.std.specs.List.{sum_by}
use Rattle.world_model.specs.World.{World}
use Rattle.world_model.specs.Supertypes.{field_order}
use Rattle.world_model.specs.LookUp.{Found}
use Rattle.world_model.specs.World.{Method}
use Rattle.machine_model.specs.Throwing.{match_option}
use Rattle.class_world.specs.World.{method_at}
use Rattle.thread_frames.specs.Frames.{FrameState}
use Rattle.frame_stacks.specs.declared.thread.Thread.{Thread}
use Rattle.frame_stacks.specs.Threads.{Threads}
use Rattle.vm_throw.specs.Handlers.{rows_of, handler_found}
use Rattle.vm_unwind.specs.declared.catching.Catching.{Catching}

-- the frames of the thread with that number, the newest first
abbrev pub frames_of : Threads → ℕ → List FrameState
frames_of all t = unwrap_or (option_map (λ (thread : Thread). thread.frames) (slice_get all.threads t)) []

abbrev pub has_method : World → FrameState → Bool
has_method world frame = is_some (method_at world frame.method)

-- the place of the handler in the code of a frame's method
abbrev pub handler_at : World → List ℕ → FrameState → Option ℕ
handler_at world class frame =
    option_and_then (λ (found : Found Method). handler_found world found.member frame.pc class)
    (method_at world frame.method)

-- What is caught in the newest frame that has a handler: how many frames are below it, and the place where it goes on.
pub record Place : Type 0 where
  pub depth : ℕ
  pub target : ℕ

abbrev pub place_of : Catching → Place
place_of catching = record { depth = catching.depth; target = catching.target.0 }

abbrev pub place_in : World → List ℕ → List FrameState → Option Place
place_in world class [] = None
place_in world class (frame ∷ older) = match_option (handler_at world class frame)
    (λ target. Some (record { depth = length older; target = target }))
    (λ none. place_in world class older)

-- how many steps a search in a frame takes at the most
abbrev pub frame_steps : World → List ℕ → FrameState → ℕ
frame_steps world class frame =
    unwrap_or (option_map (λ (found : Found Method). length (rows_of found.member)) (method_at world frame.method)) 0
    * length (field_order world class)

abbrev pub most_steps : World → List ℕ → List FrameState → ℕ
most_steps world class frames = sum_by (frame_steps world class) frames
