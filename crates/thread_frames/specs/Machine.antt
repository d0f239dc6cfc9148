-- Which frame of the machine a frame is.
use Rattle.std.specs.Prelude.{◌≡◌, ◌≤◌, ◌∷◌, ℕ, List, [], Option, Some, None, length, map, reverse}
use Rattle.jv_model.specs.Operand.{MemberReference}
use Rattle.jv_types.specs.declared.number.MethodNo.{MethodNo}
use Rattle.machine_model.specs.Value as model
use Rattle.machine_model.specs.State.{Frame}
use Rattle.machine_model.specs.LocalStep.{Local}
use Rattle.local_runs.specs.Runs.{IsRun}
use Rattle.local_runs.specs.declared.run.Ran.{Ran}
use Rattle.jv_values.specs.declared.value.Value.{Value}
use Rattle.jv_values.specs.declared.value.Value.TheVariants.{Ref}
use Rattle.jv_values.specs.Values.{values_of}
use Rattle.thread_frames.specs.Frames.{FrameState}

abbrev pub held_in : Value → Option ℕ
held_in (Ref id) = Some id
held_in other = None

-- the operands from the top down
abbrev pub operands_of : FrameState → List model.Value
operands_of frame = values_of (reverse frame.stack)

-- the frame, whose method has this name
abbrev pub frame_named : MemberReference → FrameState → Frame
frame_named name frame = record {
  method = name;
  pc = frame.pc;
  held = held_in frame.held;
  locals = values_of frame.locals;
  stack = operands_of frame;
}

-- the frames of a thread, the newest first, where methods have these names
abbrev pub frames_named : (MethodNo → MemberReference) → List FrameState → List Frame
frames_named name frames =
    map (λ (frame : FrameState). frame_named (name frame.method) frame) frames

-- the words of a frame alone: a local step reads and changes neither its method nor its held receiver
abbrev pub words_frame : FrameState → Frame
words_frame frame = record {
  method = record { class = []; name = []; descriptor = [] };
  pc = frame.pc;
  held = None;
  locals = values_of frame.locals;
  stack = operands_of frame;
}

-- Local steps lead from one frame to the other. They leave its method, its held receiver and how
-- many words it has.
pub record RunsTo (step : Frame → Local) (max : ℕ) (ran : Ran) (frame now : FrameState) : Type 0 where
  pub same : now ≡ record frame { pc = now.pc; locals = now.locals; stack = now.stack }
  pub locals : length now.locals ≡ length frame.locals
  pub stack : length now.stack ≤ frame.max_stack
  pub run : IsRun step (words_frame frame) (words_frame now) max ran

-- the same of the newest frame, where the older ones stay
abbrev pub RunsNewest : (Frame → Local) → ℕ → Ran → List FrameState → List FrameState → Type 0
RunsNewest step max ran (frame ∷ older) (now ∷ others) =
    RunsTo step max ran frame now × (others ≡ older)
RunsNewest step max ran frames others = ⊥

-- the value on top of operands, where one is there
abbrev pub value_on_top : List model.Value → Option model.Value
value_on_top (model.half ∷ model.long n ∷ rest) = Some (model.long n)
value_on_top (model.half ∷ rest) = None
value_on_top (model.long n ∷ rest) = None
value_on_top (value ∷ rest) = Some value
value_on_top [] = None
