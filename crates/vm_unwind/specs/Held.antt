-- The monitor that the method of a frame holds, where it's synchronized (JVMS 2.11.10).
use Rattle.std.specs.Prelude.{◌≡◌, ℕ, if◌then◌else◌, Option, Some, None}
use Rattle.world_model.specs.World.{World, Method}
use Rattle.world_model.specs.LookUp.{Found}
use Rattle.machine_model.specs.State.{Frame}
use Rattle.machine_model.specs.Monitors.{is_synchronized}
use Rattle.machine_model.specs.Throwing.{is_synchronized_frame}
use Rattle.jv_types.specs.declared.number.ClassNo.{ClassNo}
use Rattle.jv_types.specs.declared.number.MethodNo.{MethodNo}
use Rattle.class_world.specs.World.{method_at, name_at}
use Rattle.jv_values.specs.declared.value.Value.{Value}
use Rattle.thread_frames.specs.Frames.{FrameState}
use Rattle.thread_frames.specs.Machine.{held_in}
use Rattle.vm_unwind.specs.Names.{HasMethodsOnce, IsAtPlaceOf}
use Rattle.vm_unwind.specs.declared.held.HeldMonitor.{HeldMonitor}
use Rattle.vm_unwind.specs.declared.held.HeldMonitor.TheVariants.{OfObject, OfClass}

-- the receiver's, or where none is held the class's own
abbrev pub held_or_class : ClassNo → Option ℕ → HeldMonitor
held_or_class class None = OfClass class
held_or_class class (Some address) = OfObject (record { 0 = address })

abbrev pub monitor_held : Method → MethodNo → Value → Option HeldMonitor
monitor_held member method held =
    if is_synchronized member then Some (held_or_class method.class (held_in held)) else None

-- What a frame of the definitions says of the monitor that it holds is what its method by number says.
pub record HoldsAsDefined (world : World) (own : FrameState) (frame : Frame) (found : Found Method) : Type 0 where
  pub synchronized : is_synchronized_frame world frame ≡ is_synchronized found.member
  pub class : name_at world own.method.class ≡ frame.method.class

abbrev pub FramesHoldAsDefined : Type 0
FramesHoldAsDefined = (world : World) (own : FrameState) (frame : Frame) (found : Found Method) → HasMethodsOnce world
    → IsAtPlaceOf world own frame → method_at world own.method ≡ Some found → HoldsAsDefined world own frame found
