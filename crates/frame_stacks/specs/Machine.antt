-- Which thread of the machine a thread is.
use Rattle.std.specs.Prelude.{ℕ, List, map, option_map}
use Rattle.jv_model.specs.Operand.{MemberReference}
use Rattle.jv_types.specs.declared.number.MethodNo.{MethodNo}
use Rattle.jv_types.specs.declared.number.ClassNo.{ClassNo}
use Rattle.machine_model.specs.State as model
use Rattle.thread_frames.specs.Machine.{frames_named}
use Rattle.frame_stacks.specs.declared.thread.Thread.{Thread}

-- the thread, where methods and classes have these names
abbrev pub thread_named :
    (MethodNo → MemberReference) → (ClassNo → List ℕ) → Thread → model.Thread
thread_named method_name class_name thread = record {
  frames = frames_named method_name thread.frames;
  to_start = map method_name thread.to_start;
  mark = thread.mark;
  thrown = option_map class_name thread.thrown;
}
