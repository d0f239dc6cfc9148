-- Where steps over fields begin.
use Rattle.std.specs.Prelude.{◌≡◌, ◌≤◌, ◌+◌, ℕ, true, false, Option, Some, option_and_then}
use Rattle.jv_model.specs.Instruction.{Instruction}
use Rattle.jv_model.specs.ClassData.{fieldref}
use Rattle.jv_model.specs.ConstantPool.{const_at}
use Rattle.world_model.specs.World.{World, Field, is_static_field}
use Rattle.world_model.specs.LookUp.{Found}
use Rattle.jv_types.specs.declared.number.ClassNo.{ClassNo}
use Rattle.jv_types.specs.declared.number.MethodNo.{MethodNo}
use Rattle.look_up_cache.specs.Kept.{Kept, StaysKept, kept_at, with_kept}
use Rattle.look_up_cache.specs.Targets.{a_field, most_steps, pool_at, target_at}
use Rattle.look_up_cache.specs.declared.slot.Slot.{Slot}
use Rattle.frame_stacks.specs.declared.thread.Thread.{Thread}
use Rattle.thread_frames.specs.Frames.{FrameState, newest}
use Rattle.machine_parts.specs.Parts.{Machine}
use Rattle.machine_parts.specs.Steps.{IsAt}

-- The thread is at an instruction that has the index of a Fieldref (JVMS 4.4.2).
pub record IsAtField (machine : Machine) (t next index : ℕ) (instruction : Instruction ℕ) : Type 0 where
  pub at : IsAt machine t next instruction
  pub class : ℕ
  pub pair : ℕ
  pub entry : const_at (pool_at machine.world at.frame.method.class) index ≡ fieldref class pair

-- The entry at an index of the pool of a class leads to a static field.
pub record LeadsToStatic (world : World) (class : ClassNo) (index : ℕ) : Type 0 where
  pub found : Found Field
  pub named : target_at world class index ≡ Some (a_field found)
  pub static : is_static_field found.member ≡ true

-- The entry at an index of the pool of a class leads to a field of objects.
pub record LeadsToPlace (world : World) (class : ClassNo) (index : ℕ) : Type 0 where
  pub found : Found Field
  pub named : target_at world class index ≡ Some (a_field found)
  pub own : is_static_field found.member ≡ false

-- What looking up the entry at an index of the pool of a class leaves. What stands for what it leads to is kept, and what
-- was kept is kept. What was kept there costs no step, and what wasn't at most as many as the named class has supertypes.
pub record IsLookedUp (world : World) (class : ClassNo) (index : ℕ) (old new : Kept) (before after : ℕ) : Type 0 where
  pub slot : Slot
  pub kept : new ≡ with_kept class index slot old
  pub stays : StaysKept old new
  pub once : (kept : Slot) → kept_at old class index ≡ Some kept → after ≡ before
  pub most : after ≤ before + most_steps world (pool_at world class) index

-- the method of a thread's newest frame
abbrev pub method_in : Option Thread → Option MethodNo
method_in thread = option_and_then (λ (th : Thread). option_and_then (λ (frame : FrameState). Some frame.method) (newest th.frames)) thread
