-- Where a step of a machine begins, and what it leaves.
use Rattle.std.specs.Prelude.{◌≡◌, ◌≢◌, ℕ, List, ⊤, Some}
use Rattle.jv_model.specs.Descriptors.{FieldType}
use Rattle.jv_model.specs.Operand.{Operand}
use Rattle.jv_model.specs.Instruction.{Instruction}
use Rattle.jv_model.specs.Code.{Body, Placed}
use Rattle.code_model.specs.Names.{operand_at}
use Rattle.code_model.specs.MappedInstruction.{mapped_instruction}
use Rattle.machine_model.specs.State.{State}
use Rattle.machine_model.specs.LocalStep.{instruction_at}
use Rattle.machine_model.specs.Deed.{Deed, does, wrong}
use Rattle.machine_model.specs.SharedStep.{deed_of}
use Rattle.machine_model.specs.Step.{marked}
use Rattle.look_up_cache.specs.Targets.{pool_at}
use Rattle.thread_frames.specs.Frames.{FrameState}
use Rattle.member_names.specs.Names.{code_at}
use Rattle.machine_threads.specs.Laws.{IsNewest}
use Rattle.machine_parts.specs.Parts.{Machine, StandsFor}

-- The newest frame of a thread is at this instruction of its code, and the next one is at that place. What the instruction's
-- index names is what stands there in the pool of the class of the frame's method.
pub record IsAt (machine : Machine) (t next : ℕ) (instruction : Instruction ℕ) : Type 0 where
  pub frame : FrameState
  pub older : List FrameState
  pub newest : IsNewest machine.stacks t frame older
  pub body : Body Operand
  pub placed : Placed Operand
  pub code : code_at machine.world frame.method ≡ Some body
  pub at : instruction_at body frame.pc ≡ Some placed
  pub goes : placed.next ≡ next
  pub names : placed.instruction ≡ mapped_instruction (operand_at (pool_at machine.world frame.method.class)) instruction

-- The machine is in a state in which the next instruction of a thread isn't wrong.
pub record CanStep (machine : Machine) (t : ℕ) : Type 0 where
  pub types : List FieldType
  pub state : State
  pub stands : StandsFor types machine state
  pub right : deed_of state t ≢ wrong

-- What a thread did is done: the machine is in the state that the deed leaves, with the thread's mark. Of a deed that is
-- wrong nothing is said.
abbrev pub IsDone : List FieldType → ℕ → Machine → Deed → Type 0
IsDone types t machine (does words mark state) = StandsFor types machine (marked t mark state)
IsDone types t machine wrong = ⊤
IsDone types t machine other = ⊥

-- From whichever state the one machine is in, the next instruction of a thread leads to one that the other machine is in.
abbrev pub Makes : ℕ → Machine → Machine → Type 0
Makes t old new =
    (types : List FieldType) (state : State) → StandsFor types old state → IsDone types t new (deed_of state t)
