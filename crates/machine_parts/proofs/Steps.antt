-- A step that stays in its frame.
use Rattle.std.proofs.Common.{◌≡◌, ◌≢◌, ℕ, ◌≤◌, ◌==◌, Bool, true, false, List, [], ◌∷◌, Option, Some, None, length, refl, ap, sym, subst, ◌∙◌, inl, inr, arith}
use Rattle.std.specs.Prelude.{IsTrue, if◌then◌else◌, nat_le}
use Rattle.std.proofs.lemmas.Bool.{or_cases, leb-true}
use Rattle.jv_model.specs.Descriptors.{FieldType}
use Rattle.jv_model.specs.ClassData.{Const}
use Rattle.jv_model.specs.Operand.{Operand}
use Rattle.jv_model.specs.Instruction.{Instruction}
use Rattle.jv_model.specs.Code.{Body}
use Rattle.code_model.specs.Names.{operand_at}
use Rattle.code_model.specs.MappedInstruction.{mapped_instruction}
use Rattle.world_model.specs.World.{World}
use Rattle.machine_model.specs.Value as model
use Rattle.machine_model.specs.State as model_state
use Rattle.machine_model.specs.State.{State}
use Rattle.machine_model.specs.Heap.{replace_at}
use Rattle.machine_model.specs.Reach.{ids_in}
use Rattle.machine_model.specs.LocalStep.{not_local, local_step_of}
use Rattle.machine_model.specs.Deed.{Deed, does, wrong, Running, operands, with_frames, frame_after, has_room, finishes, ◌>>=◌}
use Rattle.machine_model.specs.SharedStep.{deed_of, shared_step}
use Rattle.code_marks.specs.Marks.{mark_at}
use Rattle.look_up_cache.specs.Targets.{pool_at}
use Rattle.jv_values.specs.declared.value.Value.{Value}
use Rattle.jv_values.specs.Values.{values_of}
use Rattle.thread_frames.specs.Frames.{FrameState, change_newest}
use Rattle.frame_stacks.specs.declared.thread.Thread.{Thread}
use Rattle.frame_stacks.specs.Threads.{change_thread}
use Rattle.heap_objects.specs.Ids.{Ids, ids_of, are_live}
use Rattle.member_names.specs.Names.{IsOrderly, code_at}
use Rattle.machine_threads.specs.Threads.{Marks, IsFrame, AreFrames, AreThreads, HaveEnded}
use Rattle.machine_threads.specs.Laws.{frame_in, frames_in, with_rest, goes_to, with_newest, marked_as, running_of}
use Rattle.machine_threads.proofs.Going.{each_replaced, threads_go_on}
use Rattle.machine_threads.proofs.Deeds.{deeds_are_at_instructions}
use Rattle.machine_parts.specs.Parts.{Machine, StandsFor}
use Rattle.machine_parts.specs.Steps.{IsAt, IsDone}
use Rattle.machine_parts.proofs.Operands.{tops, length-tops}

-- where a deed isn't wrong, what it asks for is there
pub some_by : {A : Type 0} (o : Option A) (next : A → Deed) → ((o >>= next) ≢ wrong) → (a : A) × (o ≡ Some a)
some_by None next right = absurd (right refl)
some_by (Some a) next right = (a, refl)

length-newest : (f : FrameState → FrameState) (frames : List FrameState) → length (change_newest f frames) ≡ length frames
length-newest f [] = refl
length-newest f (frame ∷ older) = refl

module _ (machine : Machine) (t next : ℕ) (instruction : Instruction ℕ) (at : IsAt machine t next instruction)
    (types : List FieldType) (state : State) (stands : StandsFor types machine state) where
  abbrev pub ids : Ids
  ids = ids_of machine.heap

  abbrev pub marks : Marks
  marks = mark_at machine.versions.marks

  abbrev pub pool : List Const
  pool = pool_at machine.world at.frame.method.class

  pub world_is : machine.world ≡ state.world
  world_is = stands.parts.world

  pub orderly : IsOrderly state.world
  orderly = subst IsOrderly world_is stands.orderly

  pub threads_are : AreThreads state.world marks ids machine.stacks state.threads
  threads_are = subst (λ (w : World). AreThreads w marks ids machine.stacks state.threads) world_is stands.parts.threads

  code_is : code_at state.world at.frame.method ≡ Some at.body
  code_is = ap (λ (w : World). code_at w at.frame.method) (sym world_is) ∙ at.code

  abbrev pub running : Running
  running = running_of state t ids at.frame at.older at.body at.placed

  -- what the thread comes to is what its instruction says
  pub deed_is : (own : Instruction Operand) → mapped_instruction (operand_at pool) instruction ≡ own
      → local_step_of at.body at.placed (frame_in state.world ids at.frame) own ≡ not_local
      → deed_of state t ≡ shared_step running own
  deed_is own is apart =
      let named = at.names ∙ is in
      deeds_are_at_instructions state marks ids machine.stacks t at.frame at.older at.body at.placed orderly threads_are at.newest
      code_is at.at (ap (local_step_of at.body at.placed (frame_in state.world ids at.frame)) named ∙ apart)
      ∙ ap (shared_step running) named

  pub frame_is : IsFrame state.world marks ids at.frame
  frame_is =
      let one = threads_are.each t at.newest.thread at.newest.there in
      (subst (AreFrames state.world marks ids) at.newest.frames one.frames).0

  room_is : at.frame.max_stack ≡ at.body.max_stack
  room_is =
      let both : Some frame_is.body ≡ Some at.body = sym frame_is.code ∙ code_is in
      let same : frame_is.body ≡ at.body = cc in
      frame_is.operands ∙ ap (λ (b : Body Operand). b.max_stack) same

  -- operands for which the definitions have room the frame has room for
  pub fits : (words : List Value) (rest : List model.Value) → tops ids.id words ≡ rest
      → has_room at.body (operands running) rest ≡ true → length words ≤ at.frame.max_stack
  fits words rest is room =
      let long : length rest ≡ length words = ap length (sym is) ∙ length-tops ids.id words in
      let before : length (operands running) ≡ length at.frame.stack = length-tops ids.id at.frame.stack in
      elim (or_cases (nat_le (length rest) at.body.max_stack) (nat_le (length rest) (length (operands running))) room) [
        | inl few ↦ omega (arith, long, room_is, leb-true (length rest) at.body.max_stack few)
        | inr less ↦ omega (arith, long, before, frame_is.within, leb-true (length rest) (length (operands running)) less)
      ]

  ended : (words : List Value) (mark : Bool) → HaveEnded (change_thread t (goes_to next words mark) machine.stacks)
  ended words mark =
      each_replaced (λ (thread : Thread). thread.ended ≡ (length thread.frames == 0)) (goes_to next words mark) machine.stacks.threads t
      at.newest.thread at.newest.there
      (stands.ended t at.newest.thread at.newest.there
      ∙ ap (λ n. n == 0) (sym (length-newest (with_rest next words) at.newest.thread.frames)))
      stands.ended

  -- where the frame goes on with these operands, and the rest of the machine is in the rest of the state, the step is done
  pub finish_is_done : (after_machine : Machine) (after : State) (asked : ℕ) (mark : Bool) (words : List Value) (rest : List model.Value)
      → after.threads ≡ state.threads → tops ids.id words ≡ rest → IsTrue (are_live ids (ids_in (values_of words)))
      → ((threads : List model_state.Thread)
      → AreThreads state.world marks ids (change_thread t (goes_to next words mark) machine.stacks) threads
      → HaveEnded (change_thread t (goes_to next words mark) machine.stacks)
      → StandsFor types after_machine (record after { threads = threads }))
      → IsDone types t after_machine (finishes asked mark running after rest)
  finish_is_done after_machine after asked mark words rest same is live made = by (has_room at.body (operands running) rest) refl
    where
      by : (b : Bool) → has_room at.body (operands running) rest ≡ b
          → IsDone types t after_machine
          (if b then does asked mark (with_frames running (frame_after running rest ∷ running.callers) after) else wrong)
      by false none = tt
      by true room =
          let went = threads_go_on state.world marks ids machine.stacks state.threads t at.frame at.older next words mark threads_are
          at.newest (fits words rest is room) live in
          subst (λ (threads : List model_state.Thread). StandsFor types after_machine (record after { threads = threads }))
          (λ i. replace_at (marked_as mark) (replace_at (with_newest
          (record (frame_in state.world ids at.frame) { pc = sym at.goes i; stack = is i })
          (frames_in state.world ids at.older)) (sym same i) t) t)
          (made _ went (ended words mark))
