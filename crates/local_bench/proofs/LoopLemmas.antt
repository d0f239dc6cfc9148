-- No step of the loop is wrong: at each of its instructions the operands are those that it needs.
use Rattle.std.proofs.Common.{◌≡◌, ℕ, zero, suc, List, [], ◌∷◌, Bool, true, false, refl, sym, ap, ◌∙◌, subst}
use Rattle.std.specs.Prelude.{ℤ, Option, Some, None, map, find, ◌==◌, if◌then◌else◌, unwrap_or}
use Rattle.jv_model.specs.Operand.{Operand}
use Rattle.jv_model.specs.Partial.{◌>>=◌}
use Rattle.jv_model.specs.Code.{Placed, Body}
use Rattle.code_model.specs.Names.{named, named_placed}
use Rattle.jv_types.specs.declared.code.CodeBody.{CodeBody}
use Rattle.machine_model.specs.Arithmetic.{compares}
use Rattle.jv_model.specs.Instruction as instruction
use Rattle.machine_model.specs.Value.{Value, int}
use Rattle.machine_model.specs.State.{Frame}
use Rattle.machine_model.specs.LocalStep.{Local, goes_to, not_local, wrong, local_step_at, local_step_of}
use Rattle.jv_values.specs.declared.value.Value.{Value as Given}
use Rattle.jv_values.specs.declared.value.Value.TheVariants.{Int}
use Rattle.jv_values.specs.Values.{operands_in}
use Rattle.local_steps.specs.Steps.{with_room, IsRight, frame_in}
use Rattle.local_runs.specs.Places.{code_in, step_of, pc_at}
use Rattle.local_runs.specs.Runs.{frame_reached, frame_after, GoesRight, NeverWrong}
use Rattle.local_runs.proofs.PlaceLemmas.{room_only}
use Rattle.local_bench.specs.Loop.{loop, IsLoop}

-- a frame at a pc, with these locals and operands
abbrev pub frame : ℕ → ℤ → ℤ → ℤ → List Value → Frame
frame pc a b c stack = record {
  method = record { class = []; name = []; descriptor = [] };
  pc = pc;
  held = None;
  locals = int a ∷ int b ∷ int c ∷ [];
  stack = stack;
}

pub data At : Frame → Type 0 where
  at0 : (a b c : ℤ) → At (frame 0 a b c [])
  at3 : (a b c : ℤ) → At (frame 3 a b c [])
  at4 : (a b c x : ℤ) → At (frame 4 a b c (int x ∷ []))
  at5 : (a b c x y : ℤ) → At (frame 5 a b c (int y ∷ int x ∷ []))
  at6 : (a b c x : ℤ) → At (frame 6 a b c (int x ∷ []))
  at7 : (a b c : ℤ) → At (frame 7 a b c [])
  at8 : (a b c x : ℤ) → At (frame 8 a b c (int x ∷ []))
  at9 : (a b c x y : ℤ) → At (frame 9 a b c (int y ∷ int x ∷ []))
  at12 : (a b c : ℤ) → At (frame 12 a b c [])

-- a step leads to a frame of the loop, or there is none
abbrev pub Stays : Local → Type 0
Stays (goes_to after) = At after
Stays not_local = Unit {0}
Stays wrong = ⊥

abbrev loop_step : Frame → Local
loop_step before = local_step_at (with_room 2) before (find (λ (p : Placed Operand). p.pc == before.pc) (map (named_placed []) loop))

branched : (b : Bool) (a x c : ℤ) → At (frame (unwrap_or (if b then Some 0 else None) 12) a x c [])
branched true a x c = at0 a x c
branched false a x c = at12 a x c

stays : (before : Frame) → At before → Stays (loop_step before)
unfolding local_step_of
stays before (at0 a b c) = at3 a b _
stays before (at3 a b c) = at4 a b c b
stays before (at4 a b c x) = at5 a b c x c
stays before (at5 a b c x y) = at6 a b c _
stays before (at6 a b c x) = at7 a x c
stays before (at7 a b c) = at8 a b c c
stays before (at8 a b c x) = at9 a b c x a
stays before (at9 a b c x y) = branched (compares instruction.less x y) a b c
stays before (at12 a b c) = tt

-- ---- the loop in its code

room_of : (body : Body Operand) (before : Frame) (found : Option (Placed Operand)) → local_step_at body before found ≡ local_step_at (with_room body.max_stack) before found
room_of body before None = refl
room_of body before (Some placed) = room_only body placed before placed.instruction

step_is : (body : CodeBody) (before : Frame) → IsLoop body → step_of [] body before ≡ loop_step before
unfolding named
step_is body before is =
    room_of (code_in [] body) before _
    ∙ ap (λ words. local_step_at (with_room words) before (find (λ (p : Placed Operand). p.pc == before.pc) (map (named_placed []) body.instructions))) is.room
    ∙ ap (λ code. local_step_at (with_room 2) before (find (λ (p : Placed Operand). p.pc == before.pc) (map (named_placed []) code))) is.code

-- ---- steps, one after another

abbrev AtSome : Option Frame → Type 0
AtSome None = Unit {0}
AtSome (Some after) = At after

reached : (next : Local) → Stays next → AtSome (frame_reached next)
reached (goes_to after) h = h
reached not_local h = tt
reached wrong h = absurd h

onward : (step : Frame → Local) (found : Option Frame) → ((before : Frame) → At before → Stays (step before)) → AtSome found → AtSome (found >>= λ before. frame_reached (step before))
onward step None h at = tt
onward step (Some before) h at = reached (step before) (h before at)

after : (step : Frame → Local) (start : Frame) (n : ℕ) → ((before : Frame) → At before → Stays (step before)) → At start → AtSome (frame_after step start n)
after step start zero h at = at
after step start (suc n) h at = onward step (frame_after step start n) h (after step start n h at)

right : (next : Local) → Stays next → IsRight next
right (goes_to after) h = tt
right not_local h = tt
right wrong h = absurd h

goes_right : (step : Frame → Local) (found : Option Frame) → ((before : Frame) → At before → Stays (step before)) → AtSome found → GoesRight step found
goes_right step None h at = tt
goes_right step (Some before) h at = right (step before) (h before at)

pub never_wrong : (body : CodeBody) (start : Frame) → IsLoop body → At start → NeverWrong (step_of [] body) start
never_wrong body start is at n =
    let h : (before : Frame) → At before → Stays (step_of [] body before) = λ before its. subst Stays (sym (step_is body before is)) (stays before its) in
    goes_right (step_of [] body) (frame_after (step_of [] body) start n) h (after (step_of [] body) start n h at)

-- from its first instruction on
pub from_begin : (body : CodeBody) (a b c : ℤ) (words : List Given) → IsLoop body → NeverWrong (step_of [] body) (frame_in (pc_at body.instructions 0) (Int a ∷ Int b ∷ Int c ∷ []) words 0)
unfolding operands_in
from_begin body a b c words is =
    subst (λ (pc : ℕ). NeverWrong (step_of [] body) (frame pc a b c [])) (sym (ap (λ code. pc_at code 0) is.code)) (never_wrong body (frame 0 a b c []) is (at0 a b c))
