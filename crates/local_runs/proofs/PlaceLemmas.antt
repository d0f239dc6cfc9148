-- The step of a frame at a place is the step of the instruction there.
use Rattle.std.proofs.Common.{rules, ◌≡◌, ℕ, suc, ◌+◌, ◌<◌, List, [], ◌∷◌, length, refl, sym, ap, ◌∙◌, subst, arith}
use Rattle.std.specs.Prelude.{Bool, true, false, Option, Some, None, IsSome, ◌==◌, cond, map, find, position, slice_get, option_map, unwrap_or, nat_le}
use Rattle.std.proofs.lemmas.Bool.{lt-leb}
use Rattle.jv_model.specs.ClassData.{Const as ModelConst}
use Rattle.jv_model.specs.Operand.{Operand, int_constant, long_constant}
use Rattle.jv_model.specs.Instruction.{Instruction, nop, ldc, ldc2_w}
use Rattle.jv_model.specs.Code.{Placed, Body}
use Rattle.code_model.specs.Names.{named, named_placed}
use Rattle.jv_types.specs.ClassData.{pool_of}
use Rattle.jv_types.specs.Instructions.{placed_of}
use Rattle.jv_types.specs.declared.code.CodeBody.{CodeBody}
use Rattle.jv_types.specs.declared.class_data.Const.{Const}
use Rattle.jv_types.specs.declared.instructions.Insn.{Insn}
use Rattle.machine_model.specs.State.{Frame}
use Rattle.machine_model.specs.LocalStep.{Local, goes_to, not_local, wrong, local_step_at, local_step_of}
use Rattle.jv_values.specs.declared.value.Value.{Value}
use Rattle.code_store.specs.Order.{Follows}
use Rattle.local_steps.specs.Steps.{frame_in, with_room, placed_at, step_in, named_instruction, IsRight, reached_in}
use Rattle.local_runs.specs.Places.{code_in, step_of, pc_at, frame_at, IsIn, CanGoOn}
use Rattle.local_steps.specs.declared.step.Next.{Next}
use Rattle.local_runs.specs.declared.step.Place.{Place}
use Rattle.local_runs.proofs.OrderLemmas.{behind, follows_named, named_at, found_at, next_found, position_found, some_within, find_passes, is_pc, pc_there}

-- a local step of an instruction reads no more of the code than its room
pub room_only : (body : Body Operand) (placed : Placed Operand) (frame : Frame) (i : Instruction Operand) → local_step_of body placed frame i ≡ local_step_of (with_room body.max_stack) placed frame i
unfolding local_step_of
room_only body placed frame nop = refl
room_only body placed frame (ldc (int_constant n)) = refl
room_only body placed frame (ldc2_w (long_constant n)) = refl
room_only body placed frame other = refl

step_at_pc : (pool : List Const) (body : CodeBody) (number : ℕ) (insn : Insn) (locals stack : List Value) (depth : ℕ) → Follows 0 body.instructions → slice_get body.instructions number ≡ Some (placed_of insn) → length stack ≡ body.max_stack → step_of pool body (frame_in insn.pc locals stack depth) ≡ step_in insn.pc insn.next (named_instruction (pool_of pool) insn.instruction) locals stack depth
unfolding named
step_at_pc pool body number insn locals stack depth order there room =
    let frame = frame_in insn.pc locals stack depth in
    let found = found_at 0 (map (named_placed (pool_of pool)) body.instructions) number (named_placed (pool_of pool) (placed_of insn)) (follows_named (pool_of pool) 0 body.instructions order) (named_at (pool_of pool) body.instructions number (placed_of insn) there) in
    ap (local_step_at (code_in pool body) frame) found
    ∙ room_only (code_in pool body) (placed_at insn.pc insn.next (named_instruction (pool_of pool) insn.instruction)) frame (named_instruction (pool_of pool) insn.instruction)
    ∙ ap (λ words. local_step_of (with_room words) (placed_at insn.pc insn.next (named_instruction (pool_of pool) insn.instruction)) frame (named_instruction (pool_of pool) insn.instruction)) (sym room)

pub step_is : (pool : List Const) (body : CodeBody) (number : ℕ) (insn : Insn) (locals stack : List Value) (depth : ℕ) → Follows 0 body.instructions → slice_get body.instructions number ≡ Some (placed_of insn) → length stack ≡ body.max_stack → step_of pool body (frame_in (pc_at body.instructions number) locals stack depth) ≡ step_in insn.pc insn.next (named_instruction (pool_of pool) insn.instruction) locals stack depth
step_is pool body number insn locals stack depth order there room =
    ap (λ pc. step_of pool body (frame_in pc locals stack depth)) (pc_there body.instructions number (placed_of insn) there)
    ∙ step_at_pc pool body number insn locals stack depth order there room

-- ---- a frame whose step isn't wrong stands at an instruction

choice_mapped : {A B : Type 0} (f : A → B) (b : Bool) (x : A) (o : Option A) (p : Option B) → p ≡ option_map f o → cond b (Some (f x)) p ≡ option_map f (cond b (Some x) o)
choice_mapped f true x o p e = refl
choice_mapped f false x o p e = e

find_named : (pool : List ModelConst) (pc : ℕ) (xs : List (Placed ℕ)) → find (λ (i : Placed Operand). i.pc == pc) (map (named_placed pool) xs) ≡ option_map (named_placed pool) (find (λ (i : Placed ℕ). i.pc == pc) xs)
find_named pool pc [] = refl
find_named pool pc (x ∷ xs) =
    choice_mapped (named_placed pool) (x.pc == pc) x (find (λ (i : Placed ℕ). i.pc == pc) xs) _ (find_named pool pc xs)

placed_some : (body : Body Operand) (frame : Frame) (found : Option (Placed ℕ)) (pool : List ModelConst) → IsRight (local_step_at body frame (option_map (named_placed pool) found)) → (placed : Placed ℕ) × (found ≡ Some placed)
placed_some body frame None pool h = absurd h
placed_some body frame (Some placed) pool h = (placed, refl)

pub stands : (pool : List Const) (body : CodeBody) (pc : ℕ) (locals stack : List Value) (depth : ℕ) → IsRight (step_of pool body (frame_in pc locals stack depth)) → (placed : Placed ℕ) × (find (λ (i : Placed ℕ). i.pc == pc) body.instructions ≡ Some placed)
unfolding named
stands pool body pc locals stack depth h =
    placed_some (code_in pool body) (frame_in pc locals stack depth) (find (λ (i : Placed ℕ). i.pc == pc) body.instructions) (pool_of pool)
    (subst (λ found. IsRight (local_step_at (code_in pool body) (frame_in pc locals stack depth) found)) (find_named (pool_of pool) pc body.instructions) h)

-- the next instruction, where code goes on there
pub next_number : (pool : List Const) (body : CodeBody) (number : ℕ) (insn : Insn) (locals stack : List Value) (depth : ℕ) → Follows 0 body.instructions → slice_get body.instructions number ≡ Some (placed_of insn) → IsRight (step_of pool body (frame_in insn.next locals stack depth)) → (number + 1 < length body.instructions) × (pc_at body.instructions (number + 1) ≡ insn.next)
next_number pool body number insn locals stack depth order there right =
    let found = stands pool body insn.next locals stack depth right in
    let at = next_found 0 body.instructions number (placed_of insn) found.0 order there found.1 in
    let same : suc number ≡ number + 1 = omega arith in
    let next = subst (λ n. slice_get body.instructions n ≡ Some found.0) same at in (
      some_within body.instructions (number + 1) found.0 next,
      pc_there body.instructions (number + 1) found.0 next
          ∙ is_pc found.0.pc insn.next (find_passes (λ (i : Placed ℕ). i.pc == insn.next) body.instructions found.0 found.1),
    )

some_of : {A : Type 0} (o : Option A) → IsSome o → (x : A) × (o ≡ Some x)
some_of None h = absurd cc
some_of (Some x) h = (x, refl)

-- a number that was found is that of an instruction at the pc
pub number_found : (xs : List (Placed ℕ)) (pc : ℕ) → IsSome (find (λ (i : Placed ℕ). i.pc == pc) xs) → (placed : Placed ℕ) × (find (λ (i : Placed ℕ). i.pc == pc) xs ≡ Some placed)
number_found xs pc h = some_of (find (λ (i : Placed ℕ). i.pc == pc) xs) h

pub number_pc : (xs : List (Placed ℕ)) (pc number : ℕ) (placed : Placed ℕ) → find (λ (i : Placed ℕ). i.pc == pc) xs ≡ Some placed → Some number ≡ position (λ (i : Placed ℕ). i.pc == pc) xs → (number < length xs) × (pc_at xs number ≡ pc)
number_pc xs pc number placed found at =
    let is = position_found (λ (i : Placed ℕ). i.pc == pc) xs placed found in
    let same : is.0 ≡ number = let both = at ∙ is.1 in cc in
    let there = subst (λ n. slice_get xs n ≡ Some placed) same is.2 in (
      some_within xs number placed there,
      pc_there xs number placed there ∙ is_pc placed.pc pc (find_passes (λ (i : Placed ℕ). i.pc == pc) xs placed found),
    )

-- ---- a step at a place

pub first_right : (step : Frame → Local) (next : Local) → CanGoOn step next → IsRight next
first_right step (goes_to frame) h = tt
first_right step not_local h = tt
first_right step wrong h = h

pub is_some : {A : Type 0} (o : Option A) (x : A) → o ≡ Some x → IsSome o
is_some None x h = absurd cc
is_some (Some y) x h = search rules

-- the step after a step isn't wrong
pub after_right : (pool : List Const) (body : CodeBody) (place : Place) (insn : Insn) (locals stack changed after : List Value) (next : Next) → IsIn body place → length stack ≡ body.max_stack → slice_get body.instructions place.number ≡ Some (placed_of insn) → CanGoOn (step_of pool body) (step_of pool body (frame_at body place locals stack)) → step_in insn.pc insn.next (named_instruction (pool_of pool) insn.instruction) locals stack place.depth ≡ reached_in insn.next changed after (Some next) → IsRight (step_of pool body (frame_in (unwrap_or next.target insn.next) changed after next.depth))
after_right pool body place insn locals stack changed after next at room there right reached =
    subst (CanGoOn (step_of pool body)) (step_is pool body place.number insn locals stack place.depth at.order there room ∙ reached) right

-- where it doesn't branch it goes on at the next number
pub onward : (pool : List Const) (body : CodeBody) (place : Place) (insn : Insn) (locals stack changed after : List Value) (next : Next) → IsIn body place → length stack ≡ body.max_stack → slice_get body.instructions place.number ≡ Some (placed_of insn) → CanGoOn (step_of pool body) (step_of pool body (frame_at body place locals stack)) → step_in insn.pc insn.next (named_instruction (pool_of pool) insn.instruction) locals stack place.depth ≡ reached_in insn.next changed after (Some next) → next.target ≡ None → (place.number + 1 < length body.instructions) × (pc_at body.instructions (place.number + 1) ≡ insn.next)
onward pool body place insn locals stack changed after next at room there right reached none =
    next_number pool body place.number insn changed after next.depth at.order there
    (subst (λ target. IsRight (step_of pool body (frame_in (unwrap_or target insn.next) changed after next.depth))) none (after_right pool body place insn locals stack changed after next at room there right reached))

-- where it branches there is an instruction
pub branched_to : (pool : List Const) (body : CodeBody) (place : Place) (insn : Insn) (locals stack changed after : List Value) (next : Next) (target : ℕ) → IsIn body place → length stack ≡ body.max_stack → slice_get body.instructions place.number ≡ Some (placed_of insn) → CanGoOn (step_of pool body) (step_of pool body (frame_at body place locals stack)) → step_in insn.pc insn.next (named_instruction (pool_of pool) insn.instruction) locals stack place.depth ≡ reached_in insn.next changed after (Some next) → next.target ≡ Some target → IsSome (find (λ (i : Placed ℕ). i.pc == target) body.instructions)
branched_to pool body place insn locals stack changed after next target at room there right reached taken =
    let stood = stands pool body target changed after next.depth (subst (λ t. IsRight (step_of pool body (frame_in (unwrap_or t insn.next) changed after next.depth))) taken (after_right pool body place insn locals stack changed after next at room there right reached)) in
    is_some _ stood.0 stood.1

-- the step reaches the place with that number
pub reached_at : (pool : List Const) (body : CodeBody) (place : Place) (insn : Insn) (locals stack changed after : List Value) (next : Next) (number : ℕ) → IsIn body place → length stack ≡ body.max_stack → slice_get body.instructions place.number ≡ Some (placed_of insn) → step_in insn.pc insn.next (named_instruction (pool_of pool) insn.instruction) locals stack place.depth ≡ reached_in insn.next changed after (Some next) → pc_at body.instructions number ≡ unwrap_or next.target insn.next → step_of pool body (frame_at body place locals stack) ≡ goes_to (frame_in (pc_at body.instructions number) changed after next.depth)
reached_at pool body place insn locals stack changed after next number at room there reached pc =
    step_is pool body place.number insn locals stack place.depth at.order there room
    ∙ reached
    ∙ ap (λ p. goes_to (frame_in p changed after next.depth)) (sym pc)

-- code that goes on doesn't go back
pub onward_mark : (body : CodeBody) (place : Place) (stack : List Value) (insn : Insn) → IsIn body place → length stack ≡ body.max_stack → slice_get body.instructions place.number ≡ Some (placed_of insn) → pc_at body.instructions (place.number + 1) ≡ insn.next → false ≡ nat_le (pc_at body.instructions (place.number + 1)) (pc_at body.instructions place.number)
onward_mark body place stack insn at room there next =
    let before = pc_there body.instructions place.number (placed_of insn) there in
    let lies = behind 0 body.instructions place.number (placed_of insn) at.order there in
    sym (lt-leb _ _ (omega (arith, before, lies.1, next)))
