-- The steps of thread 0 through a straight line.
use Rattle.std.proofs.Common.{◌≡◌, ℕ, ◌+◌, ◌≤◌, Bool, true, false, cond, eqb, eq-eqb, leb, List, [], ◌∷◌, ◌++◌, length, map, Option, Some, None, refl, sym, ap, subst, ◌∙◌, append_assoc, add-zero, arith}
use Rattle.std.specs.Prelude.{IsTrue}
use Rattle.std.specs.List.{find}
use Rattle.std.proofs.Math.Dec.{eqb-suc-zero}
use Rattle.std.specs.Option.{option_map_or}
use Rattle.std.proofs.lemmas.List.{append-nil, length-map}
use Rattle.std.proofs.lemmas.Bool.{ne_eqb}
use Rattle.jv_model.specs.Partial.{◌>>=◌}
use Rattle.straight_line_model.specs.IntOperation.{int_result, int_negated}
use Rattle.straight_line_model.specs.Instruction.{Instruction, constant, arithmetic, negate, pop, get_out, print_line, return, Placed}
use Rattle.straight_line_model.specs.OperandStack.{Value, int, print_stream, type_of, ValueType, within}
use Rattle.straight_line_model.specs.Effect.{goes_on, printed_line, effect_of}
use Rattle.straight_line_model.specs.StraightLine.{types_after, is_return, is_straight, FollowEachOther}
use Rattle.straight_line_model.specs.Machine.{Program, Machine, step, steps_of}
use Rattle.straight_line.specs.Runs.{State, after, after_all}

-- ---- the instruction at a place

place_not_before : (place : ℕ) (before : List Placed) (placed : Placed) (others : List Placed)
    → FollowEachOther place (before ++ placed ∷ others) → place ≤ placed.pc
place_not_before place [] placed others follow = omega (arith, follow.0)
place_not_before place (first ∷ before) placed others follow = let later =
    place_not_before first.next before placed others follow.2 in
    omega (arith, follow.0, follow.1, later)

pub find_placed : (place : ℕ) (before : List Placed) (placed : Placed) (others : List Placed)
    → FollowEachOther place (before ++ placed ∷ others)
    → find (λ i. eqb i.pc placed.pc) (before ++ placed ∷ others) ≡ Some placed
find_placed place [] placed others follow = rw (eq-eqb placed.pc placed.pc refl) refl
find_placed place (first ∷ before) placed others follow =
    let later = place_not_before first.next before placed others follow.2 in
    rw (ne_eqb first.pc placed.pc (λ same. omega (arith, same, follow.1, later)))
    (find_placed first.next before placed others follow.2)

-- ---- what an instruction does, by the types of its operands

pub record GoesOn (instruction : Instruction) (stack : List Value) (types : List ValueType) : Type 0
  where
    pub operands : List Value
    pub bytes : List ℕ
    pub is : effect_of instruction stack ≡ Some (goes_on operands bytes)
    pub typed : map type_of operands ≡ types

goes : (instruction : Instruction) (stack operands : List Value) (bytes : List ℕ)
    (types : List ValueType) → effect_of instruction stack ≡ Some (goes_on operands bytes)
    → ◌≡◌ {A = Option (List ValueType)} (Some (map type_of operands)) (Some types)
    → GoesOn instruction stack types
goes instruction stack operands bytes types is typed =
    record { operands = operands; bytes = bytes; is = is; typed = cc }

pub goes_on_typed : (instruction : Instruction) (stack : List Value) (types : List ValueType)
    → types_after instruction (map type_of stack) ≡ Some types → GoesOn instruction stack types
goes_on_typed (constant value) stack types typed =
    goes _ stack (int value ∷ stack) [] types refl typed
goes_on_typed (arithmetic operation) [] types typed = absurd cc
goes_on_typed (arithmetic operation) (print_stream ∷ stack) types typed = absurd cc
goes_on_typed (arithmetic operation) (int b ∷ []) types typed = absurd cc
goes_on_typed (arithmetic operation) (int b ∷ print_stream ∷ stack) types typed = absurd cc
goes_on_typed (arithmetic operation) (int b ∷ int a ∷ stack) types typed =
    goes _ _ (int (int_result operation a b) ∷ stack) [] types refl typed
goes_on_typed negate [] types typed = absurd cc
goes_on_typed negate (print_stream ∷ stack) types typed = absurd cc
goes_on_typed negate (int a ∷ stack) types typed =
    goes _ _ (int (int_negated a) ∷ stack) [] types refl typed
goes_on_typed pop [] types typed = absurd cc
goes_on_typed pop (operand ∷ stack) types typed = goes _ _ stack [] types refl typed
goes_on_typed get_out stack types typed = goes _ stack (print_stream ∷ stack) [] types refl typed
goes_on_typed print_line [] types typed = absurd cc
goes_on_typed print_line (print_stream ∷ stack) types typed = absurd cc
goes_on_typed print_line (int value ∷ []) types typed = absurd cc
goes_on_typed print_line (int value ∷ int other ∷ stack) types typed = absurd cc
goes_on_typed print_line (int value ∷ print_stream ∷ stack) types typed =
    goes _ _ stack (printed_line value) types refl typed
goes_on_typed return stack types typed = absurd cc

-- ---- the steps

-- thread 0 in its main before the first of these instructions, or ended where there is none
abbrev pub machine_at : Program → List Placed → State → ℕ → Machine
machine_at program [] state steps =
    record {
      program = program;
      threads = record { frames = [] } ∷ [];
      output =
          state.output;
      steps = steps;
    }
machine_at program (first ∷ others) state steps =
    record {
      program = program;
      threads =
          record { frames = record { pc = first.pc; stack = state.stack } ∷ [] } ∷ [];
      output =
          state.output;
      steps = steps;
    }

-- what is left to run is a straight line from these operands on
abbrev pub IsReady : ℕ → List Value → List Placed → Type 0
IsReady max_stack stack [] = Unit {0}
IsReady max_stack stack (first ∷ others) =
    IsTrue (is_straight max_stack (map type_of stack) (first ∷ others))

-- thread 0 runs the instruction, and is before the others
record OneStep (program : Program) (first : Placed) (others : List Placed) (state : State)
    (steps : ℕ) : Type 0 where
  next : State
  ran : after first.instruction state ≡ Some next
  is : step 0 (machine_at program (first ∷ others) state steps)
      ≡ Some (machine_at program others next (steps + 1))
  ready : IsReady program.main.max_stack next.stack others

return_is : (instruction : Instruction) → IsTrue (is_return instruction) → instruction ≡ return
return_is (constant value) is = absurd cc
return_is (arithmetic operation) is = absurd cc
return_is negate is = absurd cc
return_is pop is = absurd cc
return_is get_out is = absurd cc
return_is print_line is = absurd cc
return_is return is = refl

last_step : (program : Program) (before : List Placed) (last : Placed) (state : State) (steps : ℕ)
    → FollowEachOther 0 program.main.instructions
    → program.main.instructions ≡ before ++ last ∷ []
    → IsTrue (is_straight program.main.max_stack (map type_of state.stack) (last ∷ []))
    → OneStep program last [] state steps
unfolding step
last_step program before last state steps follow split straight =
    let found : find (λ i. eqb i.pc last.pc) program.main.instructions ≡ Some last =
    rw split (find_placed 0 before last [] (subst (FollowEachOther 0) split follow)) in
    let returns-is : last.instruction ≡ return = return_is last.instruction straight in
    record {
      next = state;
      ran = rw returns-is refl;
      is = rw (found, returns-is, append-nil) refl;
      ready = tt;
    }

-- the types behind an instruction that others follow
record FitsOn (max_stack : ℕ) (first second : Placed) (others : List Placed)
    (types : List ValueType) : Type 0 where
  after : List ValueType
  is : types_after first.instruction types ≡ Some after
  fits : leb (length after) max_stack ≡ true
  straight : IsTrue (is_straight max_stack after (second ∷ others))

fits_within : (max_stack : ℕ) (second : Placed) (others : List Placed) (after : List ValueType)
    (fits : Bool) → fits ≡ leb (length after) max_stack
    → IsTrue (option_map_or (λ after. is_straight max_stack after (second ∷ others))
    (cond fits (Some after) None) false)
    → (leb (length after) max_stack ≡ true) × IsTrue (is_straight max_stack after (second ∷ others))
fits_within max_stack second others after true is straight = (sym is, straight)
fits_within max_stack second others after false is straight = absurd cc

fits_some : (max_stack : ℕ) (first second : Placed) (others : List Placed) (types : List ValueType)
    (found : Option (List ValueType)) → types_after first.instruction types ≡ found
    → IsTrue (option_map_or (λ after. is_straight max_stack after (second ∷ others))
    (found >>= within max_stack) false) → FitsOn max_stack first second others types
fits_some max_stack first second others types None found straight = absurd cc
fits_some max_stack first second others types (Some after) found straight =
    let both =
    fits_within max_stack second others after (leb (length after) max_stack) refl straight in
    record { after = after; is = found; fits = both.0; straight = both.1 }

second_place : (place : ℕ) (before : List Placed) (first second : Placed) (others : List Placed)
    → FollowEachOther place (before ++ first ∷ second ∷ others) → second.pc ≡ first.next
second_place place [] first second others follow = follow.2.0
second_place place (earlier ∷ before) first second others follow =
    second_place earlier.next before first second others follow.2

module _ (program : Program) (before : List Placed) (first second : Placed) (others : List Placed)
    (state : State) (steps : ℕ) (follow : FollowEachOther 0 program.main.instructions)
    (split : program.main.instructions ≡ before ++ first ∷ second ∷ others) where
  goes_on_to : (types : FitsOn program.main.max_stack first second others (map type_of state.stack))
      → GoesOn first.instruction state.stack types.after
      → OneStep program first (second ∷ others) state steps
  unfolding step
  goes_on_to types goes =
      let places : FollowEachOther 0 (before ++ first ∷ second ∷ others) =
      subst (FollowEachOther 0) split follow in
      let found : find (λ i. eqb i.pc first.pc) program.main.instructions ≡ Some first =
      rw split (find_placed 0 before first (second ∷ others) places) in
      let fits : leb (length goes.operands) program.main.max_stack ≡ true =
      rw (← length-map goes.operands type_of, goes.typed) types.fits in
      record {
        next = record { stack = goes.operands; output = state.output ++ goes.bytes };
        ran = rw goes.is refl;
        is = rw (found, goes.is, fits, second_place 0 before first second others places) refl;
        ready = rw goes.typed types.straight;
      }

  inner_step : IsTrue
      (is_straight program.main.max_stack (map type_of state.stack) (first ∷ second ∷ others))
      → OneStep program first (second ∷ others) state steps
  inner_step straight =
      let types =
      fits_some program.main.max_stack first second others (map type_of state.stack)
      (types_after first.instruction (map type_of state.stack)) refl
      (rw eqb-suc-zero at straight) in
      goes_on_to types (goes_on_typed first.instruction state.stack types.after types.is)

one_step : (program : Program) (before : List Placed) (first : Placed) (others : List Placed)
    (state : State) (steps : ℕ) → FollowEachOther 0 program.main.instructions
    → program.main.instructions ≡ before ++ first ∷ others
    → IsReady program.main.max_stack state.stack (first ∷ others)
    → OneStep program first others state steps
one_step program before first [] state steps follow split ready =
    last_step program before first state steps follow split ready
one_step program before first (second ∷ others) state steps follow split ready =
    inner_step program before first second others state steps follow split ready

-- Thread 0 runs the instructions of a slice, and is before the rest.
pub record RanSlice (program : Program) (slice rest : List Placed) (state : State)
    (steps : ℕ) : Type 0 where
  pub next : State
  pub ran : after_all (map (λ (p : Placed). p.instruction) slice) state ≡ Some next
  pub is : steps_of 0 (length slice) (machine_at program (slice ++ rest) state steps)
      ≡ Some (machine_at program rest next (steps + length slice))
  pub ready : IsReady program.main.max_stack next.stack rest

pub slice_runs : (program : Program) (before slice rest : List Placed) (state : State) (steps : ℕ)
    → FollowEachOther 0 program.main.instructions
    → program.main.instructions ≡ before ++ (slice ++ rest)
    → IsReady program.main.max_stack state.stack (slice ++ rest)
    → RanSlice program slice rest state steps
unfolding steps_of
slice_runs program before [] rest state steps follow split ready =
    record { next = state; ran = refl; is = rw add-zero refl; ready = ready }
slice_runs program before (first ∷ slice) rest state steps follow split ready =
    let step = one_step program before first (slice ++ rest) state steps follow split ready in
    let others =
    slice_runs program (before ++ first ∷ []) slice rest step.next (steps + 1) follow (split
    ∙ sym (append_assoc before (first ∷ []) (slice ++ rest))) step.ready in
    let count : steps + length (first ∷ slice) ≡ (steps + 1) + length slice = omega arith in
    record {
      next = others.next;
      ran = ap (λ o. o >>= after_all (map (λ (p : Placed). p.instruction) slice)) step.ran
          ∙ others.ran;
      is = ap (λ o. o >>= λ next. steps_of 0 (length slice) next) step.is ∙ others.is
          ∙ ap (λ n. Some (machine_at program rest others.next n)) (sym count);
      ready = others.ready;
    }
