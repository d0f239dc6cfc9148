-- A local step neither reads nor changes the method and the held receiver of its frame.
use Rattle.std.proofs.Common.{◌≡◌, ℕ, List, length, refl}
use Rattle.std.specs.Prelude.{ℤ, ◌+ℤ◌, Bool, true, false, Option, Some, None, if◌then◌else◌, nat_le, slice_get}
use Rattle.std.specs.Int.{w32, int_wrap}
use Rattle.jv_model.specs.Operand.{Operand, int_constant, long_constant}
use Rattle.jv_model.specs.Instruction.{Instruction, nop, aconst_null, push_int, push_long, ldc, ldc2_w, load, store, stack, int_arithmetic, int_shift, int_negate, long_arithmetic, long_shift, long_negate, increment, convert, compare_longs, if_zero, if_ints, if_references, if_null, goto, tableswitch, lookupswitch}
use Rattle.jv_model.specs.Code.{Placed, Body}
use Rattle.std.specs.Int.{w64}
use Rattle.machine_model.specs.Arithmetic.{is_division, arithmetic_result, negated, shift_result, order_of}
use Rattle.machine_model.specs.Value.{Value, int, long, null, onto, Taken, taken_of}
use Rattle.machine_model.specs.Operands.{on_int, on_two_ints, on_long, on_two_longs, on_long_and_int, rearranged, converted}
use Rattle.machine_model.specs.State.{Frame}
use Rattle.machine_model.specs.Branches.{Branch, where_to, branch_on_zero, branch_on_ints, branch_on_references, branch_on_null, table_target, row_target, switch_on}
use Rattle.machine_model.specs.LocalStep.{goes_to, not_local, wrong, local_step_at, local_step_of, instruction_at, goes_on_with, loads, stores_in, stores, increments, branches, local_of_kind, with_local}
use Rattle.local_runs.specs.Law.{unnamed, named_as, StepKeepsMethod}

chosen : (frame : Frame) (b : Bool) (next : Frame) → (if b then goes_to (record next { method = frame.method; held = frame.held }) else wrong) ≡ named_as frame (if b then goes_to next else wrong)
chosen frame true next = refl
chosen frame false next = refl

goes_on : (body : Body Operand) (placed : Placed Operand) (frame : Frame) (operands : Option (List Value)) → goes_on_with body placed frame operands ≡ named_as frame (goes_on_with body placed (unnamed frame) operands)
goes_on body placed frame None = refl
goes_on body placed frame (Some operands) =
    chosen frame (nat_le (length operands) body.max_stack) (let other = unnamed frame in record other { pc = placed.next; stack = operands })

unless_division : (body : Body Operand) (placed : Placed Operand) (frame : Frame) (division : Bool) (operands : Option (List Value)) → (if division then not_local else goes_on_with body placed frame operands) ≡ named_as frame (if division then not_local else goes_on_with body placed (unnamed frame) operands)
unless_division body placed frame true operands = refl
unless_division body placed frame false operands = goes_on body placed frame operands

loaded : (body : Body Operand) (placed : Placed Operand) (frame : Frame) (value : Option Value) → loads body placed frame value ≡ named_as frame (loads body placed (unnamed frame) value)
loaded body placed frame None = refl
loaded body placed frame (Some value) = goes_on body placed frame (Some (onto value frame.stack))

stored_in : (placed : Placed Operand) (frame : Frame) (rest : List Value) (locals : Option (List Value)) → stores_in placed frame rest locals ≡ named_as frame (stores_in placed (unnamed frame) rest locals)
stored_in placed frame rest None = refl
stored_in placed frame rest (Some locals) = refl

stored : (placed : Placed Operand) (frame : Frame) (n : ℕ) (taken : Option Taken) → stores placed frame n taken ≡ named_as frame (stores placed (unnamed frame) n taken)
stored placed frame n None = refl
stored placed frame n (Some taken) = stored_in placed frame taken.rest (with_local n taken.value frame.locals)

increased : (placed : Placed Operand) (frame : Frame) (n : ℕ) (by : ℤ) (value : Option Value) → increments placed frame n by value ≡ named_as frame (increments placed (unnamed frame) n by value)
increased placed frame n by (Some (int a)) = stored_in placed frame frame.stack (with_local n (int (int_wrap w32 (a +ℤ by))) frame.locals)
increased placed frame n by other = refl

branched : (placed : Placed Operand) (frame : Frame) (way : Option Branch) → branches placed frame way ≡ named_as frame (branches placed (unnamed frame) way)
branched placed frame None = refl
branched placed frame (Some way) = refl

step_keeps : (body : Body Operand) (placed : Placed Operand) (frame : Frame) (i : Instruction Operand) → local_step_of body placed frame i ≡ named_as frame (local_step_of body placed (unnamed frame) i)
unfolding local_step_of
step_keeps body placed frame nop = refl
step_keeps body placed frame aconst_null = goes_on body placed frame (Some (onto null frame.stack))
step_keeps body placed frame (push_int n) = goes_on body placed frame (Some (onto (int n) frame.stack))
step_keeps body placed frame (push_long n) = goes_on body placed frame (Some (onto (long n) frame.stack))
step_keeps body placed frame (ldc (int_constant n)) = goes_on body placed frame (Some (onto (int n) frame.stack))
step_keeps body placed frame (ldc2_w (long_constant n)) = goes_on body placed frame (Some (onto (long n) frame.stack))
step_keeps body placed frame (load kind n) = loaded body placed frame (local_of_kind kind n frame.locals)
step_keeps body placed frame (store kind n) = stored placed frame n (taken_of kind frame.stack)
step_keeps body placed frame (stack form) = goes_on body placed frame (rearranged form frame.stack)
step_keeps body placed frame (int_arithmetic operation) =
    unless_division body placed frame (is_division operation) (on_two_ints (λ a b. int (arithmetic_result w32 operation a b)) frame.stack)
step_keeps body placed frame (int_shift shift) = goes_on body placed frame (on_two_ints (λ a b. int (shift_result w32 shift a b)) frame.stack)
step_keeps body placed frame int_negate = goes_on body placed frame (on_int (λ a. int (negated w32 a)) frame.stack)
step_keeps body placed frame (long_arithmetic operation) =
    unless_division body placed frame (is_division operation) (on_two_longs (λ a b. long (arithmetic_result w64 operation a b)) frame.stack)
step_keeps body placed frame (long_shift shift) = goes_on body placed frame (on_long_and_int (λ a b. long (shift_result w64 shift a b)) frame.stack)
step_keeps body placed frame long_negate = goes_on body placed frame (on_long (λ a. long (negated w64 a)) frame.stack)
step_keeps body placed frame (increment n by) = increased placed frame n by (slice_get frame.locals n)
step_keeps body placed frame (convert conversion) = goes_on body placed frame (converted conversion frame.stack)
step_keeps body placed frame compare_longs = goes_on body placed frame (on_two_longs (λ a b. int (order_of a b)) frame.stack)
step_keeps body placed frame (if_zero comparison target) = branched placed frame (branch_on_zero comparison target frame.stack)
step_keeps body placed frame (if_ints comparison target) = branched placed frame (branch_on_ints comparison target frame.stack)
step_keeps body placed frame (if_references wanted target) = branched placed frame (branch_on_references wanted target frame.stack)
step_keeps body placed frame (if_null wanted target) = branched placed frame (branch_on_null wanted target frame.stack)
step_keeps body placed frame (goto target) = branched placed frame (where_to true target frame.stack)
step_keeps body placed frame (tableswitch default low targets) = branched placed frame (switch_on (table_target default low targets) frame.stack)
step_keeps body placed frame (lookupswitch default rows) = branched placed frame (switch_on (row_target default rows) frame.stack)
step_keeps body placed frame other = refl

step_at_keeps : (body : Body Operand) (frame : Frame) (placed : Option (Placed Operand)) → local_step_at body frame placed ≡ named_as frame (local_step_at body (unnamed frame) placed)
step_at_keeps body frame None = refl
step_at_keeps body frame (Some placed) = step_keeps body placed frame placed.instruction

pub keeps_method : StepKeepsMethod
keeps_method code frame = step_at_keeps code frame (instruction_at code frame.pc)
