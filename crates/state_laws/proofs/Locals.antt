-- An instruction that touches the current frame alone leaves it a frame of the same method.
use Rattle.std.proofs.Common.{◌≡◌, ℕ, ℤ, ◌+ℤ◌, Bool, true, false, cond, List, length, Option, Some, None, refl, nat_le}
use Rattle.std.specs.Prelude.{⊤, slice_get}
use Rattle.std.specs.Int.{w32, w64, int_wrap}
use Rattle.jv_model.specs.Operand.{Operand, int_constant, long_constant}
use Rattle.jv_model.specs.Instruction.{Instruction, nop, aconst_null, push_int, push_long, ldc, ldc2_w, load, store, stack, int_arithmetic, int_shift, int_negate, long_arithmetic, long_shift, long_negate, increment, convert, compare_longs, if_zero, if_ints, if_references, if_null, goto, tableswitch, lookupswitch}
use Rattle.jv_model.specs.Code.{Placed, Body}
use Rattle.machine_model.specs.Arithmetic.{is_division, arithmetic_result, negated, shift_result, order_of}
use Rattle.machine_model.specs.Value.{Value, int, long, null, onto, Taken, taken_of}
use Rattle.machine_model.specs.State.{Frame}
use Rattle.machine_model.specs.Branches.{Branch, where_to, branch_on_zero, branch_on_ints, branch_on_references, branch_on_null, table_target, row_target, switch_on}
use Rattle.machine_model.specs.Operands.{on_int, on_two_ints, on_long, on_two_longs, on_long_and_int, rearranged, converted}
use Rattle.machine_model.specs.LocalStep.{Local, goes_to, not_local, wrong, local_of_kind, with_local, goes_on_with, loads, stores, stores_in, increments, branches, local_step_of}

-- the frame that a local step leads to is of the same method
abbrev pub SameMethod : Frame → Local → Type 0
SameMethod frame (goes_to next) = next.method ≡ frame.method
SameMethod frame other = ⊤

with_same : (body : Body Operand) (placed : Placed Operand) (frame : Frame) (o : Option (List Value))
    → SameMethod frame (goes_on_with body placed frame o)
with_same body placed frame None = tt
with_same body placed frame (Some operands) = go (nat_le (length operands) body.max_stack)
  where
    go : (b : Bool) → SameMethod frame (cond b (goes_to (record frame { pc = placed.next; stack = operands })) wrong)
    go true = refl
    go false = tt

load_same : (body : Body Operand) (placed : Placed Operand) (frame : Frame) (o : Option Value)
    → SameMethod frame (loads body placed frame o)
load_same body placed frame None = tt
load_same body placed frame (Some value) = with_same body placed frame (Some (onto value frame.stack))

store_in_same : (placed : Placed Operand) (frame : Frame) (rest : List Value) (o : Option (List Value))
    → SameMethod frame (stores_in placed frame rest o)
store_in_same placed frame rest None = tt
store_in_same placed frame rest (Some locals) = refl

store_same : (placed : Placed Operand) (frame : Frame) (n : ℕ) (o : Option Taken) → SameMethod frame (stores placed frame n o)
store_same placed frame n None = tt
store_same placed frame n (Some taken) = store_in_same placed frame taken.rest (with_local n taken.value frame.locals)

increment_same : (placed : Placed Operand) (frame : Frame) (n : ℕ) (by : ℤ) (o : Option Value)
    → SameMethod frame (increments placed frame n by o)
increment_same placed frame n by (Some (int a)) = store_in_same placed frame frame.stack (with_local n (int (int_wrap w32 (a +ℤ by))) frame.locals)
increment_same placed frame n by other = tt

branch_same : (placed : Placed Operand) (frame : Frame) (o : Option Branch) → SameMethod frame (branches placed frame o)
branch_same placed frame None = tt
branch_same placed frame (Some branch) = refl

either_same : (frame : Frame) (test : Bool) (other : Local) → SameMethod frame other → SameMethod frame (cond test not_local other)
either_same frame true other same = tt
either_same frame false other same = same

pub local_same : (body : Body Operand) (placed : Placed Operand) (frame : Frame) (i : Instruction Operand)
    → SameMethod frame (local_step_of body placed frame i)
unfolding local_step_of
local_same body placed frame nop = refl
local_same body placed frame aconst_null = with_same body placed frame (Some (onto null frame.stack))
local_same body placed frame (push_int n) = with_same body placed frame (Some (onto (int n) frame.stack))
local_same body placed frame (push_long n) = with_same body placed frame (Some (onto (long n) frame.stack))
local_same body placed frame (ldc (int_constant n)) = with_same body placed frame (Some (onto (int n) frame.stack))
local_same body placed frame (ldc2_w (long_constant n)) = with_same body placed frame (Some (onto (long n) frame.stack))
local_same body placed frame (load kind n) = load_same body placed frame (local_of_kind kind n frame.locals)
local_same body placed frame (store kind n) = store_same placed frame n (taken_of kind frame.stack)
local_same body placed frame (stack form) = with_same body placed frame (rearranged form frame.stack)
local_same body placed frame (int_arithmetic operation) =
    either_same frame (is_division operation) _
    (with_same body placed frame (on_two_ints (λ a b. int (arithmetic_result w32 operation a b)) frame.stack))
local_same body placed frame (int_shift shift) =
    with_same body placed frame (on_two_ints (λ a b. int (shift_result w32 shift a b)) frame.stack)
local_same body placed frame int_negate = with_same body placed frame (on_int (λ a. int (negated w32 a)) frame.stack)
local_same body placed frame (long_arithmetic operation) =
    either_same frame (is_division operation) _
    (with_same body placed frame (on_two_longs (λ a b. long (arithmetic_result w64 operation a b)) frame.stack))
local_same body placed frame (long_shift shift) =
    with_same body placed frame (on_long_and_int (λ a b. long (shift_result w64 shift a b)) frame.stack)
local_same body placed frame long_negate = with_same body placed frame (on_long (λ a. long (negated w64 a)) frame.stack)
local_same body placed frame (increment n by) = increment_same placed frame n by (slice_get frame.locals n)
local_same body placed frame (convert conversion) = with_same body placed frame (converted conversion frame.stack)
local_same body placed frame compare_longs =
    with_same body placed frame (on_two_longs (λ a b. int (order_of a b)) frame.stack)
local_same body placed frame (if_zero comparison target) =
    branch_same placed frame (branch_on_zero comparison target frame.stack)
local_same body placed frame (if_ints comparison target) =
    branch_same placed frame (branch_on_ints comparison target frame.stack)
local_same body placed frame (if_references wanted target) =
    branch_same placed frame (branch_on_references wanted target frame.stack)
local_same body placed frame (if_null wanted target) = branch_same placed frame (branch_on_null wanted target frame.stack)
local_same body placed frame (goto target) = branch_same placed frame (where_to true target frame.stack)
local_same body placed frame (tableswitch default low targets) =
    branch_same placed frame (switch_on (table_target default low targets) frame.stack)
local_same body placed frame (lookupswitch default rows) =
    branch_same placed frame (switch_on (row_target default rows) frame.stack)
local_same body placed frame other = tt
