-- The families of instructions, by what a local step of them does to the words of a frame, and what
-- each family does to the operands and the locals.
use Rattle.std.specs.Prelude.{ℕ, List, true, if◌then◌else◌, Option, Some, None, IsSome, option_map, slice_get}
use Rattle.std.specs.Int.{w32, w64}
use Rattle.jv_model.specs.Operand.{Operand, int_constant, long_constant}
use Rattle.jv_model.specs.Instruction.{Instruction, nop, aconst_null, push_int, push_long, ldc, ldc2_w, load, store, stack, int_arithmetic, int_shift, int_negate, long_arithmetic, long_shift, long_negate, increment, convert, compare_longs, if_zero, if_ints, if_references, if_null, goto, tableswitch, lookupswitch}
use Rattle.machine_model.specs.Arithmetic.{is_division, arithmetic_result, negated, shift_result, order_of}
use Rattle.machine_model.specs.Value.{Value, int, long, null, Taken, taken_of}
use Rattle.machine_model.specs.Operands.{on_int, on_two_ints, on_long, on_two_longs, on_long_and_int, rearranged, converted}
use Rattle.machine_model.specs.Branches.{Branch as Way, where_to, branch_on_zero, branch_on_ints, branch_on_references, branch_on_null, table_target, row_target, switch_on}
use Rattle.machine_model.specs.LocalStep.{local_of_kind, with_local}
use Rattle.local_steps.specs.declared.family.Family.{Family}
use Rattle.local_steps.specs.declared.family.Family.TheVariants.{Push, Store, Operate, Branch, Shared}
use Rattle.local_steps.specs.Outcome.{incremented_in}

abbrev pub family_of : {A : Type 0} → Instruction A → Family
family_of nop = Store
family_of aconst_null = Push
family_of (push_int n) = Push
family_of (push_long n) = Push
family_of (ldc operand) = Push
family_of (ldc2_w operand) = Push
family_of (load kind n) = Push
family_of (store kind n) = Store
family_of (stack form) = Operate
family_of (int_arithmetic operation) = if is_division operation then Shared else Operate
family_of (int_shift shift) = Operate
family_of int_negate = Operate
family_of (long_arithmetic operation) = if is_division operation then Shared else Operate
family_of (long_shift shift) = Operate
family_of long_negate = Operate
family_of (increment n by) = Store
family_of (convert conversion) = Operate
family_of compare_longs = Operate
family_of (if_zero comparison target) = Branch
family_of (if_ints comparison target) = Branch
family_of (if_references wanted target) = Branch
family_of (if_null wanted target) = Branch
family_of (goto target) = Branch
family_of (tableswitch default low targets) = Branch
family_of (lookupswitch default rows) = Branch
family_of other = Shared

-- the value that comes on top of the operands, where one does
abbrev pub pushed : Instruction Operand → List Value → Option Value
pushed aconst_null locals = Some null
pushed (push_int n) locals = Some (int n)
pushed (push_long n) locals = Some (long n)
pushed (ldc (int_constant n)) locals = Some (int n)
pushed (ldc2_w (long_constant n)) locals = Some (long n)
pushed (load kind n) locals = local_of_kind kind n locals
pushed other locals = None

-- where the instruction loads a local, that local is there, and of the kind
abbrev pub IsLoaded : {A : Type 0} → Instruction A → List Value → Type 0
IsLoaded (load kind n) locals = IsSome (local_of_kind kind n locals)
IsLoaded other locals = Unit {0}

-- the locals, and the operands that are left
pub record Left : Type 0 where
  pub locals : List Value
  pub operands : List Value

abbrev pub left_with : List Value → Option (List Value) → Option Left
left_with operands locals =
    option_map (λ changed. record { locals = changed; operands = operands }) locals

abbrev pub left_by : ℕ → List Value → Option Taken → Option Left
left_by n locals None = None
left_by n locals (Some taken) = left_with taken.rest (with_local n taken.value locals)

abbrev pub stored : {A : Type 0} → Instruction A → List Value → List Value → Option Left
stored nop locals operands = Some (record { locals = locals; operands = operands })
stored (store kind n) locals operands = left_by n locals (taken_of kind operands)
stored (increment n by) locals operands =
    left_with operands (incremented_in n by locals (slice_get locals n))
stored other locals operands = None

-- the operands that are made of operands
abbrev pub operated : {A : Type 0} → Instruction A → List Value → Option (List Value)
operated (stack form) operands = rearranged form operands
operated (int_arithmetic operation) operands =
    on_two_ints (λ a b. int (arithmetic_result w32 operation a b)) operands
operated (int_shift shift) operands =
    on_two_ints (λ a b. int (shift_result w32 shift a b)) operands
operated int_negate operands = on_int (λ a. int (negated w32 a)) operands
operated (long_arithmetic operation) operands =
    on_two_longs (λ a b. long (arithmetic_result w64 operation a b)) operands
operated (long_shift shift) operands =
    on_long_and_int (λ a b. long (shift_result w64 shift a b)) operands
operated long_negate operands = on_long (λ a. long (negated w64 a)) operands
operated (convert conversion) operands = converted conversion operands
operated compare_longs operands = on_two_longs (λ a b. int (order_of a b)) operands
operated other operands = None

-- where a branch goes
abbrev pub branched : {A : Type 0} → Instruction A → List Value → Option Way
branched (if_zero comparison target) operands = branch_on_zero comparison target operands
branched (if_ints comparison target) operands = branch_on_ints comparison target operands
branched (if_references wanted target) operands = branch_on_references wanted target operands
branched (if_null wanted target) operands = branch_on_null wanted target operands
branched (goto target) operands = where_to true target operands
branched (tableswitch default low targets) operands =
    switch_on (table_target default low targets) operands
branched (lookupswitch default rows) operands = switch_on (row_target default rows) operands
branched other operands = None
