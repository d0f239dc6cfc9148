-- An instruction that touches the current frame alone leaves it within reach.
use Rattle.std.proofs.Common.{ℕ, ℤ, ◌+◌, ◌+ℤ◌, Bool, true, false, cond, List, [], ◌∷◌, ◌++◌, length, Option, Some, None, nat_le, take, drop}
use Rattle.std.specs.Prelude.{⊤, IfSome, slice_get, slice_set, nat_lt}
use Rattle.std.specs.Int.{w32, w64, int_wrap}
use Rattle.jv_model.specs.Operand.{Operand, int_constant, long_constant}
use Rattle.jv_model.specs.Instruction.{Instruction, ValueKind, Comparison, Conversion, int_to_long, long_to_int, int_to_byte, int_to_char, int_to_short, StackForm, pop_one, pop_two, swap, nop, aconst_null, push_int, push_long, ldc, ldc2_w, load, store, stack, int_arithmetic, int_shift, int_negate, long_arithmetic, long_shift, long_negate, increment, convert, compare_longs, if_zero, if_ints, if_references, if_null, goto, tableswitch, lookupswitch}
use Rattle.jv_model.specs.StackForms.{upper_words, lower_words, put_back}
use Rattle.jv_model.specs.Code.{Placed, Body}
use Rattle.machine_model.specs.Arithmetic.{is_division, arithmetic_result, negated, shift_result, order_of, as_byte, as_char, as_short}
use Rattle.machine_model.specs.Value.{Value, int, long, half, null, reference, is_of_kind, onto, Taken, taken_of}
use Rattle.machine_model.specs.State.{Frame, State}
use Rattle.machine_model.specs.Branches.{Branch, where_to, where_answered, same_reference, is_null, branch_on_zero, branch_on_ints, branch_on_references, branch_on_null, table_target, row_target, switch_on}
use Rattle.machine_model.specs.Operands.{on_int, on_two_ints, on_long, on_two_longs, on_long_and_int, rearranged, converted}
use Rattle.machine_model.specs.LocalStep.{Local, goes_to, not_local, wrong, local_of_kind, with_local, goes_on_with, loads, stores, stores_in, increments, branches, local_step_of}
use Rattle.reach_laws.proofs.Lists.{all_append, all_take, all_drop, all_get, all_set, if_test, if_then}
use Rattle.reach_laws.proofs.Holding.{Names, Holds, FrameIn, onto_in}
use Rattle.reach_laws.proofs.Going.{TakenIn, taken_in}

-- the frame that a local step leads to
abbrev pub LocalIn : State → Local → Type 0
LocalIn before (goes_to frame) = FrameIn before frame
LocalIn before other = ⊤

module _ (before : State) where
  -- ---- operands

  on_int_in : (result : ℤ → Value) → ((a : ℤ) → Names before (result a)) → (operands : List Value) → Holds before operands
      → IfSome (on_int result operands) (Holds before)
  on_int_in result names (int a ∷ rest) holds = onto_in before (result a) rest (names a) holds.1
  on_int_in result names operands holds = tt

  on_two_ints_in : (result : ℤ → ℤ → Value) → ((a b : ℤ) → Names before (result a b)) → (operands : List Value) → Holds before operands
      → IfSome (on_two_ints result operands) (Holds before)
  on_two_ints_in result names (int b ∷ int a ∷ rest) holds = onto_in before (result a b) rest (names a b) holds.1.1
  on_two_ints_in result names operands holds = tt

  on_long_in : (result : ℤ → Value) → ((a : ℤ) → Names before (result a)) → (operands : List Value) → Holds before operands
      → IfSome (on_long result operands) (Holds before)
  on_long_in result names (half ∷ long a ∷ rest) holds = onto_in before (result a) rest (names a) holds.1.1
  on_long_in result names operands holds = tt

  on_two_longs_in : (result : ℤ → ℤ → Value) → ((a b : ℤ) → Names before (result a b)) → (operands : List Value) → Holds before operands
      → IfSome (on_two_longs result operands) (Holds before)
  on_two_longs_in result names (half ∷ long b ∷ half ∷ long a ∷ rest) holds = onto_in before (result a b) rest (names a b) holds.1.1.1.1
  on_two_longs_in result names operands holds = tt

  on_long_and_int_in : (result : ℤ → ℤ → Value) → ((a b : ℤ) → Names before (result a b)) → (operands : List Value) → Holds before operands
      → IfSome (on_long_and_int result operands) (Holds before)
  on_long_and_int_in result names (int b ∷ half ∷ long a ∷ rest) holds = onto_in before (result a b) rest (names a b) holds.1.1.1
  on_long_and_int_in result names operands holds = tt

  converted_in : (conversion : Conversion) (operands : List Value) → Holds before operands → IfSome (converted conversion operands) (Holds before)
  converted_in int_to_long operands holds = on_int_in long (λ a. tt) operands holds
  converted_in long_to_int operands holds = on_long_in (λ a. int (int_wrap w32 a)) (λ a. tt) operands holds
  converted_in int_to_byte operands holds = on_int_in (λ a. int (as_byte a)) (λ a. tt) operands holds
  converted_in int_to_char operands holds = on_int_in (λ a. int (as_char a)) (λ a. tt) operands holds
  converted_in int_to_short operands holds = on_int_in (λ a. int (as_short a)) (λ a. tt) operands holds

  put_back_in : (form : StackForm) (upper lower : List Value) → Holds before upper → Holds before lower
      → Holds before (put_back form upper lower)
  put_back_in pop_one upper lower one other = tt
  put_back_in pop_two upper lower one other = tt
  put_back_in swap upper lower one other = all_append (Names before) lower upper other one
  put_back_in form upper lower one other =
      all_append (Names before) (upper ++ lower) upper (all_append (Names before) upper lower one other) one

  rearranged_in : (form : StackForm) (operands : List Value) → Holds before operands → IfSome (rearranged form operands) (Holds before)
  rearranged_in form operands holds =
      go (nat_lt (length operands) (upper_words form + lower_words form)) _ (all_append (Names before) (put_back form upper lower) below
      (put_back_in form upper lower (all_take (Names before) (upper_words form) operands holds) (all_take (Names before) (lower_words form) (drop (upper_words form) operands) (all_drop (Names before) (upper_words form) operands holds)))
      (all_drop (Names before) (upper_words form + lower_words form) operands holds))
    where
      upper : List Value
      upper = take (upper_words form) operands

      lower : List Value
      lower = take (lower_words form) (drop (upper_words form) operands)

      below : List Value
      below = drop (upper_words form + lower_words form) operands

      go : (b : Bool) (after : List Value) → Holds before after → IfSome (cond b None (Some after)) (Holds before)
      go true after all = tt
      go false after all = all

  -- ---- locals

  local_in : (kind : ValueKind) (n : ℕ) (locals : List Value) → Holds before locals
      → IfSome (local_of_kind kind n locals) (Names before)
  local_in kind n locals holds =
      if_then (Names before) (Names before) (λ value. cond (is_of_kind kind value) (Some value) None) (slice_get locals n)
      (all_get (Names before) locals n holds) (λ value h. if_test (Names before) (is_of_kind kind value) value h)

  set_in : (test : Bool) (locals : List Value) → Holds before locals → IfSome (cond test (Some locals) None) (Holds before)
  set_in test locals holds = if_test (Holds before) test locals holds

  with_local_in : (n : ℕ) (value : Value) (locals : List Value) → Names before value → Holds before locals
      → IfSome (with_local n value locals) (Holds before)
  with_local_in n (long a) locals names holds =
      set_in (nat_lt (n + 1) (length locals)) (slice_set (slice_set locals n (long a)) (n + 1) half)
      (all_set (Names before) (slice_set locals n (long a)) (n + 1) half (all_set (Names before) locals n (long a) holds tt) tt)
  with_local_in n (int a) locals names holds =
      set_in (nat_lt n (length locals)) (slice_set locals n (int a)) (all_set (Names before) locals n (int a) holds tt)
  with_local_in n half locals names holds =
      set_in (nat_lt n (length locals)) (slice_set locals n half) (all_set (Names before) locals n half holds tt)
  with_local_in n null locals names holds =
      set_in (nat_lt n (length locals)) (slice_set locals n null) (all_set (Names before) locals n null holds tt)
  with_local_in n (reference id) locals names holds =
      set_in (nat_lt n (length locals)) (slice_set locals n (reference id)) (all_set (Names before) locals n (reference id) holds names)

  -- ---- branches

  abbrev BranchIn : Branch → Type 0
  BranchIn branch = Holds before branch.rest

  answered_in : (answer : Option Bool) (wanted : Bool) (target : ℕ) (rest : List Value) → Holds before rest
      → IfSome (where_answered answer wanted target rest) BranchIn
  answered_in None wanted target rest holds = tt
  answered_in (Some answer) wanted target rest holds = holds

  on_zero_in : (comparison : Comparison) (target : ℕ) (operands : List Value) → Holds before operands
      → IfSome (branch_on_zero comparison target operands) BranchIn
  on_zero_in comparison target (int a ∷ rest) holds = holds.1
  on_zero_in comparison target operands holds = tt

  on_ints_in : (comparison : Comparison) (target : ℕ) (operands : List Value) → Holds before operands
      → IfSome (branch_on_ints comparison target operands) BranchIn
  on_ints_in comparison target (int b ∷ int a ∷ rest) holds = holds.1.1
  on_ints_in comparison target operands holds = tt

  on_references_in : (wanted : Bool) (target : ℕ) (operands : List Value) → Holds before operands
      → IfSome (branch_on_references wanted target operands) BranchIn
  on_references_in wanted target [] holds = tt
  on_references_in wanted target (b ∷ []) holds = tt
  on_references_in wanted target (b ∷ a ∷ rest) holds = answered_in (same_reference a b) wanted target rest holds.1.1

  on_null_in : (wanted : Bool) (target : ℕ) (operands : List Value) → Holds before operands
      → IfSome (branch_on_null wanted target operands) BranchIn
  on_null_in wanted target [] holds = tt
  on_null_in wanted target (a ∷ rest) holds = answered_in (is_null a) wanted target rest holds.1

  switch_in : (target_of : ℤ → ℕ) (operands : List Value) → Holds before operands → IfSome (switch_on target_of operands) BranchIn
  switch_in target_of (int key ∷ rest) holds = holds.1
  switch_in target_of operands holds = tt

  -- ---- steps

  module _ (body : Body Operand) (placed : Placed Operand) (frame : Frame) (is : FrameIn before frame) where
    with_in : (o : Option (List Value)) → IfSome o (Holds before) → LocalIn before (goes_on_with body placed frame o)
    with_in None given = tt
    with_in (Some operands) given = go (nat_le (length operands) body.max_stack)
      where
        go : (b : Bool) → LocalIn before (cond b (goes_to (record frame { pc = placed.next; stack = operands })) wrong)
        go true = record { held = is.held; locals = is.locals; stack = given }
        go false = tt

    push_in : (value : Value) → Names before value → LocalIn before (goes_on_with body placed frame (Some (onto value frame.stack)))
    push_in value names = with_in (Some (onto value frame.stack)) (onto_in before value frame.stack names is.stack)

    load_in : (o : Option Value) → IfSome o (Names before) → LocalIn before (loads body placed frame o)
    load_in None given = tt
    load_in (Some value) given = push_in value given

    store_in_in : (rest : List Value) → Holds before rest → (o : Option (List Value)) → IfSome o (Holds before)
        → LocalIn before (stores_in placed frame rest o)
    store_in_in rest holds None given = tt
    store_in_in rest holds (Some locals) given = record { held = is.held; locals = given; stack = holds }

    store_in : (n : ℕ) (o : Option Taken) → IfSome o (TakenIn before) → LocalIn before (stores placed frame n o)
    store_in n None given = tt
    store_in n (Some taken) given =
        store_in_in taken.rest given.rest (with_local n taken.value frame.locals) (with_local_in n taken.value frame.locals given.value is.locals)

    increment_in : (n : ℕ) (by : ℤ) (o : Option Value) → LocalIn before (increments placed frame n by o)
    increment_in n by (Some (int a)) =
        store_in_in frame.stack is.stack (with_local n (int (int_wrap w32 (a +ℤ by))) frame.locals) (with_local_in n (int (int_wrap w32 (a +ℤ by))) frame.locals tt is.locals)
    increment_in n by other = tt

    branch_in : (o : Option Branch) → IfSome o BranchIn → LocalIn before (branches placed frame o)
    branch_in None given = tt
    branch_in (Some branch) given = record { held = is.held; locals = is.locals; stack = given }

    either_in : (test : Bool) (other : Local) → LocalIn before other → LocalIn before (cond test not_local other)
    either_in true other h = tt
    either_in false other h = h

    pub local_step_in : (i : Instruction Operand) → LocalIn before (local_step_of body placed frame i)
    unfolding local_step_of
    local_step_in nop = record { held = is.held; locals = is.locals; stack = is.stack }
    local_step_in aconst_null = push_in null tt
    local_step_in (push_int n) = push_in (int n) tt
    local_step_in (push_long n) = push_in (long n) tt
    local_step_in (ldc (int_constant n)) = push_in (int n) tt
    local_step_in (ldc2_w (long_constant n)) = push_in (long n) tt
    local_step_in (load kind n) = load_in (local_of_kind kind n frame.locals) (local_in kind n frame.locals is.locals)
    local_step_in (store kind n) = store_in n (taken_of kind frame.stack) (taken_in before kind frame.stack is.stack)
    local_step_in (stack form) = with_in (rearranged form frame.stack) (rearranged_in form frame.stack is.stack)
    local_step_in (int_arithmetic operation) =
        either_in (is_division operation) _ (with_in (on_two_ints (λ a b. int (arithmetic_result w32 operation a b)) frame.stack)
        (on_two_ints_in (λ a b. int (arithmetic_result w32 operation a b)) (λ a b. tt) frame.stack is.stack))
    local_step_in (int_shift shift) =
        with_in (on_two_ints (λ a b. int (shift_result w32 shift a b)) frame.stack)
        (on_two_ints_in (λ a b. int (shift_result w32 shift a b)) (λ a b. tt) frame.stack is.stack)
    local_step_in int_negate =
        with_in (on_int (λ a. int (negated w32 a)) frame.stack) (on_int_in (λ a. int (negated w32 a)) (λ a. tt) frame.stack is.stack)
    local_step_in (long_arithmetic operation) =
        either_in (is_division operation) _ (with_in (on_two_longs (λ a b. long (arithmetic_result w64 operation a b)) frame.stack)
        (on_two_longs_in (λ a b. long (arithmetic_result w64 operation a b)) (λ a b. tt) frame.stack is.stack))
    local_step_in (long_shift shift) =
        with_in (on_long_and_int (λ a b. long (shift_result w64 shift a b)) frame.stack)
        (on_long_and_int_in (λ a b. long (shift_result w64 shift a b)) (λ a b. tt) frame.stack is.stack)
    local_step_in long_negate =
        with_in (on_long (λ a. long (negated w64 a)) frame.stack) (on_long_in (λ a. long (negated w64 a)) (λ a. tt) frame.stack is.stack)
    local_step_in (increment n by) = increment_in n by (slice_get frame.locals n)
    local_step_in (convert conversion) = with_in (converted conversion frame.stack) (converted_in conversion frame.stack is.stack)
    local_step_in compare_longs =
        with_in (on_two_longs (λ a b. int (order_of a b)) frame.stack)
        (on_two_longs_in (λ a b. int (order_of a b)) (λ a b. tt) frame.stack is.stack)
    local_step_in (if_zero comparison target) =
        branch_in (branch_on_zero comparison target frame.stack) (on_zero_in comparison target frame.stack is.stack)
    local_step_in (if_ints comparison target) =
        branch_in (branch_on_ints comparison target frame.stack) (on_ints_in comparison target frame.stack is.stack)
    local_step_in (if_references wanted target) =
        branch_in (branch_on_references wanted target frame.stack) (on_references_in wanted target frame.stack is.stack)
    local_step_in (if_null wanted target) =
        branch_in (branch_on_null wanted target frame.stack) (on_null_in wanted target frame.stack is.stack)
    local_step_in (goto target) = branch_in (where_to true target frame.stack) is.stack
    local_step_in (tableswitch default low targets) =
        branch_in (switch_on (table_target default low targets) frame.stack) (switch_in (table_target default low targets) frame.stack is.stack)
    local_step_in (lookupswitch default rows) =
        branch_in (switch_on (row_target default rows) frame.stack) (switch_in (row_target default rows) frame.stack is.stack)
    local_step_in other = tt
