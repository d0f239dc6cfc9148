-- A step of verified code that touches the current frame alone is never wrong, and keeps to the types.
use Rattle.std.proofs.Common.{◌≡◌, ℕ, Some, Bool, true, false, refl, subst, if◌then◌else◌, inl}
use Rattle.std.proofs.lemmas.Bool.{and_parts}
use Rattle.std.specs.Int.{w32, w64}
use lib.Pointwise.{pointwise}
use Rattle.jv_model.specs.Operand.{Operand, int_constant, long_constant}
use Rattle.jv_model.specs.Code.{Placed}
use Rattle.jv_model.specs.Instruction.{Instruction, nop, aconst_null, push_int, push_long, ldc, ldc2_w, load, store, stack, int_arithmetic, int_shift, int_negate, long_arithmetic, long_shift, long_negate, increment, convert, compare_longs, if_zero, if_ints, if_references, if_null, goto, tableswitch, lookupswitch}
use Rattle.typing_model.specs.VerificationType.{int as int_type, long as long_type, null as null_type, TypeFrame}
use Rattle.typing_model.specs.Environment.{Environment}
use Rattle.typing_model.specs.InstructionTypes.{type_step}
use Rattle.machine_model.specs.Value.{int, long, null}
use Rattle.machine_model.specs.State.{Frame}
use Rattle.machine_model.specs.Arithmetic.{is_division, arithmetic_result, negated, shift_result, order_of}
use Rattle.machine_model.specs.Branches.{table_target, row_target}
use Rattle.machine_model.specs.LocalStep.{Local, goes_to, not_local, local_step_of}
use Rattle.machine_model.specs.TypedValues.{HeapTyping, is_of_type, are_of_types, fits_frame}
use Rattle.frame_laws.proofs.Outcome.{IsSound, Lands, some_inj, both}
use Rattle.frame_laws.proofs.Numbers.{Before, int_lands, long_lands, push_is_sound, on_int_is_sound, on_two_ints_is_sound, on_long_is_sound, on_two_longs_is_sound, on_long_and_int_is_sound, converted_is_sound}
use Rattle.frame_laws.proofs.Branching.{table_among, row_among, goto_is_sound, switch_is_sound, zero_is_sound, ints_are_sound, references_are_sound, null_is_sound}
use Rattle.frame_laws.proofs.Moving.{load_is_sound, store_is_sound, increment_is_sound}
use Rattle.frame_laws.proofs.Stacking.{stack_is_sound}
use Rattle.jv_model.specs.Flow.{goes_on, targets_of}

-- null comes onto the stack
null_lands : (heap : HeapTyping) (e : Environment) → Lands heap e null_type null
unfolding are_of_types is_of_type
null_lands heap e types others f = f

module _ (heap : HeapTyping) (e : Environment) (pc next : ℕ) (frame : Frame) (before after : TypeFrame)
    (locals : pointwise (is_of_type heap e) before.locals frame.locals ≡ true) (operands : are_of_types heap e before.stack frame.stack ≡ true) where
  -- the instruction at its place
  abbrev at : Instruction Operand → Placed Operand
  at i = record { pc = pc; next = next; instruction = i }

  -- what is known before an instruction behind which flow goes on
  with_flow : (i : Instruction Operand) → goes_on i ≡ true → Before heap e (at i) frame before
  with_flow i on = record { locals = locals; stack = operands; on = on }

  -- `nop` is sound
  nop_is_sound : Some before ≡ Some after → IsSound heap e (at nop) frame after (goes_to (record frame { pc = next }))
  unfolding goes_on
  nop_is_sound h = record {
    place = inl (refl, refl);
    same_method = refl;
    same_held = refl;
    fits =
        subst (λ (a : TypeFrame). fits_frame heap e (record frame { pc = next }) a ≡ true) (some_inj h) (both (pointwise (is_of_type heap e) before.locals frame.locals) (are_of_types heap e before.stack frame.stack) locals operands);
  }

  -- what is sound is so where divisions are left out
  unless_division : (i : Instruction Operand) (is : Bool) (step : Local) → IsSound heap e (at i) frame after step
      → IsSound heap e (at i) frame after (if is then not_local else step)
  unless_division i true step sound = tt
  unless_division i false step sound = sound

  -- each local instruction is sound
  pub local_is_sound : (i : Instruction Operand) → type_step e pc i before ≡ Some after
      → IsSound heap e (at i) frame after (local_step_of e.body (at i) frame i)
  unfolding type_step local_step_of goes_on targets_of
  local_is_sound nop h = nop_is_sound h
  local_is_sound aconst_null h =
      push_is_sound heap e (at aconst_null) frame before after (with_flow aconst_null refl) null_type null (null_lands heap e) h
  local_is_sound (push_int n) h =
      push_is_sound heap e (at (push_int n)) frame before after (with_flow (push_int n) refl) int_type (int n) (int_lands heap e n) h
  local_is_sound (push_long n) h =
      push_is_sound heap e (at (push_long n)) frame before after (with_flow (push_long n) refl) long_type (long n) (long_lands heap e n) h
  local_is_sound (ldc (int_constant n)) h =
      push_is_sound heap e (at (ldc (int_constant n))) frame before after (with_flow (ldc (int_constant n)) refl) int_type (int n)
      (int_lands heap e n) h
  local_is_sound (ldc operand) h = tt
  local_is_sound (ldc2_w (long_constant n)) h =
      push_is_sound heap e (at (ldc2_w (long_constant n))) frame before after (with_flow (ldc2_w (long_constant n)) refl) long_type (long n)
      (long_lands heap e n) h
  local_is_sound (ldc2_w operand) h = tt
  local_is_sound (load kind n) h = load_is_sound heap e (at (load kind n)) frame before after (with_flow (load kind n) refl) kind n h
  local_is_sound (store kind n) h = store_is_sound heap e (at (store kind n)) frame before after (with_flow (store kind n) refl) kind n h
  local_is_sound (stack form) h = stack_is_sound heap e (at (stack form)) frame before after (with_flow (stack form) refl) form h
  local_is_sound (int_arithmetic operation) h = unless_division (int_arithmetic operation) (is_division operation) _
      (on_two_ints_is_sound heap e (at (int_arithmetic operation)) frame before after (with_flow (int_arithmetic operation) refl) int_type (λ a b. int (arithmetic_result w32 operation a b))
      (λ a b. int_lands heap e (arithmetic_result w32 operation a b)) h)
  local_is_sound (int_shift shift) h =
      on_two_ints_is_sound heap e (at (int_shift shift)) frame before after (with_flow (int_shift shift) refl) int_type (λ a b. int (shift_result w32 shift a b))
      (λ a b. int_lands heap e (shift_result w32 shift a b)) h
  local_is_sound int_negate h =
      on_int_is_sound heap e (at int_negate) frame before after (with_flow int_negate refl) int_type (λ a. int (negated w32 a)) (λ a. int_lands heap e (negated w32 a)) h
  local_is_sound (long_arithmetic operation) h = unless_division (long_arithmetic operation) (is_division operation) _
      (on_two_longs_is_sound heap e (at (long_arithmetic operation)) frame before after (with_flow (long_arithmetic operation) refl) long_type (λ a b. long (arithmetic_result w64 operation a b))
      (λ a b. long_lands heap e (arithmetic_result w64 operation a b)) h)
  local_is_sound (long_shift shift) h =
      on_long_and_int_is_sound heap e (at (long_shift shift)) frame before after (with_flow (long_shift shift) refl) long_type (λ a b. long (shift_result w64 shift a b))
      (λ a b. long_lands heap e (shift_result w64 shift a b)) h
  local_is_sound long_negate h =
      on_long_is_sound heap e (at long_negate) frame before after (with_flow long_negate refl) long_type (λ a. long (negated w64 a)) (λ a. long_lands heap e (negated w64 a)) h
  local_is_sound (increment n by) h =
      increment_is_sound heap e (at (increment n by)) frame before after (with_flow (increment n by) refl) n by h
  local_is_sound (convert conversion) h =
      converted_is_sound heap e (at (convert conversion)) frame before after (with_flow (convert conversion) refl) conversion h
  local_is_sound compare_longs h =
      on_two_longs_is_sound heap e (at compare_longs) frame before after (with_flow compare_longs refl) int_type (λ a b. int (order_of a b)) (λ a b. int_lands heap e (order_of a b)) h
  local_is_sound (if_zero comparison target) h =
      zero_is_sound heap e (at (if_zero comparison target)) frame before after locals operands target refl (0, refl) comparison h
  local_is_sound (if_ints comparison target) h =
      ints_are_sound heap e (at (if_ints comparison target)) frame before after locals operands target refl (0, refl) comparison h
  local_is_sound (if_references wanted target) h =
      references_are_sound heap e (at (if_references wanted target)) frame before after locals operands target refl (0, refl) wanted h
  local_is_sound (if_null wanted target) h =
      null_is_sound heap e (at (if_null wanted target)) frame before after locals operands target refl (0, refl) wanted h
  local_is_sound (goto target) h = goto_is_sound heap e (at (goto target)) frame before after locals operands target h (0, refl)
  local_is_sound (tableswitch default low targets) h =
      switch_is_sound heap e (at (tableswitch default low targets)) frame before after locals operands (table_target default low targets) h
      (table_among default low targets)
  local_is_sound (lookupswitch default rows) h =
      switch_is_sound heap e (at (lookupswitch default rows)) frame before after locals operands (row_target default rows) h (row_among default rows)
  local_is_sound i h = tt

-- The types fit a frame at an instruction that applies to them: its step, where it is local, isn't wrong, and the frame
-- that it gives is at the next instruction or at a target, with locals and operands of the types behind it.
pub local_step_is_sound : (heap : HeapTyping) (e : Environment) (placed : Placed Operand) (frame : Frame) (before after : TypeFrame)
    → fits_frame heap e frame before ≡ true
    → type_step e placed.pc placed.instruction before ≡ Some after
    → IsSound heap e placed frame after (local_step_of e.body placed frame placed.instruction)
local_step_is_sound heap e placed frame before after fits h =
    let f = and_parts (pointwise (is_of_type heap e) before.locals frame.locals) (are_of_types heap e before.stack frame.stack) fits in
    local_is_sound heap e placed.pc placed.next frame before after f.0 f.1 placed.instruction h
