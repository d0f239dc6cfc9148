-- What the next instruction of a thread of verified code comes to is right, instruction by instruction.
use Rattle.std.proofs.Common.{◌≡◌, ℕ, List, [], ◌∷◌, Option, Some, None, Bool, true, false, refl, ap, sym, subst, ◌∙◌, if◌then◌else◌, length, slice_get, option_map, nat_le, option_and_then, bytes_eq, ℤ, ◌+ℤ◌}
use Rattle.std.specs.Prelude.{◌||◌}
use Rattle.std.specs.Int.{w32, w64, int_wrap}
use Rattle.jv_model.specs.Partial.{◌>>=◌, passes}
use Rattle.jv_model.specs.Descriptors.{FieldType}
use Rattle.jv_model.specs.Operand.{Operand, MemberReference, class_named, member_named, int_constant, long_constant, string_constant}
use Rattle.jv_model.specs.Flow.{goes_on}
use Rattle.jv_model.specs.Code.{Placed, Body}
use Rattle.jv_model.specs.Instruction.{Instruction, nop, aconst_null, push_int, push_long, ldc, ldc2_w, load, store, array_load, array_store, stack, int_arithmetic, int_shift, int_negate, long_arithmetic, long_shift, long_negate, increment, convert, compare_longs, if_zero, if_ints, if_references, if_null, goto, tableswitch, lookupswitch, return_value, return_void, getstatic, putstatic, getfield, putfield, invokevirtual, invokespecial, invokestatic, invokeinterface, new, newarray, anewarray, arraylength, athrow, checkcast, instanceof, monitorenter, monitorexit}
use Rattle.typing_model.specs.VerificationType.{VerificationType, TypeFrame}
use Rattle.typing_model.specs.InstructionTypes.{type_step}
use Rattle.machine_model.specs.Value.{Value, int, long, null, Taken, taken_of, onto}
use Rattle.machine_model.specs.Arithmetic.{is_division, arithmetic_result, negated, shift_result, order_of}
use Rattle.machine_model.specs.State.{Frame}
use Rattle.machine_model.specs.Branches.{Branch, branch_on_zero, branch_on_ints, branch_on_references, branch_on_null, table_target, row_target, switch_on}
use Rattle.machine_model.specs.Operands.{on_int, on_two_ints, on_long, on_two_longs, on_long_and_int, rearranged, converted}
use Rattle.machine_model.specs.LocalStep.{Local, goes_to, not_local, wrong, local_step_of, goes_on_with, loads, stores, stores_in, increments, branches, instruction_at, with_local, local_of_kind}
use Rattle.machine_model.specs.Deed.{Running}
use Rattle.machine_model.specs.SharedStep.{shared_step, deed_at}
use Rattle.machine_model.specs.TypedValues.{HeapTyping, heap_typing}
use Rattle.machine_model.specs.Conforms.{called, calls, current_types, frame_conforms, callers_conform}
use Rattle.code_model.specs.TypeReading.{field_type_of}
use Rattle.typing_model.specs.Environment.{named_type}
use Rattle.typing_model.specs.Transition.{to, popped, pushed, changed}
use Rattle.typing_model.specs.VerificationType.{class, new_at, is_array, has, type_of}
use Rattle.typing_model.specs.MemberTypes.{is_owner}
use Rattle.link_laws.proofs.Names.{text_same}
use Rattle.typing_model.specs.ObjectTypes.{primitive_type, forgotten}
use Rattle.machine_model.specs.TypedValues.{class_made, class_made_at}
use Rattle.machine_laws.proofs.Calling.{unless_is}
use Rattle.machine_laws.proofs.Numbers.{divide_ints_is_right, divide_longs_is_right}
use Rattle.machine_laws.proofs.ArrayLoads.{load_element_is_right}
use Rattle.machine_laws.proofs.ArrayStores.{store_element_is_right}
use Rattle.machine_laws.proofs.Objects.{array_length_is_right, new_array_is_right, enter_is_right, exit_is_right}
use Rattle.machine_laws.proofs.Making.{new_is_right, check_cast_is_right, instance_of_is_right, load_string_is_right}
use Rattle.machine_laws.proofs.Fields.{get_static_is_right, put_static_is_right, get_field_is_right, put_field_is_right}
use Rattle.machine_laws.proofs.Returns.{return_value_is_right, return_void_is_right}
use Rattle.machine_laws.proofs.Catching.{throw_is_right}
use Rattle.machine_laws.proofs.Invokes.{virtual_is_right, special_is_right, static_is_right, interface_is_right}
use Rattle.frame_laws.specs.Laws.{Keeps}
use Rattle.frame_laws.proofs.Outcome.{both}
use Rattle.frame_laws.proofs.LocalSoundness.{local_step_is_sound}
use Rattle.frame_laws.proofs.Standing.{Parts}
use Rattle.frame_laws.proofs.Onward.{sound_keeps}
use Rattle.machine_laws.specs.Runnable.{Uses}
use Rattle.machine_laws.proofs.TypedStates.{IsTypedDeed}
use Rattle.machine_laws.proofs.Ready.{Ready, frames_set}

-- ---- local instructions

abbrev is_not_local : Local → Bool
is_not_local (goes_to frame) = false
is_not_local not_local = true
is_not_local wrong = false

with_is : (body : Body Operand) (placed : Placed Operand) (frame : Frame) (o : Option (List Value))
    → is_not_local (goes_on_with body placed frame o) ≡ false
with_is body placed frame None = refl
with_is body placed frame (Some operands) = go (nat_le (length operands) body.max_stack)
  where
    go : (b : Bool) → is_not_local (if b then goes_to (record frame { pc = placed.next; stack = operands }) else wrong) ≡ false
    go true = refl
    go false = refl

load_is : (body : Body Operand) (placed : Placed Operand) (frame : Frame) (o : Option Value)
    → is_not_local (loads body placed frame o) ≡ false
load_is body placed frame None = refl
load_is body placed frame (Some value) = with_is body placed frame (Some (onto value frame.stack))

store_in_is : (placed : Placed Operand) (frame : Frame) (rest : List Value) (o : Option (List Value))
    → is_not_local (stores_in placed frame rest o) ≡ false
store_in_is placed frame rest None = refl
store_in_is placed frame rest (Some locals) = refl

store_is : (placed : Placed Operand) (frame : Frame) (n : ℕ) (o : Option Taken) → is_not_local (stores placed frame n o) ≡ false
store_is placed frame n None = refl
store_is placed frame n (Some taken) = store_in_is placed frame taken.rest (with_local n taken.value frame.locals)

increment_is : (placed : Placed Operand) (frame : Frame) (n : ℕ) (by : ℤ) (o : Option Value)
    → is_not_local (increments placed frame n by o) ≡ false
increment_is placed frame n by (Some (int a)) = store_in_is placed frame frame.stack (with_local n (int (int_wrap w32 (a +ℤ by))) frame.locals)
increment_is placed frame n by other = refl

branch_is : (placed : Placed Operand) (frame : Frame) (o : Option Branch) → is_not_local (branches placed frame o) ≡ false
branch_is placed frame None = refl
branch_is placed frame (Some branch) = refl

module _ (r : Running) (live : ℕ → Bool) (ready : Ready r live) where
  abbrev heap : HeapTyping
  heap = heap_typing r.state live

  -- what the current frame is, in the words of local steps
  abbrev parts : Parts heap (λ e. current_types e r.frame.pc) r.frame
  parts = record {
    e = ready.e;
    types = ready.before;
    is_environment = ready.is_environment;
    are_types = ready.is_before;
    fits = ready.fits;
    held = ready.held;
  }

  -- a local step that is kept is right
  kept_right : (step : Local) → is_not_local step ≡ false → Keeps heap r.frame step → IsTypedDeed r.state.world (deed_at r step)
  kept_right wrong local kept = kept
  kept_right not_local local kept = absurd cc
  kept_right (goes_to next) local kept = record {
    live = live;
    is = frames_set r.state live r.thread (next ∷ r.callers) ready.conforms
        (both (frame_conforms heap (λ e. current_types e next.pc) next) (callers_conform heap next.method.descriptor r.callers) kept.0
        (subst (λ (m : MemberReference). callers_conform heap m.descriptor r.callers ≡ true) (sym kept.1) ready.callers));
  }

  -- a local instruction is right
  local_right : (i : Instruction Operand) → ready.at.placed.instruction ≡ i
      → is_not_local (local_step_of r.body r.placed r.frame i) ≡ false → IsTypedDeed r.state.world (deed_at r (local_step_of r.body r.placed r.frame i))
  local_right i same local =
      kept_right (local_step_of r.body r.placed r.frame i) local
      (subst (λ (b : Body Operand). Keeps heap r.frame (local_step_of b r.placed r.frame i)) (sym ready.same_body)
      (subst (λ (p : Placed Operand). Keeps heap r.frame (local_step_of ready.e.body p r.frame i)) (sym ready.same_placed)
      (subst (λ (j : Instruction Operand). Keeps heap r.frame (local_step_of ready.e.body ready.at.placed r.frame j)) same
      (sound_keeps heap ready.runnable.verified r.frame parts ready.typed ready.at (local_step_of ready.e.body ready.at.placed r.frame ready.at.placed.instruction)
      (local_step_is_sound heap ready.e ready.at.placed r.frame ready.before ready.at.applies.after ready.fits ready.at.applies.is_after)))))

  -- ---- instructions that aren't local

  -- where a used static field's type is the one that typing reads
  shared_right : (i : Instruction Operand) → ready.at.placed.instruction ≡ i
      → IsTypedDeed r.state.world (shared_step r i) → IsTypedDeed r.state.world (deed_at r not_local)
  shared_right i same right =
      subst (λ (j : Instruction Operand). IsTypedDeed r.state.world (shared_step r j)) (sym (ap (λ (p : Placed Operand). p.instruction) ready.same_placed ∙ same)) right

  -- flow goes on behind it
  on_at : (i : Instruction Operand) → ready.at.placed.instruction ≡ i → goes_on i ≡ true → goes_on ready.at.placed.instruction ≡ true
  on_at i same on = ap goes_on same ∙ on

  -- it calls a method of that descriptor
  call_at : (m : MemberReference) (i : Instruction Operand) → ready.at.placed.instruction ≡ i → called i ≡ Some m
      → calls m.descriptor ready.at.placed.instruction ≡ true
  call_at m i same is =
      ap (calls m.descriptor) same ∙ (ap (passes (λ (n : MemberReference). bytes_eq n.descriptor m.descriptor)) is ∙ text_same m.descriptor m.descriptor refl)

  -- a field's type that typing reads is that of its use
  field_typed : (m : MemberReference) (type : FieldType) (next : VerificationType → Option TypeFrame) → field_type_of m.descriptor ≡ Some type
      → (option_map type_of (field_type_of m.descriptor) >>= next) ≡ Some ready.at.applies.after → next (type_of type) ≡ Some ready.at.applies.after
  field_typed m type next is h = sym (ap (λ (o : Option FieldType). option_map type_of o >>= next) is) ∙ h

  made_here : (name : List ℕ) → ready.at.placed.instruction ≡ new (class_named name) → class_made_at ready.e ready.at.placed.pc ≡ Some name
  made_here name same =
      ap (option_and_then (λ (p : Placed Operand). class_made p.instruction)) (ap (instruction_at ready.e.body) ready.at.is_pc ∙ ready.at.is_placed)
      ∙ ap class_made same

  -- each instruction is right
  pub instruction_right : (i : Instruction Operand) → ready.at.placed.instruction ≡ i
      → type_step ready.e ready.at.placed.pc i ready.before ≡ Some ready.at.applies.after → Uses r.state.world ready.e i
      → IsTypedDeed r.state.world (deed_at r (local_step_of r.body r.placed r.frame i))
  unfolding type_step local_step_of shared_step Uses goes_on
  instruction_right nop same h used = local_right nop same refl
  instruction_right aconst_null same h used = local_right aconst_null same (with_is r.body r.placed r.frame (Some (onto null r.frame.stack)))
  instruction_right (push_int n) same h used = local_right (push_int n) same (with_is r.body r.placed r.frame (Some (onto (int n) r.frame.stack)))
  instruction_right (push_long n) same h used = local_right (push_long n) same (with_is r.body r.placed r.frame (Some (onto (long n) r.frame.stack)))
  instruction_right (ldc (int_constant n)) same h used =
      local_right (ldc (int_constant n)) same (with_is r.body r.placed r.frame (Some (onto (int n) r.frame.stack)))
  instruction_right (ldc (string_constant units)) same h used =
      shared_right (ldc (string_constant units)) same (load_string_is_right r live ready (on_at (ldc (string_constant units)) same refl) units h)
  instruction_right (ldc operand) same h used = absurd cc
  instruction_right (ldc2_w (long_constant n)) same h used =
      local_right (ldc2_w (long_constant n)) same (with_is r.body r.placed r.frame (Some (onto (long n) r.frame.stack)))
  instruction_right (ldc2_w operand) same h used = absurd cc
  instruction_right (load kind n) same h used =
      local_right (load kind n) same (load_is r.body r.placed r.frame (local_of_kind kind n r.frame.locals))
  instruction_right (store kind n) same h used = local_right (store kind n) same (store_is r.placed r.frame n (taken_of kind r.frame.stack))
  instruction_right (array_load kind) same h used =
      shared_right (array_load kind) same (load_element_is_right r live ready (on_at (array_load kind) same refl) kind h)
  instruction_right (array_store kind) same h used =
      shared_right (array_store kind) same (store_element_is_right r live ready (on_at (array_store kind) same refl) kind h)
  instruction_right (stack form) same h used = local_right (stack form) same (with_is r.body r.placed r.frame (rearranged form r.frame.stack))
  instruction_right (int_arithmetic operation) same h used = go (is_division operation) refl
    where
      go : (b : Bool) → is_division operation ≡ b
          → IsTypedDeed r.state.world (deed_at r (if is_division operation then not_local else goes_on_with r.body r.placed r.frame (on_two_ints (λ a b. int (arithmetic_result w32 operation a b)) r.frame.stack)))
      go true is = rw is (shared_right (int_arithmetic operation) same (divide_ints_is_right r live ready (on_at (int_arithmetic operation) same refl) operation h))
      go false is = local_right (int_arithmetic operation) same (rw is (with_is r.body r.placed r.frame (on_two_ints (λ a b. int (arithmetic_result w32 operation a b)) r.frame.stack)))
  instruction_right (int_shift shift) same h used =
      local_right (int_shift shift) same (with_is r.body r.placed r.frame (on_two_ints (λ a b. int (shift_result w32 shift a b)) r.frame.stack))
  instruction_right int_negate same h used =
      local_right int_negate same (with_is r.body r.placed r.frame (on_int (λ a. int (negated w32 a)) r.frame.stack))
  instruction_right (long_arithmetic operation) same h used = go (is_division operation) refl
    where
      go : (b : Bool) → is_division operation ≡ b
          → IsTypedDeed r.state.world (deed_at r (if is_division operation then not_local else goes_on_with r.body r.placed r.frame (on_two_longs (λ a b. long (arithmetic_result w64 operation a b)) r.frame.stack)))
      go true is = rw is (shared_right (long_arithmetic operation) same (divide_longs_is_right r live ready (on_at (long_arithmetic operation) same refl) operation h))
      go false is = local_right (long_arithmetic operation) same (rw is (with_is r.body r.placed r.frame (on_two_longs (λ a b. long (arithmetic_result w64 operation a b)) r.frame.stack)))
  instruction_right (long_shift shift) same h used =
      local_right (long_shift shift) same (with_is r.body r.placed r.frame (on_long_and_int (λ a b. long (shift_result w64 shift a b)) r.frame.stack))
  instruction_right long_negate same h used =
      local_right long_negate same (with_is r.body r.placed r.frame (on_long (λ a. long (negated w64 a)) r.frame.stack))
  instruction_right (increment n by) same h used = local_right (increment n by) same (increment_is r.placed r.frame n by (slice_get r.frame.locals n))
  instruction_right (convert conversion) same h used =
      local_right (convert conversion) same (with_is r.body r.placed r.frame (converted conversion r.frame.stack))
  instruction_right compare_longs same h used =
      local_right compare_longs same (with_is r.body r.placed r.frame (on_two_longs (λ a b. int (order_of a b)) r.frame.stack))
  instruction_right (if_zero comparison target) same h used =
      local_right (if_zero comparison target) same (branch_is r.placed r.frame (branch_on_zero comparison target r.frame.stack))
  instruction_right (if_ints comparison target) same h used =
      local_right (if_ints comparison target) same (branch_is r.placed r.frame (branch_on_ints comparison target r.frame.stack))
  instruction_right (if_references wanted target) same h used =
      local_right (if_references wanted target) same (branch_is r.placed r.frame (branch_on_references wanted target r.frame.stack))
  instruction_right (if_null wanted target) same h used =
      local_right (if_null wanted target) same (branch_is r.placed r.frame (branch_on_null wanted target r.frame.stack))
  instruction_right (goto target) same h used = local_right (goto target) same refl
  instruction_right (tableswitch default low targets) same h used =
      local_right (tableswitch default low targets) same (branch_is r.placed r.frame (switch_on (table_target default low targets) r.frame.stack))
  instruction_right (lookupswitch default rows) same h used =
      local_right (lookupswitch default rows) same (branch_is r.placed r.frame (switch_on (row_target default rows) r.frame.stack))
  instruction_right (return_value kind) same h used = shared_right (return_value kind) same (return_value_is_right r live ready kind h)
  instruction_right return_void same h used = shared_right return_void same (return_void_is_right r live ready h)
  instruction_right (getstatic (member_named m)) same h used =
      shared_right (getstatic (member_named m)) same (get_static_is_right r live ready (on_at (getstatic (member_named m)) same refl) m used
      (field_typed m used.type (λ t. pushed ready.e (t ∷ []) ready.before) used.is_type h))
  instruction_right (getstatic operand) same h used = absurd cc
  instruction_right (putstatic (member_named m)) same h used =
      shared_right (putstatic (member_named m)) same (put_static_is_right r live ready (on_at (putstatic (member_named m)) same refl) m used
      (field_typed m used.type (λ t. popped (to ready.e t ∷ []) ready.before) used.is_type h))
  instruction_right (putstatic operand) same h used = absurd cc
  instruction_right (getfield (member_named m)) same h used =
      shared_right (getfield (member_named m)) same (get_field_is_right r live ready (on_at (getfield (member_named m)) same refl) m used
      (field_typed m used.type (λ t. changed ready.e (to ready.e (class m.class) ∷ []) (t ∷ []) ready.before) used.is_type h))
  instruction_right (getfield operand) same h used = absurd cc
  instruction_right (putfield (member_named m)) same h used =
      shared_right (putfield (member_named m)) same (put_field_is_right r live ready (on_at (putfield (member_named m)) same refl) m used.0 used.1
      (field_typed m used.0.type (λ t. popped (to ready.e t ∷ is_owner ready.e m ∷ []) ready.before) used.0.is_type h))
  instruction_right (putfield operand) same h used = absurd cc
  instruction_right (invokevirtual (member_named m)) same h used =
      shared_right (invokevirtual (member_named m)) same (virtual_is_right r live ready m used (call_at m (invokevirtual (member_named m)) same refl) h)
  instruction_right (invokevirtual operand) same h used = absurd cc
  instruction_right (invokespecial (member_named m)) same h used =
      shared_right (invokespecial (member_named m)) same (special_is_right r live ready m used (call_at m (invokespecial (member_named m)) same refl) h)
  instruction_right (invokespecial operand) same h used = absurd cc
  instruction_right (invokestatic (member_named m)) same h used =
      shared_right (invokestatic (member_named m)) same (static_is_right r live ready m used (call_at m (invokestatic (member_named m)) same refl) h)
  instruction_right (invokestatic operand) same h used = absurd cc
  instruction_right (invokeinterface (member_named m)) same h used =
      shared_right (invokeinterface (member_named m)) same (interface_is_right r live ready m used (call_at m (invokeinterface (member_named m)) same refl) h)
  instruction_right (invokeinterface operand) same h used = absurd cc
  instruction_right (new (class_named name)) same h used =
      let w = unless_is (is_array (type_of (named_type name)) || has (new_at ready.at.placed.pc) ready.before.stack) (pushed ready.e (new_at ready.at.placed.pc ∷ []) (record ready.before { locals = forgotten ready.at.placed.pc ready.before.locals })) ready.at.applies.after h in
      shared_right (new (class_named name)) same (new_is_right r live ready (on_at (new (class_named name)) same refl) name used.0 (made_here name same) w.1)
  instruction_right (new operand) same h used = absurd cc
  instruction_right (newarray type) same h used =
      shared_right (newarray type) same (new_array_is_right r live ready (on_at (newarray type) same refl) (primitive_type type) h)
  instruction_right (anewarray (class_named name)) same h used =
      shared_right (anewarray (class_named name)) same (new_array_is_right r live ready (on_at (anewarray (class_named name)) same refl) (named_type name) h)
  instruction_right (anewarray operand) same h used = absurd cc
  instruction_right arraylength same h used = shared_right arraylength same (array_length_is_right r live ready (on_at arraylength same refl) h)
  instruction_right athrow same h used = shared_right athrow same (throw_is_right r live ready h)
  instruction_right (checkcast (class_named name)) same h used =
      shared_right (checkcast (class_named name)) same (check_cast_is_right r live ready (on_at (checkcast (class_named name)) same refl) name h)
  instruction_right (checkcast operand) same h used = absurd cc
  instruction_right (instanceof (class_named name)) same h used =
      shared_right (instanceof (class_named name)) same (instance_of_is_right r live ready (on_at (instanceof (class_named name)) same refl) name h)
  instruction_right (instanceof operand) same h used = absurd cc
  instruction_right monitorenter same h used = shared_right monitorenter same (enter_is_right r live ready (on_at monitorenter same refl) h)
  instruction_right monitorexit same h used = shared_right monitorexit same (exit_is_right r live ready (on_at monitorexit same refl) h)
