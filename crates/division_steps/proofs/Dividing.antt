-- What divisions come to.
use Rattle.std.proofs.Common.{◌≡◌, ◌≢◌, ℕ, ℤ, pos, Bool, true, false, List, ◌∷◌, ◌++◌, refl, ap, sym, subst, ◌∙◌, arith}
use Rattle.std.proofs.lemmas.Int.{ints, to_z-of_z}
use Rattle.std.specs.Prelude.{if◌then◌else◌, FitsSigned}
use Rattle.std.specs.Int.{Width, w32, w64, cast_signed, cast_unsigned}
use Rattle.jv_model.specs.Descriptors.{FieldType}
use Rattle.jv_model.specs.Instruction.{Arithmetic, of_int, of_long, int_arithmetic, long_arithmetic}
use Rattle.machine_model.specs.Arithmetic.{is_division, arithmetic_result, same_int}
use Rattle.machine_model.specs.Value as model
use Rattle.machine_model.specs.Value.{onto, taken_of}
use Rattle.machine_model.specs.State.{State}
use Rattle.machine_model.specs.LocalStep.{not_local, goes_on_with, local_step_of}
use Rattle.machine_model.specs.Operands.{on_two_ints, on_two_longs}
use Rattle.machine_model.specs.Deed.{throws, wrong, Running, operands, goes_on}
use Rattle.machine_model.specs.DivisionSteps.{divided_by_zero, divide_ints, divide_longs}
use Rattle.machine_model.specs.SharedStep.{deed_of, shared_step}
use Rattle.jv_values.specs.declared.value.Value.{Value}
use Rattle.jv_values.specs.declared.value.Value.TheVariants.{Int, Long}
use Rattle.jv_values.specs.Values.{value_of}
use Rattle.thread_frames.specs.Frames.{words_of}
use Rattle.heap_objects.specs.Ids.{Ids, ids_of, value_by}
use Rattle.frame_stacks.specs.Threads.{change_thread}
use Rattle.machine_threads.specs.Laws.{frame_in, goes_to}
use Rattle.frame_operands.specs.Operands.{HasTwo}
use Rattle.machine_parts.specs.Parts.{Machine, StandsFor}
use Rattle.machine_parts.specs.Steps.{IsAt, IsDone}
use Rattle.machine_parts.proofs.Operands.{tops}
use Rattle.machine_parts.proofs.Steps.{running, deed_is}
use Rattle.machine_throws.specs.declared.outcome.Throwable.TheVariants as throwables
use Rattle.machine_throws.specs.Names.{name_of}
use Rattle.machine_throws.proofs.Found.{found_one, found_next, has_two}
use Rattle.machine_throws.proofs.Replacing.{operands_are_two, two_are_live, replaced_is_done}

-- ---- zero

pub zero_is_same : (b : ℤ) → b ≡ pos 0 → same_int b (pos 0) ≡ true
zero_is_same b is = ap (λ n. same_int n (pos 0)) is

same_is : (a b : ℤ) → same_int a b ≡ true → a ≡ b
same_is a b is = grind (arith, ints)

pub other_is_not : (b : ℤ) → b ≢ pos 0 → same_int b (pos 0) ≡ false
other_is_not b other = by (same_int b (pos 0)) refl
  where
    by : (test : Bool) → same_int b (pos 0) ≡ test → same_int b (pos 0) ≡ false
    by true is = absurd (other (same_is b (pos 0) is))
    by false is = is

-- a number whose bits are 0
pub zero_by_bits : (w : Width) (b : ℤ) → FitsSigned w b → cast_signed w 0 ≡ pos 0 → cast_unsigned w b ≡ 0 → b ≡ pos 0
zero_by_bits w b fits zero_is is = sym (to_z-of_z w b fits) ∙ ap (cast_signed w) is ∙ zero_is

-- ---- ints

-- The operands begin with these two ints.
pub record AreInts (operands : List model.Value) : Type 0 where
  pub a : ℤ
  pub b : ℤ
  pub rest : List model.Value
  pub is : operands ≡ model.int b ∷ model.int a ∷ rest

pub ints_there : (run : Running) (operation : Arithmetic) (operands : List model.Value) → divide_ints run operation operands ≢ wrong → AreInts operands
ints_there run operation (model.int b ∷ model.int a ∷ rest) right = record { a = a; b = b; rest = rest; is = refl }
ints_there run operation operands right = absurd (right refl)

module _ (machine : Machine) (t next : ℕ) (operation : Arithmetic) (at : IsAt machine t next (int_arithmetic operation))
    (division : is_division operation ≡ true) (types : List FieldType) (state : State) (stands : StandsFor types machine state) where
  abbrev pub int_run : Running
  int_run = running machine t next (int_arithmetic operation) at types state stands

  abbrev pub int_ids : Ids
  int_ids = ids_of machine.heap

  pub int_deed : deed_of state t ≡ divide_ints int_run operation (operands int_run)
  unfolding shared_step local_step_of
  int_deed = deed_is machine t next (int_arithmetic operation) at types state stands (int_arithmetic operation) refl
      (ap (λ (b : Bool). if b then not_local else goes_on_with at.body at.placed (frame_in state.world int_ids at.frame)
      (on_two_ints (λ a b. model.int (arithmetic_result w32 operation a b)) (tops int_ids.id at.frame.stack))) division)

  -- the two ints are there
  abbrev pub has_ints : deed_of state t ≢ wrong → HasTwo machine.stacks t of_int of_int
  has_ints right =
      let are = ints_there int_run operation (operands int_run) (λ is. right (int_deed ∙ is)) in
      let one = found_one of_int int_ids.id at.frame.stack (record { value = model.int are.b; rest = model.int are.a ∷ are.rest })
      (ap (taken_of of_int) are.is) in
      has_two at.newest one (found_next of_int of_int int_ids.id at.frame.stack (record { value = model.int are.b; rest = model.int are.a ∷ are.rest })
      (record { value = model.int are.a; rest = are.rest }) one refl)

  pub ints_divided : (between below : List Value) (first second : Value) (a b : ℤ) → at.frame.stack ≡ between ++ words_of second
      → between ≡ below ++ words_of first → first ≡ Int a → second ≡ Int b
      → deed_of state t ≡ (if same_int b (pos 0) then divided_by_zero
      else goes_on int_run state (model.int (arithmetic_result w32 operation a b) ∷ tops int_ids.id below))
  ints_divided between below first second a b top under first_is second_is =
      int_deed ∙ ap (divide_ints int_run operation)
      (operands_are_two machine t next (int_arithmetic operation) at types state stands between below first second top under
      ∙ (λ i. onto (value_by int_ids.id (value_of (second_is i))) (onto (value_by int_ids.id (value_of (first_is i))) (tops int_ids.id below))))

  pub ints_by_zero : (between below : List Value) (first second : Value) (a b : ℤ) → at.frame.stack ≡ between ++ words_of second
      → between ≡ below ++ words_of first → first ≡ Int a → second ≡ Int b → b ≡ pos 0
      → deed_of state t ≡ throws (name_of throwables.Arithmetic) false
  ints_by_zero between below first second a b top under first_is second_is is_zero =
      ints_divided between below first second a b top under first_is second_is
      ∙ ap (λ (test : Bool). if test then divided_by_zero
      else goes_on int_run state (model.int (arithmetic_result w32 operation a b) ∷ tops int_ids.id below)) (zero_is_same b is_zero)

  pub ints_are_divided : (between below : List Value) (first second : Value) (a b result : ℤ) → at.frame.stack ≡ between ++ words_of second
      → between ≡ below ++ words_of first → first ≡ Int a → second ≡ Int b → b ≢ pos 0 → result ≡ arithmetic_result w32 operation a b
      → IsDone types t (record machine { stacks = change_thread t (goes_to next (below ++ words_of (Int result)) false) machine.stacks })
      (deed_of state t)
  ints_are_divided between below first second a b result top under first_is second_is other result_is =
      subst (IsDone types t (record machine { stacks = change_thread t (goes_to next (below ++ words_of (Int result)) false) machine.stacks }))
      (sym (ints_divided between below first second a b top under first_is second_is
      ∙ ap (λ (test : Bool). if test then divided_by_zero
      else goes_on int_run state (model.int (arithmetic_result w32 operation a b) ∷ tops int_ids.id below)) (other_is_not b other)
      ∙ ap (λ n. goes_on int_run state (model.int n ∷ tops int_ids.id below)) (sym result_is)))
      (replaced_is_done machine t next (int_arithmetic operation) at types state stands below (Int result) (tops int_ids.id below) refl
      (two_are_live machine t next (int_arithmetic operation) at types state stands between below first second top under).0 refl)

-- ---- longs

-- The operands begin with these two longs.
pub record AreLongs (operands : List model.Value) : Type 0 where
  pub a : ℤ
  pub b : ℤ
  pub rest : List model.Value
  pub is : operands ≡ model.half ∷ model.long b ∷ model.half ∷ model.long a ∷ rest

pub longs_there : (run : Running) (operation : Arithmetic) (operands : List model.Value) → divide_longs run operation operands ≢ wrong → AreLongs operands
longs_there run operation (model.half ∷ model.long b ∷ model.half ∷ model.long a ∷ rest) right = record { a = a; b = b; rest = rest; is = refl }
longs_there run operation operands right = absurd (right refl)

module _ (machine : Machine) (t next : ℕ) (operation : Arithmetic) (at : IsAt machine t next (long_arithmetic operation))
    (division : is_division operation ≡ true) (types : List FieldType) (state : State) (stands : StandsFor types machine state) where
  abbrev pub long_run : Running
  long_run = running machine t next (long_arithmetic operation) at types state stands

  abbrev pub long_ids : Ids
  long_ids = ids_of machine.heap

  pub long_deed : deed_of state t ≡ divide_longs long_run operation (operands long_run)
  unfolding shared_step local_step_of
  long_deed = deed_is machine t next (long_arithmetic operation) at types state stands (long_arithmetic operation) refl
      (ap (λ (b : Bool). if b then not_local else goes_on_with at.body at.placed (frame_in state.world long_ids at.frame)
      (on_two_longs (λ a b. model.long (arithmetic_result w64 operation a b)) (tops long_ids.id at.frame.stack))) division)

  -- the two longs are there
  abbrev pub has_longs : deed_of state t ≢ wrong → HasTwo machine.stacks t of_long of_long
  has_longs right =
      let are = longs_there long_run operation (operands long_run) (λ is. right (long_deed ∙ is)) in
      let upper : model.Taken = record { value = model.long are.b; rest = model.half ∷ model.long are.a ∷ are.rest } in
      let one = found_one of_long long_ids.id at.frame.stack upper (ap (taken_of of_long) are.is) in
      has_two at.newest one (found_next of_long of_long long_ids.id at.frame.stack upper (record { value = model.long are.a; rest = are.rest }) one refl)

  pub longs_divided : (between below : List Value) (first second : Value) (a b : ℤ) → at.frame.stack ≡ between ++ words_of second
      → between ≡ below ++ words_of first → first ≡ Long a → second ≡ Long b
      → deed_of state t ≡ (if same_int b (pos 0) then divided_by_zero
      else goes_on long_run state (onto (model.long (arithmetic_result w64 operation a b)) (tops long_ids.id below)))
  longs_divided between below first second a b top under first_is second_is =
      long_deed ∙ ap (divide_longs long_run operation)
      (operands_are_two machine t next (long_arithmetic operation) at types state stands between below first second top under
      ∙ (λ i. onto (value_by long_ids.id (value_of (second_is i))) (onto (value_by long_ids.id (value_of (first_is i))) (tops long_ids.id below))))

  pub longs_by_zero : (between below : List Value) (first second : Value) (a b : ℤ) → at.frame.stack ≡ between ++ words_of second
      → between ≡ below ++ words_of first → first ≡ Long a → second ≡ Long b → b ≡ pos 0
      → deed_of state t ≡ throws (name_of throwables.Arithmetic) false
  longs_by_zero between below first second a b top under first_is second_is is_zero =
      longs_divided between below first second a b top under first_is second_is
      ∙ ap (λ (test : Bool). if test then divided_by_zero
      else goes_on long_run state (onto (model.long (arithmetic_result w64 operation a b)) (tops long_ids.id below))) (zero_is_same b is_zero)

  pub longs_are_divided : (between below : List Value) (first second : Value) (a b result : ℤ) → at.frame.stack ≡ between ++ words_of second
      → between ≡ below ++ words_of first → first ≡ Long a → second ≡ Long b → b ≢ pos 0 → result ≡ arithmetic_result w64 operation a b
      → IsDone types t (record machine { stacks = change_thread t (goes_to next (below ++ words_of (Long result)) false) machine.stacks })
      (deed_of state t)
  longs_are_divided between below first second a b result top under first_is second_is other result_is =
      subst (IsDone types t (record machine { stacks = change_thread t (goes_to next (below ++ words_of (Long result)) false) machine.stacks }))
      (sym (longs_divided between below first second a b top under first_is second_is
      ∙ ap (λ (test : Bool). if test then divided_by_zero
      else goes_on long_run state (onto (model.long (arithmetic_result w64 operation a b)) (tops long_ids.id below))) (other_is_not b other)
      ∙ ap (λ n. goes_on long_run state (onto (model.long n) (tops long_ids.id below))) (sym result_is)))
      (replaced_is_done machine t next (long_arithmetic operation) at types state stands below (Long result) (tops long_ids.id below) refl
      (two_are_live machine t next (long_arithmetic operation) at types state stands between below first second top under).0 refl)
