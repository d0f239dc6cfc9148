-- Constants, arithmetic, shifts, negation, conversions and comparisons are sound.
use Rattle.std.proofs.Common.{◌≡◌, ℤ, List, [], ◌∷◌, Option, Some, true, refl, ap, subst}
use Rattle.std.proofs.Math.Path.{◌∙◌}
use lib.Pointwise.{pointwise}
use Rattle.jv_model.specs.Operand.{Operand}
use Rattle.jv_model.specs.Flow.{goes_on}
use Rattle.jv_model.specs.Code.{Placed}
use Rattle.jv_model.specs.Instruction.{Conversion, int_to_long, long_to_int, int_to_byte, int_to_char, int_to_short}
use Rattle.typing_model.specs.VerificationType.{VerificationType, int as int_type, long as long_type, TypeFrame, is_int, is_long}
use Rattle.typing_model.specs.Environment.{Environment}
use Rattle.typing_model.specs.Transition.{below, pushed, changed}
use Rattle.typing_model.specs.NumberTypes.{converted as type_converted}
use Rattle.std.specs.Int.{w32, int_wrap}
use Rattle.machine_model.specs.Arithmetic.{as_byte, as_char, as_short}
use Rattle.machine_model.specs.Value.{Value, int, long, half, onto}
use Rattle.machine_model.specs.State.{Frame}
use Rattle.machine_model.specs.Operands.{on_int, on_two_ints, on_long, on_two_longs, on_long_and_int, converted}
use Rattle.machine_model.specs.LocalStep.{goes_on_with, pushes}
use Rattle.machine_model.specs.TypedValues.{HeapTyping, is_of_type, are_of_types}
use Rattle.frame_laws.proofs.Taking.{take_int, take_long}
use Rattle.frame_laws.proofs.Outcome.{IsSound, Lands, some_inj, changed_is, pushed_is_sound}

-- what is known of a frame before a step, and that flow goes on behind it
pub record Before (heap : HeapTyping) (e : Environment) (placed : Placed Operand) (frame : Frame) (before : TypeFrame) : Type 0 where
  pub locals : pointwise (is_of_type heap e) before.locals frame.locals ≡ true
  pub stack : are_of_types heap e before.stack frame.stack ≡ true
  pub on : goes_on placed.instruction ≡ true

-- an int comes onto the stack
pub int_lands : (heap : HeapTyping) (e : Environment) (n : ℤ) → Lands heap e int_type (int n)
unfolding are_of_types is_of_type
int_lands heap e n types others f = f

-- a long comes onto the stack
pub long_lands : (heap : HeapTyping) (e : Environment) (n : ℤ) → Lands heap e long_type (long n)
unfolding are_of_types
long_lands heap e n types others f = f

module _ (heap : HeapTyping) (e : Environment) (placed : Placed Operand) (frame : Frame) (before after : TypeFrame) (b : Before heap e placed frame before) where
  -- pushing a value of the type pushed is sound
  pub push_is_sound : (type : VerificationType) (value : Value) → Lands heap e type value → pushed e (type ∷ []) before ≡ Some after
      → IsSound heap e placed frame after (pushes e.body placed frame value)
  push_is_sound type value lands h =
      pushed_is_sound heap e placed frame (type ∷ []) before after (Some (onto value frame.stack)) (onto value frame.stack) refl h b.locals
      (lands before.stack frame.stack b.stack) b.on

  -- a result in place of the operands
  result_is_sound : (type : VerificationType) (rest types : List VerificationType) (result : Option (List Value)) (value : Value)
      (others : List Value) → result ≡ Some (onto value others)
      → pushed e (type ∷ []) (record before { stack = rest }) ≡ Some after → below [] types ≡ Some rest
      → are_of_types heap e types others ≡ true → Lands heap e type value
      → IsSound heap e placed frame after (goes_on_with e.body placed frame result)
  unfolding below
  result_is_sound type rest types result value others is h none f lands =
      pushed_is_sound heap e placed frame (type ∷ []) (record before { stack = rest }) after result (onto value others) is h b.locals
      (lands rest others (subst (λ (ts : List VerificationType). are_of_types heap e ts others ≡ true) (some_inj none) f)) b.on

  -- what takes an int is sound
  pub on_int_is_sound : (type : VerificationType) (f : ℤ → Value) → ((n : ℤ) → Lands heap e type (f n))
      → changed e (is_int ∷ []) (type ∷ []) before ≡ Some after
      → IsSound heap e placed frame after (goes_on_with e.body placed frame (on_int f frame.stack))
  on_int_is_sound type f lands h =
      let c = changed_is e (is_int ∷ []) (type ∷ []) before after h in
      let x = take_int heap e [] before.stack c.0 frame.stack c.1 b.stack in
      result_is_sound type c.0 x.types (on_int f frame.stack) (f x.found) x.others (ap (on_int f) x.is) c.2 x.are_below x.fit (lands x.found)

  -- what takes two ints is sound
  pub on_two_ints_is_sound : (type : VerificationType) (f : ℤ → ℤ → Value) → ((n m : ℤ) → Lands heap e type (f n m))
      → changed e (is_int ∷ is_int ∷ []) (type ∷ []) before ≡ Some after
      → IsSound heap e placed frame after (goes_on_with e.body placed frame (on_two_ints f frame.stack))
  on_two_ints_is_sound type f lands h =
      let c = changed_is e (is_int ∷ is_int ∷ []) (type ∷ []) before after h in
      let y = take_int heap e (is_int ∷ []) before.stack c.0 frame.stack c.1 b.stack in
      let x = take_int heap e [] y.types c.0 y.others y.are_below y.fit in
      result_is_sound type c.0 x.types (on_two_ints f frame.stack) (f x.found y.found) x.others
      (ap (on_two_ints f) (y.is ∙ ap (λ vs. int y.found ∷ vs) x.is)) c.2 x.are_below x.fit (lands x.found y.found)

  -- what takes a long is sound
  pub on_long_is_sound : (type : VerificationType) (f : ℤ → Value) → ((n : ℤ) → Lands heap e type (f n))
      → changed e (is_long ∷ []) (type ∷ []) before ≡ Some after
      → IsSound heap e placed frame after (goes_on_with e.body placed frame (on_long f frame.stack))
  on_long_is_sound type f lands h =
      let c = changed_is e (is_long ∷ []) (type ∷ []) before after h in
      let x = take_long heap e [] before.stack c.0 frame.stack c.1 b.stack in
      result_is_sound type c.0 x.types (on_long f frame.stack) (f x.found) x.others (ap (on_long f) x.is) c.2 x.are_below x.fit (lands x.found)

  -- what takes two longs is sound
  pub on_two_longs_is_sound : (type : VerificationType) (f : ℤ → ℤ → Value) → ((n m : ℤ) → Lands heap e type (f n m))
      → changed e (is_long ∷ is_long ∷ []) (type ∷ []) before ≡ Some after
      → IsSound heap e placed frame after (goes_on_with e.body placed frame (on_two_longs f frame.stack))
  on_two_longs_is_sound type f lands h =
      let c = changed_is e (is_long ∷ is_long ∷ []) (type ∷ []) before after h in
      let y = take_long heap e (is_long ∷ []) before.stack c.0 frame.stack c.1 b.stack in
      let x = take_long heap e [] y.types c.0 y.others y.are_below y.fit in
      result_is_sound type c.0 x.types (on_two_longs f frame.stack) (f x.found y.found) x.others
      (ap (on_two_longs f) (y.is ∙ ap (λ vs. half ∷ long y.found ∷ vs) x.is)) c.2 x.are_below x.fit (lands x.found y.found)

  -- what takes a long and an int is sound
  pub on_long_and_int_is_sound : (type : VerificationType) (f : ℤ → ℤ → Value) → ((n m : ℤ) → Lands heap e type (f n m))
      → changed e (is_int ∷ is_long ∷ []) (type ∷ []) before ≡ Some after
      → IsSound heap e placed frame after (goes_on_with e.body placed frame (on_long_and_int f frame.stack))
  on_long_and_int_is_sound type f lands h =
      let c = changed_is e (is_int ∷ is_long ∷ []) (type ∷ []) before after h in
      let y = take_int heap e (is_long ∷ []) before.stack c.0 frame.stack c.1 b.stack in
      let x = take_long heap e [] y.types c.0 y.others y.are_below y.fit in
      result_is_sound type c.0 x.types (on_long_and_int f frame.stack) (f x.found y.found) x.others
      (ap (on_long_and_int f) (y.is ∙ ap (λ vs. int y.found ∷ vs) x.is)) c.2 x.are_below x.fit (lands x.found y.found)

  -- conversions are sound
  pub converted_is_sound : (conversion : Conversion) → type_converted e conversion before ≡ Some after
      → IsSound heap e placed frame after (goes_on_with e.body placed frame (converted conversion frame.stack))
  converted_is_sound int_to_long h = on_int_is_sound long_type (λ a. long a) (λ n. long_lands heap e n) h
  converted_is_sound long_to_int h = on_long_is_sound int_type (λ a. int (int_wrap w32 a)) (λ n. int_lands heap e (int_wrap w32 n)) h
  converted_is_sound int_to_byte h = on_int_is_sound int_type (λ a. int (as_byte a)) (λ n. int_lands heap e (as_byte n)) h
  converted_is_sound int_to_char h = on_int_is_sound int_type (λ a. int (as_char a)) (λ n. int_lands heap e (as_char n)) h
  converted_is_sound int_to_short h = on_int_is_sound int_type (λ a. int (as_short a)) (λ n. int_lands heap e (as_short n)) h
