-- Division of ints and longs is right.
use Rattle.std.proofs.Common.{◌≡◌, ℕ, pos, List, [], ◌∷◌, Some, Bool, true, false, refl, ap, sym, subst, ◌∙◌, if◌then◌else◌, codes}
use Rattle.std.specs.Int.{w32, w64}
use Rattle.jv_model.specs.Flow.{goes_on as flow_goes_on}
use Rattle.jv_model.specs.Instruction.{Arithmetic}
use Rattle.typing_model.specs.VerificationType.{VerificationType, int as int_type, long as long_type, is_int, is_long}
use Rattle.typing_model.specs.Transition.{below, pushed, changed}
use Rattle.machine_model.specs.Value.{Value, int, long, half, onto}
use Rattle.machine_model.specs.Arithmetic.{arithmetic_result, same_int}
use Rattle.machine_model.specs.Deed.{Deed, Running, goes_on}
use Rattle.machine_model.specs.DivisionSteps.{divided_by_zero, divide_ints, divide_longs}
use Rattle.machine_model.specs.TypedValues.{heap_typing, are_of_types}
use Rattle.frame_laws.proofs.Taking.{take_int, take_long}
use Rattle.frame_laws.proofs.Outcome.{some_inj, changed_is, Lands}
use Rattle.frame_laws.proofs.Numbers.{int_lands, long_lands}
use Rattle.machine_laws.proofs.TypedStates.{IsTypedDeed}
use Rattle.machine_laws.proofs.Ready.{Ready, itself, throws_rightly, operands_fit, pushes_rightly}

module _ (r : Running) (live : ℕ → Bool) (ready : Ready r live) (on : flow_goes_on ready.at.placed.instruction ≡ true) where
  -- a result in place of the operands is right
  pub gives_rightly : (type : VerificationType) (rest types : List VerificationType) (value : Value) (others : List Value)
      → pushed ready.e (type ∷ []) (record ready.before { stack = rest }) ≡ Some ready.at.applies.after
      → below [] types ≡ Some rest → are_of_types (heap_typing r.state live) ready.e types others ≡ true
      → Lands (heap_typing r.state live) ready.e type value
      → IsTypedDeed r.state.world (goes_on r r.state (onto value others))
  unfolding below
  gives_rightly type rest types value others h none f lands =
      pushes_rightly r live ready r.state live (itself r.state live ready.conforms) 0 false (type ∷ []) rest (onto value others) on h
      (lands rest others (subst (λ (ts : List VerificationType). are_of_types (heap_typing r.state live) ready.e ts others ≡ true) (some_inj none) f))

  unless_zero : (zero : Bool) (deed : Deed) → IsTypedDeed r.state.world deed
      → IsTypedDeed r.state.world (if zero then divided_by_zero else deed)
  unless_zero true deed right = throws_rightly r live ready (codes "java/lang/ArithmeticException") false refl
  unless_zero false deed right = right

  pub divide_ints_is_right : (operation : Arithmetic)
      → changed ready.e (is_int ∷ is_int ∷ []) (int_type ∷ []) ready.before ≡ Some ready.at.applies.after
      → IsTypedDeed r.state.world (divide_ints r operation r.frame.stack)
  divide_ints_is_right operation h =
      let c = changed_is ready.e (is_int ∷ is_int ∷ []) (int_type ∷ []) ready.before ready.at.applies.after h in
      let y = take_int (heap_typing r.state live) ready.e (is_int ∷ []) ready.before.stack c.0 r.frame.stack c.1 (operands_fit r live ready) in
      let x = take_int (heap_typing r.state live) ready.e [] y.types c.0 y.others y.are_below y.fit in
      subst (λ (vs : List Value). IsTypedDeed r.state.world (divide_ints r operation vs)) (sym (y.is ∙ ap (λ vs. int y.found ∷ vs) x.is))
      (unless_zero (same_int y.found (pos 0)) _ (gives_rightly int_type c.0 x.types (int (arithmetic_result w32 operation x.found y.found)) x.others c.2 x.are_below x.fit (int_lands (heap_typing r.state live) ready.e _)))

  pub divide_longs_is_right : (operation : Arithmetic)
      → changed ready.e (is_long ∷ is_long ∷ []) (long_type ∷ []) ready.before ≡ Some ready.at.applies.after
      → IsTypedDeed r.state.world (divide_longs r operation r.frame.stack)
  divide_longs_is_right operation h =
      let c = changed_is ready.e (is_long ∷ is_long ∷ []) (long_type ∷ []) ready.before ready.at.applies.after h in
      let y = take_long (heap_typing r.state live) ready.e (is_long ∷ []) ready.before.stack c.0 r.frame.stack c.1 (operands_fit r live ready) in
      let x = take_long (heap_typing r.state live) ready.e [] y.types c.0 y.others y.are_below y.fit in
      subst (λ (vs : List Value). IsTypedDeed r.state.world (divide_longs r operation vs)) (sym (y.is ∙ ap (λ vs. half ∷ long y.found ∷ vs) x.is))
      (unless_zero (same_int y.found (pos 0)) _ (gives_rightly long_type c.0 x.types (long (arithmetic_result w64 operation x.found y.found)) x.others c.2 x.are_below x.fit (long_lands (heap_typing r.state live) ready.e _)))
