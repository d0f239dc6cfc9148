-- A native method that has done its work goes on behind its call.
use Rattle.std.proofs.Common.{◌≡◌, ℕ, List, [], ◌∷◌, ◌++◌, Option, Some, None, Bool, true, ap, sym, subst, ◌∙◌, length, option_map, drop, inl, inr, nat_le}
use Rattle.std.specs.Prelude.{◌⊎◌, option_to_list, unwrap_or}
use Rattle.std.proofs.lemmas.Bool.{or_left, or_right}
use lib.Pointwise.{pointwise}
use Rattle.jv_model.specs.Descriptors.{FieldType, MethodType}
use Rattle.jv_model.specs.Operand.{Operand, MemberReference}
use Rattle.jv_model.specs.Code.{Body}
use Rattle.code_model.specs.TypeReading.{method_type_of}
use Rattle.typing_model.specs.VerificationType.{VerificationType, words_of, type_of}
use Rattle.typing_model.specs.CallTypes.{results}
use Rattle.machine_model.specs.Value.{Value, onto}
use Rattle.machine_model.specs.State.{State}
use Rattle.machine_model.specs.Deed.{Running, finishes}
use Rattle.machine_model.specs.TypedValues.{heap_typing, is_of_type, are_of_types}
use Rattle.machine_model.specs.Conforms.{calls, result_types}
use Rattle.frame_laws.proofs.Taking.{length_is_words}
use Rattle.frame_laws.proofs.Outcome.{some_inj, both}
use Rattle.machine_laws.specs.Runnable.{is_operand}
use Rattle.machine_laws.proofs.TypedStates.{IsTypedDeed}
use Rattle.machine_laws.proofs.Ready.{Ready, Follows, finishes_rightly, locals_then, operands_then}
use Rattle.machine_laws.proofs.Operands.{lands}
use Rattle.machine_laws.proofs.Calling.{CallShape, call_shape, call_goes_on}

-- What a call leaves below its arguments, and that it calls a method of that descriptor.
pub record Leaves (r : Running) (live : ℕ → Bool) (ready : Ready r live) (m : MemberReference) (others : List Value) : Type 0 where
  pub is_call : calls m.descriptor ready.at.placed.instruction ≡ true
  pub rest : are_of_types (heap_typing r.state live) ready.e (drop (length (result_types m.descriptor)) ready.at.applies.after.stack) others ≡ true

module _ (r : Running) (live : ℕ → Bool) (ready : Ready r live) (m : MemberReference) (type : MethodType)
    (is_type : method_type_of m.descriptor ≡ Some type) (others : List Value) (left : Leaves r live ready m others)
    (after : State) (more : ℕ → Bool) (follows : Follows r.state live after more) where
  shape : CallShape (heap_typing after more) ready.e m.descriptor ready.before ready.at.applies.after
  shape = call_shape (heap_typing after more) ready.e ready.typed.right ready.before ready.at.applies.after ready.at.placed.pc m.descriptor ready.at.placed.instruction left.is_call ready.at.applies.is_after

  same_type : shape.type ≡ type
  same_type = some_inj (sym shape.is_type ∙ is_type)

  results_are : result_types m.descriptor ≡ results type
  results_are = ap (λ (o : Option MethodType). unwrap_or (option_map results o) []) is_type

  -- it gives nothing
  pub ends_rightly : (words : ℕ) (mark : Bool) → type.result ≡ None → nat_le (length others) (length r.frame.stack) ≡ true
      → IsTypedDeed r.state.world (finishes words mark r after others)
  ends_rightly words mark none fewer =
      let on = call_goes_on (heap_typing after more) ready.e ready.typed.right ready.before ready.at.applies.after m.descriptor ready.at.placed.instruction left.is_call in
      let empty : result_types m.descriptor ≡ [] = results_are ∙ ap (λ (o : Option FieldType). option_to_list (option_map type_of o)) none in
      let below : are_of_types (heap_typing r.state live) ready.e ready.at.applies.after.stack others ≡ true =
      subst (λ (ts : List VerificationType). are_of_types (heap_typing r.state live) ready.e (drop (length ts) ready.at.applies.after.stack) others ≡ true) empty left.rest in
      finishes_rightly r live ready after more follows words mark others on
      (both (pointwise (is_of_type (heap_typing after more) ready.e) ready.at.applies.after.locals r.frame.locals) (are_of_types (heap_typing after more) ready.e ready.at.applies.after.stack others)
      (shape.locals r.frame.locals (locals_then r live ready after more follows)) (operands_then r live ready after more follows ready.at.applies.after.stack others below))
      (or_right (nat_le (length others) r.body.max_stack) (nat_le (length others) (length r.frame.stack)) fewer)

  -- it gives a value of its type
  pub gives_rightly : (words : ℕ) (mark : Bool) (t : FieldType) (value : Value) → type.result ≡ Some t → is_operand (type_of t) ≡ true
      → is_of_type (heap_typing after more) ready.e (type_of t) value ≡ true
      → IsTypedDeed r.state.world (finishes words mark r after (onto value others))
  gives_rightly words mark t value some operand of =
      let on = call_goes_on (heap_typing after more) ready.e ready.typed.right ready.before ready.at.applies.after m.descriptor ready.at.placed.instruction left.is_call in
      let one : results type ≡ type_of t ∷ [] = ap (λ (o : Option FieldType). option_to_list (option_map type_of o)) some in
      let stack : ready.at.applies.after.stack ≡ type_of t ∷ shape.rest = shape.stack ∙ ap (λ (ts : List VerificationType). ts ++ shape.rest) (ap results same_type ∙ one) in
      let below : are_of_types (heap_typing r.state live) ready.e shape.rest others ≡ true =
      subst (λ (ts : List VerificationType). are_of_types (heap_typing r.state live) ready.e (drop 1 ts) others ≡ true) stack
      (subst (λ (ts : List VerificationType). are_of_types (heap_typing r.state live) ready.e (drop (length ts) ready.at.applies.after.stack) others ≡ true) (results_are ∙ one) left.rest) in
      let landed : are_of_types (heap_typing after more) ready.e ready.at.applies.after.stack (onto value others) ≡ true =
      subst (λ (ts : List VerificationType). are_of_types (heap_typing after more) ready.e ts (onto value others) ≡ true) (sym stack)
      (lands (heap_typing after more) ready.e (type_of t) value operand of shape.rest others (operands_then r live ready after more follows shape.rest others below)) in
      finishes_rightly r live ready after more follows words mark (onto value others) on
      (both (pointwise (is_of_type (heap_typing after more) ready.e) ready.at.applies.after.locals r.frame.locals) (are_of_types (heap_typing after more) ready.e ready.at.applies.after.stack (onto value others))
      (shape.locals r.frame.locals (locals_then r live ready after more follows)) landed)
      (or_left (nat_le (length (onto value others)) r.body.max_stack) (nat_le (length (onto value others)) (length r.frame.stack))
      (room shape.room one landed))
    where
      room : (results shape.type ≡ []) ⊎ (nat_le (words_of ready.at.applies.after.stack) ready.e.body.max_stack ≡ true)
          → results type ≡ type_of t ∷ []
          → are_of_types (heap_typing after more) ready.e ready.at.applies.after.stack (onto value others) ≡ true
          → nat_le (length (onto value others)) r.body.max_stack ≡ true
      room (inl none) one landed = absurd (let same : type_of t ∷ [] ≡ [] = sym one ∙ (ap results (sym same_type) ∙ none) in cc)
      room (inr fits) one landed =
          ap (λ (n : ℕ). nat_le n r.body.max_stack) (length_is_words (heap_typing after more) ready.e ready.at.applies.after.stack (onto value others) landed)
          ∙ (ap (λ (b : Body Operand). nat_le (words_of ready.at.applies.after.stack) b.max_stack) ready.same_body ∙ fits)
