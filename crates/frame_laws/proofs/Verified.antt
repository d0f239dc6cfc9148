-- A frame of types is also one of those that these go to; and the instruction that is found at a pc.
use Rattle.std.proofs.Common.{◌≡◌, ℕ, zero, suc, List, [], ◌∷◌, Option, Some, None, Bool, true, false, refl, subst, ◌&&◌, slice_get, find, ◌==◌, arith}
use Rattle.std.proofs.Math.Path.{◌∙◌}
use Rattle.std.proofs.lemmas.Bool.{and_parts, eq-eqb, cond-true, cond-false}
use lib.Pointwise.{pointwise}
use Rattle.jv_model.specs.Partial.{passes}
use Rattle.jv_model.specs.Operand.{Operand}
use Rattle.jv_model.specs.Code.{Placed, Body}
use Rattle.typing_model.specs.VerificationType.{VerificationType, long as long_type, TypeFrame, is_long, is_same}
use Rattle.typing_model.specs.Assignable.{assignable, locals_assignable, stack_assignable, frame_assignable}
use Rattle.typing_model.specs.Environment.{Environment}
use Rattle.machine_model.specs.Value.{Value, long, half}
use Rattle.machine_model.specs.State.{Frame}
use Rattle.machine_model.specs.LocalStep.{instruction_at}
use Rattle.machine_model.specs.TypedValues.{HeapTyping, is_of_type, are_of_types, fits_frame}
use Rattle.frame_laws.proofs.Outcome.{some_inj, both}
use Rattle.frame_laws.specs.Worlds.{StandsRight}
use Rattle.typing_laws.specs.Instructions.{IsFirstAt}
use Rattle.typing_laws.proofs.Frames.{lt-up}

-- ---- a frame goes to another, and so do its values

-- a value of a type is one of each type that this goes to
abbrev pub Subsumes : HeapTyping → Environment → Type 0
Subsumes heap e =
    (from to : VerificationType)
    (value : Value) → assignable e.world from to ≡ true → is_of_type heap e from value ≡ true → is_of_type heap e to value ≡ true

module _ (heap : HeapTyping) (e : Environment) (subsumes : Subsumes heap e) where
  -- locals of types are of those that these go to
  locals_go : (from to : List VerificationType) (values : List Value) → pointwise (assignable e.world) from to ≡ true
      → pointwise (is_of_type heap e) from values ≡ true
      → pointwise (is_of_type heap e) to values ≡ true
  locals_go [] [] [] a f = refl
  locals_go [] [] (value ∷ values) a f = absurd cc
  locals_go [] (t ∷ to) values a f = absurd cc
  locals_go (s ∷ from) [] values a f = absurd cc
  locals_go (s ∷ from) (t ∷ to) [] a f = absurd cc
  locals_go (s ∷ from) (t ∷ to) (value ∷ values) a f =
      let p = and_parts (assignable e.world s t) (pointwise (assignable e.world) from to) a in
      let q = and_parts (is_of_type heap e s value) (pointwise (is_of_type heap e) from values) f in
      both (is_of_type heap e t value) (pointwise (is_of_type heap e) to values) (subsumes s t value p.0 q.0) (locals_go from to values p.1 q.1)

  -- what isn't a Long doesn't go to Long
  pub stays_short : (from to : VerificationType) → is_long from ≡ false → assignable e.world from to ≡ true → is_long to ≡ false
  unfolding assignable is_same
  stays_short long_type to s a = absurd cc
  stays_short from long_type s a = absurd cc
  stays_short from to s a = refl

  -- a first type that is no Long is that of the first value alone
  pub short_first : (type : VerificationType) (types : List VerificationType) (value : Value) (values : List Value) → is_long type ≡ false
      → are_of_types heap e (type ∷ types) (value ∷ values) ≡ (is_of_type heap e type value && are_of_types heap e types values)
  unfolding are_of_types
  short_first long_type types value values s = absurd cc
  short_first type types value values s = refl

  -- the only Long is Long
  pub long_only : (type : VerificationType) → is_long type ≡ true → long_type ≡ type
  long_only long_type is = refl
  long_only type is = absurd cc

  -- operands of types are of those that these go to
  operands_go : (from to : List VerificationType) (values : List Value) → stack_assignable e.world from to ≡ true
      → are_of_types heap e from values ≡ true
      → are_of_types heap e to values ≡ true
  unfolding are_of_types
  operands_go [] [] [] a f = refl
  operands_go [] [] (value ∷ values) a f = absurd cc
  operands_go [] (t ∷ to) values a f = absurd cc
  operands_go (s ∷ from) [] values a f = absurd cc
  operands_go (long_type ∷ from) (t ∷ to) (half ∷ long n ∷ values) a f =
      let p = and_parts (is_long t) (stack_assignable e.world from to) a in
      subst (λ (u : VerificationType). are_of_types heap e (u ∷ to) (half ∷ long n ∷ values) ≡ true) (long_only t p.0) (operands_go from to values p.1 f)
  operands_go (long_type ∷ from) (t ∷ to) values a f = absurd cc
  operands_go (s ∷ from) (t ∷ to) [] a f = absurd cc
  operands_go (s ∷ from) (t ∷ to) (value ∷ values) a f =
      let p = and_parts (assignable e.world s t) (stack_assignable e.world from to) a in
      let q = and_parts (is_of_type heap e s value) (are_of_types heap e from values) f in
      short_first t to value values (stays_short s t refl p.0) ∙ both (is_of_type heap e t value) (are_of_types heap e to values)
      (subsumes s t value p.0 q.0) (operands_go from to values p.1 q.1)

  -- a frame of types is of those that these go to
  pub frame_goes : (frame : Frame) (from to : TypeFrame) → frame_assignable e.world from to ≡ true → fits_frame heap e frame from ≡ true
      → fits_frame heap e frame to ≡ true
  frame_goes frame from to a f =
      let p = and_parts (locals_assignable e.world from.locals to.locals) (stack_assignable e.world from.stack to.stack) a in
      let l = and_parts (pointwise (assignable e.world) from.locals to.locals) _ p.0 in
      let q = and_parts (pointwise (is_of_type heap e) from.locals frame.locals) (are_of_types heap e from.stack frame.stack) f in
      both (pointwise (is_of_type heap e) to.locals frame.locals) (are_of_types heap e to.stack frame.stack)
      (locals_go from.locals to.locals frame.locals l.0 q.0)
      (operands_go from.stack to.stack frame.stack p.1 q.1)

-- ---- the code

-- the instruction at its pc
pub found_at : (ps : List (Placed Operand)) (n : ℕ) (p : Placed Operand) → IsFirstAt ps n p.pc → slice_get ps n ≡ Some p
    → find (λ (i : Placed Operand). i.pc == p.pc) ps ≡ Some p
unfolding IsFirstAt
found_at [] n p first at = absurd cc
found_at (q ∷ ps) zero p first at =
    subst (λ (r : Placed Operand). find (λ (i : Placed Operand). i.pc == r.pc) (q ∷ ps) ≡ Some r) (some_inj at)
    (cond-true (q.pc == q.pc) (Some q) (find (λ (i : Placed Operand). i.pc == q.pc) ps) (eq-eqb q.pc q.pc refl))
found_at (q ∷ ps) (suc n) p first at =
    cond-false (q.pc == p.pc) (Some q) (find (λ (i : Placed Operand). i.pc == p.pc) ps) (first zero q (omega arith) refl)
    ∙ found_at ps n p (λ m r low there. first (suc m) r (lt-up low) there) at

-- no instruction stands at the pc of another
pub is_first : (body : Body Operand) → StandsRight body → (n : ℕ) (p : Placed Operand) → slice_get body.instructions n ≡ Some p
    → IsFirstAt body.instructions n p.pc
unfolding IsFirstAt
is_first body right n p at = λ m q low there. right.apart m n q p low there at

-- the instruction at the pc of one is that one
pub found : (body : Body Operand) → StandsRight body → (n : ℕ) (p : Placed Operand) → slice_get body.instructions n ≡ Some p
    → instruction_at body p.pc ≡ Some p
found body right n p at = found_at body.instructions n p (is_first body right n p at) at

-- what passes is there
pub some_and_is : {A : Type 0} (test : A → Bool) (o : Option A) → passes test o ≡ true → (x : A) × (o ≡ Some x) × (test x ≡ true)
some_and_is test None h = absurd cc
some_and_is test (Some x) h = (x, refl, h)
