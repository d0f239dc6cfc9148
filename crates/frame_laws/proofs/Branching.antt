-- Branches and switches are sound.
use Rattle.std.proofs.Common.{◌≡◌, ℕ, zero, suc, ℤ, pos, ◌-ℤ◌, int_le, unsigned_abs, List, [], ◌∷◌, Option, Some, None, Bool, true, false, refl, ap, subst, if◌then◌else◌, cond, not, unwrap_or, slice_get, find, option_map, map, ◌==◌, inl, inr}
use Rattle.std.proofs.Math.Path.{◌∙◌}
use lib.Pointwise.{pointwise}
use Rattle.jv_model.specs.Operand.{Operand}
use Rattle.jv_model.specs.Code.{Placed}
use Rattle.jv_model.specs.Instruction.{Comparison}
use Rattle.typing_model.specs.VerificationType.{VerificationType, TypeFrame, is_int, is_reference}
use Rattle.typing_model.specs.Environment.{Environment}
use Rattle.typing_model.specs.Transition.{below, popped}
use Rattle.machine_model.specs.Value.{Value, int}
use Rattle.machine_model.specs.State.{Frame}
use Rattle.machine_model.specs.Arithmetic.{compares, same_int}
use Rattle.machine_model.specs.Branches.{Branch, where_to, where_answered, same_reference, branch_on_zero, branch_on_ints, branch_on_references, branch_on_null, table_target, row_target, switch_on}
use Rattle.machine_model.specs.LocalStep.{branches}
use Rattle.machine_model.specs.TypedValues.{HeapTyping, is_of_type, are_of_types}
use Rattle.frame_laws.proofs.Taking.{reference_of, take_int, take_reference}
use Rattle.frame_laws.proofs.Outcome.{IsNextPlace, IsSound, some_inj, popped_is, branch_is_sound}
use Rattle.jv_model.specs.Flow.{goes_on, targets_of}

-- ---- targets

-- a place that a branch with this target comes to
chosen : (placed : Placed Operand) (holds : Bool) (target : ℕ) → goes_on placed.instruction ≡ true
    → (k : ℕ) × (slice_get (targets_of placed.instruction) k ≡ Some target)
    → IsNextPlace placed (unwrap_or (if holds then Some target else None) placed.next)
chosen placed true target on at = inr at
chosen placed false target on at = inl (refl, on)

-- the target is one of these
abbrev pub Among : ℕ → List ℕ → Type 0
Among target targets = (k : ℕ) × (slice_get targets k ≡ Some target)

-- the target with that number, or the default, is one of them all
table_from : (default : ℕ) (targets : List ℕ) (n : ℕ) → Among (unwrap_or (slice_get targets n) default) (default ∷ targets)
table_from default targets n = go (slice_get targets n) refl
  where
    go : (o : Option ℕ) → slice_get targets n ≡ o → (k : ℕ) × (slice_get (default ∷ targets) k ≡ Some (unwrap_or o default))
    go None same = (0, refl)
    go (Some target) same = (suc n, same)

-- where `tableswitch` goes is one of its targets
pub table_among : (default : ℕ) (low : ℤ) (targets : List ℕ) (key : ℤ) → Among (table_target default low targets key) (default ∷ targets)
table_among default low targets key = go (int_le low key)
  where
    go : (b : Bool) → (k : ℕ) × (slice_get (default ∷ targets) k ≡ Some (if b then unwrap_or (slice_get targets (unsigned_abs (key -ℤ low))) default else default))
    go true = table_from default targets (unsigned_abs (key -ℤ low))
    go false = (0, refl)

-- a target stays one of them where a further one comes second
more_rows : (default target other : ℕ) (targets : List ℕ) → Among target (default ∷ targets) → Among target (default ∷ other ∷ targets)
more_rows default target other targets (zero, at) = (0, at)
more_rows default target other targets (suc k, at) = (suc (suc k), at)

-- where `lookupswitch` goes is one of its targets
pub row_among : (default : ℕ) (rows : List (ℤ × ℕ)) (key : ℤ)
    → Among (row_target default rows key) (default ∷ map (λ (row : ℤ × ℕ). row.1) rows)
row_among default [] key = (0, refl)
row_among default (row ∷ rows) key = go (same_int row.0 key) (row_among default rows key)
  where
    go : (b : Bool) → Among (row_target default rows key) (default ∷ map (λ (row : ℤ × ℕ). row.1) rows)
        → (k : ℕ) × (slice_get (default ∷ row.1 ∷ map (λ (row : ℤ × ℕ). row.1) rows) k
        ≡ Some (unwrap_or (option_map (λ (row : ℤ × ℕ). row.1) (cond b (Some row) (find (λ (row : ℤ × ℕ). same_int row.0 key) rows))) default))
    go true among = (1, refl)
    go false among = more_rows default (row_target default rows key) row.1 (map (λ (row : ℤ × ℕ). row.1) rows) among

-- ---- branches

-- two references can be compared
answer_of : (a b : Option ℕ) → (answer : Bool) × (same_reference (reference_of a) (reference_of b) ≡ Some answer)
answer_of None None = (true, refl)
answer_of None (Some id) = (false, refl)
answer_of (Some id) None = (false, refl)
answer_of (Some id) (Some other) = (id == other, refl)

module _ (heap : HeapTyping) (e : Environment) (placed : Placed Operand) (frame : Frame) (before after : TypeFrame)
    (locals : pointwise (is_of_type heap e) before.locals frame.locals ≡ true) (stack : are_of_types heap e before.stack frame.stack ≡ true) where
  -- what is left of the operands
  left_is_sound : (rest types : List VerificationType) (result : Option Branch) (holds : Bool) (target : ℕ) (others : List Value)
      → result ≡ where_to holds target others
      → record before { stack = rest } ≡ after → below [] types ≡ Some rest → are_of_types heap e types others ≡ true
      → IsNextPlace placed (unwrap_or (if holds then Some target else None) placed.next)
      → IsSound heap e placed frame after (branches placed frame result)
  unfolding below
  left_is_sound rest types result holds target others is h none f place =
      branch_is_sound heap e placed frame before after rest result (record { target = if holds then Some target else None; rest = others }) is h locals
      (subst (λ (ts : List VerificationType). are_of_types heap e ts others ≡ true) (some_inj none) f) place

  -- `goto` is sound
  pub goto_is_sound : (target : ℕ) → Some before ≡ Some after → Among target (targets_of placed.instruction)
      → IsSound heap e placed frame after (branches placed frame (where_to true target frame.stack))
  unfolding below
  goto_is_sound target h at =
      left_is_sound before.stack before.stack (where_to true target frame.stack) true target frame.stack refl (some_inj h) refl stack (inr at)

  -- a switch is sound
  pub switch_is_sound : (target_of : ℤ → ℕ) → popped (is_int ∷ []) before ≡ Some after
      → ((key : ℤ) → Among (target_of key) (targets_of placed.instruction))
      → IsSound heap e placed frame after (branches placed frame (switch_on target_of frame.stack))
  switch_is_sound target_of h at =
      let c = popped_is (is_int ∷ []) before after h in
      let x = take_int heap e [] before.stack c.0 frame.stack c.1 stack in
      left_is_sound c.0 x.types (switch_on target_of frame.stack) true (target_of x.found) x.others
      (ap (switch_on target_of) x.is) c.2 x.are_below x.fit (inr (at x.found))

  module _ (target : ℕ) (on : goes_on placed.instruction ≡ true) (at : Among target (targets_of placed.instruction)) where
    -- `ifeq` .. `ifle` are sound
    pub zero_is_sound : (comparison : Comparison) → popped (is_int ∷ []) before ≡ Some after
        → IsSound heap e placed frame after (branches placed frame (branch_on_zero comparison target frame.stack))
    zero_is_sound comparison h =
        let c = popped_is (is_int ∷ []) before after h in
        let x = take_int heap e [] before.stack c.0 frame.stack c.1 stack in
        left_is_sound c.0 x.types (branch_on_zero comparison target frame.stack) (compares comparison x.found (pos 0)) target x.others
        (ap (branch_on_zero comparison target) x.is)
        c.2 x.are_below x.fit (chosen placed (compares comparison x.found (pos 0)) target on at)

    -- `if_icmpeq` .. `if_icmple` are sound
    pub ints_are_sound : (comparison : Comparison) → popped (is_int ∷ is_int ∷ []) before ≡ Some after
        → IsSound heap e placed frame after (branches placed frame (branch_on_ints comparison target frame.stack))
    ints_are_sound comparison h =
        let c = popped_is (is_int ∷ is_int ∷ []) before after h in
        let y = take_int heap e (is_int ∷ []) before.stack c.0 frame.stack c.1 stack in
        let x = take_int heap e [] y.types c.0 y.others y.are_below y.fit in
        left_is_sound c.0 x.types (branch_on_ints comparison target frame.stack) (compares comparison x.found y.found) target x.others
        (ap (branch_on_ints comparison target) (y.is ∙ ap (λ vs. int y.found ∷ vs) x.is)) c.2 x.are_below x.fit
        (chosen placed (compares comparison x.found y.found) target on at)

    -- `if_acmpeq` and `if_acmpne` are sound
    pub references_are_sound : (wanted : Bool) → popped (is_reference ∷ is_reference ∷ []) before ≡ Some after
        → IsSound heap e placed frame after (branches placed frame (branch_on_references wanted target frame.stack))
    references_are_sound wanted h =
        let c = popped_is (is_reference ∷ is_reference ∷ []) before after h in
        let y = take_reference heap e (is_reference ∷ []) before.stack c.0 frame.stack c.1 stack in
        let x = take_reference heap e [] y.types c.0 y.others y.are_below y.fit in
        let answer = answer_of x.found y.found in
        let holds : Bool = if wanted then answer.0 else not answer.0 in
        left_is_sound c.0 x.types (branch_on_references wanted target frame.stack) holds target x.others
        (ap (branch_on_references wanted target) (y.is ∙ ap (λ vs. reference_of y.found ∷ vs) x.is) ∙ ap (λ o. where_answered o wanted target x.others) answer.1)
        c.2 x.are_below x.fit (chosen placed holds target on at)

    -- `ifnull` and `ifnonnull` are sound
    pub null_is_sound : (wanted : Bool) → popped (is_reference ∷ []) before ≡ Some after
        → IsSound heap e placed frame after (branches placed frame (branch_on_null wanted target frame.stack))
    null_is_sound wanted h =
        let c = popped_is (is_reference ∷ []) before after h in
        let x = take_reference heap e [] before.stack c.0 frame.stack c.1 stack in
        let answer = answer_of x.found None in
        let holds : Bool = if wanted then answer.0 else not answer.0 in
        left_is_sound c.0 x.types (branch_on_null wanted target frame.stack) holds target x.others
        (ap (branch_on_null wanted target) x.is ∙ ap (λ o. where_answered o wanted target x.others) answer.1)
        c.2 x.are_below x.fit (chosen placed holds target on at)
