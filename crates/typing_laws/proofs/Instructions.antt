-- What a typing says of an instruction and of the next one.
use Rattle.std.proofs.Common.{◌≡◌, ℕ, suc, List, Option, Some, None, Bool, true, false, refl, ◌==◌, length, slice_get, is_some, cond, ap, sym, true≢false, inl, inr}
use Rattle.std.specs.Prelude.{is_none, ◌⊎◌, not, ◌||◌, ◌&&◌}
use Rattle.std.specs.List.{list_any, list_all}
use Rattle.std.proofs.Math.Path.{◌∙◌}
use Rattle.jv_model.specs.Partial.{passes}
use Rattle.jv_model.specs.Refusal.{at_map, after_flow, at_handler, at_operand, at_target, at_end}
use Rattle.jv_model.specs.Operand.{Operand}
use Rattle.jv_model.specs.Flow.{goes_on, targets_of}
use Rattle.jv_model.specs.Code.{Placed}
use Rattle.typing_model.specs.VerificationType.{TypeFrame}
use Rattle.typing_model.specs.Assignable.{frame_assignable}
use Rattle.typing_model.specs.Environment.{Environment}
use Rattle.typing_model.specs.InstructionTypes.{type_step}
use Rattle.typing_model.specs.DescriptorFrame.{map_frame_at, has_room}
use Rattle.typing_model.specs.Rules.{Visit, map_or_flow, frame_of, frame_behind, first_failing, fails, goes_to, misfits}
use Rattle.typing_model.specs.WellTyped.{flow_to, visit_to, IsTypedAt, IsTypingTo}
use Rattle.typing_laws.specs.Instructions.{Applies, Goes}
use Rattle.typing_laws.proofs.Frames.{some-inj, some-none, none-some, get-short}
use Rattle.typing_laws.proofs.Passes.{Framed, framed, has-frame}

-- ---- no rule fails

-- where none of six tests gives its result, all are false
six-false : {A : Type 0} (a b c d f g : Bool) (r s t u v w : A)
    → cond a (Some r) (cond b (Some s) (cond c (Some t) (cond d (Some u) (cond f (Some v) (cond g (Some w) None))))) ≡ None
    → (a ≡ false) × (b ≡ false) × (c ≡ false) × (d ≡ false) × (f ≡ false) × (g ≡ false)
six-false true b c d f g r s t u v w h = absurd (some-none h)
six-false false true c d f g r s t u v w h = absurd (some-none h)
six-false false false true d f g r s t u v w h = absurd (some-none h)
six-false false false false true f g r s t u v w h = absurd (some-none h)
six-false false false false false true g r s t u v w h = absurd (some-none h)
six-false false false false false false true r s t u v w h = absurd (some-none h)
six-false false false false false false false r s t u v w h = (refl, refl, refl, refl, refl, refl)

-- where no rule is the first that fails, each of the six holds
pub none-fails : (e : Environment) (v : Visit) → first_failing e v ≡ None
    → (fails e v at_map ≡ false) × (fails e v after_flow ≡ false)
    × (fails e v at_handler ≡ false) × (fails e v at_operand ≡ false) × (fails e v at_target ≡ false) × (fails e v at_end ≡ false)
none-fails e v h =
    six-false (fails e v at_map) (fails e v after_flow) (fails e v at_handler) (fails e v at_operand) (fails e v at_target) (fails e v at_end) _ _ _ _ _ _ h

-- where one or the other is false, the one is
left-false : (a b : Bool) → (a || b) ≡ false → a ≡ false
left-false false b h = refl
left-false true b h = h

-- where both are false and the one holds, the other is false
and-false : (a b : Bool) → (a && b) ≡ false → a ≡ true → b ≡ false
and-false true b h k = h
and-false false b h k = absurd (true≢false (sym k))

-- what is not false holds
not-false : (a : Bool) → not a ≡ false → a ≡ true
not-false true h = refl
not-false false h = absurd (true≢false h)

-- where an option fails a test, what stands in it does
some-and : {A : Type 0} (test : A → Bool) (o : Option A) (a : A) → o ≡ Some a → passes test o ≡ false → test a ≡ false
some-and test None a h k = absurd (none-some h)
some-and test (Some b) a h k = rw (sym (some-inj h)) k

-- ---- the instruction itself

-- An instruction at which no rule fails can be applied to its frame.
pub applied : (e : Environment) (v : Visit) (f : TypeFrame) → frame_of e v ≡ Some f → first_failing e v ≡ None
    → Applies e v.placed f
unfolding fails
applied e v f h none =
    let all = none-fails e v none in
    go (type_step e v.placed.pc v.placed.instruction f) refl
    (left-false (is_none (type_step e v.placed.pc v.placed.instruction f)) ((v.placed.pc == 0) && not (has_room e)) (rw⁻¹ (behind h) (all.3)))
    (rw⁻¹ (behind h) all.4) (some-and (λ frame. list_any (misfits e v.placed.pc frame) e.body.handlers) (frame_of e v) f h all.2)
  where
    behind : frame_of e v ≡ Some f → frame_behind e v ≡ type_step e v.placed.pc v.placed.instruction f
    behind h = rw h refl

    go : (o : Option TypeFrame) → type_step e v.placed.pc v.placed.instruction f ≡ o → is_none o ≡ false
        → passes (λ frame. not (list_all (goes_to e frame) (targets_of v.placed.instruction))) o ≡ false
        → list_any (misfits e v.placed.pc f) e.body.handlers ≡ false → Applies e v.placed f
    go None same is t k = absurd (true≢false is)
    go (Some after) same is t k = record { after = after; is_after = same; targets = not-false _ t; handlers = k }

-- In a typing each instruction can be applied to its frame.
pub typed-applies : (e : Environment) (frames : List TypeFrame) (n : ℕ) (p : Placed Operand) (f : TypeFrame)
    → IsTypingTo e (length e.body.instructions) frames → slice_get e.body.instructions n ≡ Some p
    → slice_get frames n ≡ Some f → Applies e p f
typed-applies e frames n p f t at is =
    let here : IsTypedAt e frames n p = t.typed n p (get-short e.body.instructions n p at) at in
    applied e (visit_to e frames n p) f (here.framed ∙ is) here.right

-- The frame that flow comes with is the one there, or goes to it.
pub joined : (e : Environment) (v : Visit) (after g : TypeFrame) → v.flow ≡ Some after → frame_of e v ≡ Some g
    → first_failing e v ≡ None
    → (g ≡ after) ⊎ (frame_assignable e.world after g ≡ true)
unfolding fails
joined e v after g flow h none = go (map_frame_at e v.placed.pc) refl
    (some-and (λ frame. not (goes_to e frame v.placed.pc)) v.flow after flow) (none-fails e v none).0
  where
    go : (o : Option TypeFrame) → map_frame_at e v.placed.pc ≡ o → (passes (λ frame. not (goes_to e frame v.placed.pc)) v.flow ≡ false → not (goes_to e after v.placed.pc) ≡ false)
        → (is_some (map_frame_at e v.placed.pc) && passes (λ frame. not (goes_to e frame v.placed.pc)) v.flow) ≡ false → (g ≡ after) ⊎ (frame_assignable e.world after g ≡ true)
    go None same pick k = inl (some-inj (sym (rw⁻¹ (ap (λ o. map_or_flow o v.flow) same) h) ∙ flow))
    go (Some m) same pick k =
        let reaches : goes_to e after v.placed.pc ≡ true = not-false (goes_to e after v.placed.pc) (pick (and-false (is_some (map_frame_at e v.placed.pc)) (passes (λ frame. not (goes_to e frame v.placed.pc)) v.flow) k (rw same refl))) in
        let is : g ≡ m = some-inj (sym (rw⁻¹ (ap (λ o. map_or_flow o v.flow) same) h)) in
        inr (rw is (rw⁻¹ (ap (λ o. passes (frame_assignable e.world after) o) same) reaches))

-- ---- the next instruction

-- there is something
data Got {A : Type 0} (o : Option A) : Type 0 where
  got : (a : A) → o ≡ Some a → Got o

-- what is not none is something
got-of : {A : Type 0} (o : Option A) → is_none o ≡ false → Got o
got-of None h = absurd (true≢false h)
got-of (Some a) h = got a refl

-- to the next instruction flow comes with the frame behind this one, where it goes on
flow-of-next : (e : Environment) (frames : List TypeFrame) (n : ℕ) (p : Placed Operand) (f after : TypeFrame)
    → slice_get e.body.instructions n ≡ Some p
    → slice_get frames n ≡ Some f → type_step e p.pc p.instruction f ≡ Some after → goes_on p.instruction ≡ true → flow_to e frames (suc n) ≡ Some after
flow-of-next e frames n p f after at is step on = rw (at, is, on) step

-- In a typing an instruction that goes on goes to the next one.
pub goes-next : (e : Environment) (frames : List TypeFrame) (n : ℕ) (p : Placed Operand) (f after : TypeFrame)
    → IsTypingTo e (length e.body.instructions) frames
    → slice_get e.body.instructions n ≡ Some p → slice_get frames n ≡ Some f → type_step e p.pc p.instruction f ≡ Some after → goes_on p.instruction ≡ true
    → Goes e frames n after
unfolding Goes fails
goes-next e frames n p f after t at is step on =
    let here : IsTypedAt e frames n p = t.typed n p (get-short e.body.instructions n p at) at in
    next (got-of (slice_get e.body.instructions (suc n)) (and-false (goes_on p.instruction) (is_none (slice_get e.body.instructions (suc n))) (none-fails e (visit_to e frames n p) here.right).5 on))
  where
    there : (q : Placed Operand) (at' : slice_get e.body.instructions (suc n) ≡ Some q) → IsTypedAt e frames (suc n) q
        → Framed (frame_of e (visit_to e frames (suc n) q)) → Goes e frames n after
    there q at' h (framed g has) =
        (q, g, at', sym h.framed ∙ has, joined e (visit_to e frames (suc n) q) after g (flow-of-next e frames n p f after at is step on) has h.right)

    next : Got (slice_get e.body.instructions (suc n)) → Goes e frames n after
    next (got q at') =
        let h : IsTypedAt e frames (suc n) q = t.typed (suc n) q (get-short e.body.instructions (suc n) q at') at' in
        there q at' h (has-frame e (visit_to e frames (suc n) q) h.right)
