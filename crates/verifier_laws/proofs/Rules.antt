-- The rules at one instruction, in their order.
use Rattle.std.proofs.Common.{◌≡◌, Bool, true, false, Option, Some, None, refl, ◌==◌, cond, ap, ◌∙◌}
use Rattle.std.specs.Prelude.{is_none, not, ◌||◌, ◌&&◌}
use Rattle.std.specs.List.{list_any, list_all}
use Rattle.jv_model.specs.Partial.{passes, ◌>>=◌}
use Rattle.jv_model.specs.Refusal.{at_map, after_flow, at_handler, at_operand, at_target, at_end}
use Rattle.jv_model.specs.Flow.{goes_on, targets_of}
use Rattle.typing_model.specs.VerificationType.{TypeFrame}
use Rattle.typing_model.specs.Assignable.{frame_assignable}
use Rattle.typing_model.specs.Environment.{Environment}
use Rattle.typing_model.specs.InstructionTypes.{type_step}
use Rattle.typing_model.specs.DescriptorFrame.{map_frame_at, has_room}
use Rattle.typing_model.specs.Rules.{Visit, frame_of, frame_behind, flow_behind, first_failing, fails, goes_to, misfits}

or_true : (b : Bool) → (b || true) ≡ true
or_true true = refl
or_true false = refl

module _ (e : Environment) (v : Visit) where
  -- ---- the first that fails

  pub map_first : fails e v at_map ≡ true → first_failing e v ≡ Some at_map
  map_first h = rw h refl

  pub flow_first : fails e v at_map ≡ false → fails e v after_flow ≡ true → first_failing e v ≡ Some after_flow
  flow_first h k = rw (h, k) refl

  pub handler_first : fails e v at_map ≡ false → fails e v after_flow ≡ false → fails e v at_handler ≡ true
      → first_failing e v ≡ Some at_handler
  handler_first h k l = rw (h, k, l) refl

  pub operand_first : fails e v at_map ≡ false → fails e v after_flow ≡ false → fails e v at_handler ≡ false
      → fails e v at_operand ≡ true → first_failing e v ≡ Some at_operand
  operand_first h k l m = rw (h, k, l, m) refl

  pub target_first : fails e v at_map ≡ false → fails e v after_flow ≡ false → fails e v at_handler ≡ false
      → fails e v at_operand ≡ false → fails e v at_target ≡ true → first_failing e v ≡ Some at_target
  target_first h k l m n = rw (h, k, l, m, n) refl

  pub end_first : fails e v at_map ≡ false → fails e v after_flow ≡ false → fails e v at_handler ≡ false
      → fails e v at_operand ≡ false → fails e v at_target ≡ false → fails e v at_end ≡ true
      → first_failing e v ≡ Some at_end
  end_first h k l m n o = rw (h, k, l, m, n, o) refl

  pub none_first : fails e v at_map ≡ false → fails e v after_flow ≡ false → fails e v at_handler ≡ false
      → fails e v at_operand ≡ false → fails e v at_target ≡ false → fails e v at_end ≡ false
      → first_failing e v ≡ None
  none_first h k l m n o = rw (h, k, l, m, n, o) refl

  -- ---- the frame of the instruction

  -- there is none
  pub no_frame : map_frame_at e v.placed.pc ≡ None → v.flow ≡ None
      → (fails e v at_map ≡ false) × (fails e v after_flow ≡ true)
  unfolding fails
  no_frame h k = (rw h refl, rw (h, k) refl)

  -- it's that of flow
  pub flow_frame : (f : TypeFrame) → map_frame_at e v.placed.pc ≡ None → v.flow ≡ Some f
      → (fails e v at_map ≡ false) × (fails e v after_flow ≡ false) × (frame_of e v ≡ Some f)
  unfolding fails
  flow_frame f h k = (rw h refl, rw (h, k) refl, rw (h, k) refl)

  -- it's that of the map, to which no flow comes
  pub map_frame : (m : TypeFrame) → map_frame_at e v.placed.pc ≡ Some m → v.flow ≡ None
      → (fails e v at_map ≡ false) × (fails e v after_flow ≡ false) × (frame_of e v ≡ Some m)
  unfolding fails
  map_frame m h k = (rw (h, k) refl, rw h refl, rw h refl)

  -- it's that of the map, and flow comes
  pub both_frames : (f m : TypeFrame) → map_frame_at e v.placed.pc ≡ Some m → v.flow ≡ Some f
      → (fails e v at_map ≡ not (frame_assignable e.world f m)) × (fails e v after_flow ≡ false) × (frame_of e v ≡ Some m)
  unfolding fails
  both_frames f m h k = (rw (h, k) refl, rw h refl, rw h refl)

  -- ---- what the rules ask of it

  module _ (f : TypeFrame) (is_frame : frame_of e v ≡ Some f) where
    pub at_handlers : fails e v at_handler ≡ list_any (misfits e v.placed.pc f) e.body.handlers
    unfolding fails
    at_handlers = ap (passes (λ frame. list_any (misfits e v.placed.pc frame) e.body.handlers)) is_frame

    pub behind : frame_behind e v ≡ type_step e v.placed.pc v.placed.instruction f
    behind = ap (λ (o : Option TypeFrame). o >>= type_step e v.placed.pc v.placed.instruction) is_frame

    pub no_step : type_step e v.placed.pc v.placed.instruction f ≡ None → fails e v at_operand ≡ true
    unfolding fails
    no_step h = ap (λ (o : Option TypeFrame). is_none o || ((v.placed.pc == 0) && not (has_room e))) (behind ∙ h)

    pub at_operands : (g : TypeFrame) → type_step e v.placed.pc v.placed.instruction f ≡ Some g
        → fails e v at_operand ≡ ((v.placed.pc == 0) && not (has_room e))
    unfolding fails
    at_operands g is_after =
        ap (λ (o : Option TypeFrame). is_none o || ((v.placed.pc == 0) && not (has_room e))) (behind ∙ is_after)

  -- the parameters don't find their places
  pub no_room : ((v.placed.pc == 0) && not (has_room e)) ≡ true → fails e v at_operand ≡ true
  unfolding fails
  no_room h = ap (λ (b : Bool). is_none (frame_behind e v) || b) h ∙ or_true (is_none (frame_behind e v))

  -- ---- what they ask of the one after it

  module _ (g : TypeFrame) (is_behind : frame_behind e v ≡ Some g) where
    pub at_targets : fails e v at_target ≡ not (list_all (goes_to e g) (targets_of v.placed.instruction))
    unfolding fails
    at_targets = ap (passes (λ frame. not (list_all (goes_to e frame) (targets_of v.placed.instruction)))) is_behind

    pub flow_on : flow_behind e v ≡ cond (goes_on v.placed.instruction) (Some g) None
    flow_on = ap (λ (o : Option TypeFrame). cond (goes_on v.placed.instruction) o None) is_behind

  pub at_the_end : fails e v at_end ≡ (goes_on v.placed.instruction && v.is_last)
  unfolding fails
  at_the_end = refl
