-- The rules that are asked once an instruction has its frame.
use Rattle.std.proofs.Common.{◌≡◌, Bool, true, false, not, ◌&&◌, if◌then◌else◌, Option, Some, None, Err, ap, sym, subst, ◌∙◌, refl}
use Rattle.std.specs.List.{list_any, list_all}
use Rattle.std.specs.Option.{IfSome}
use Rattle.jv_model.specs.Operand.{Operand}
use Rattle.jv_model.specs.Code.{Placed}
use Rattle.jv_model.specs.Flow.{goes_on, targets_of}
use Rattle.jv_model.specs.Refusal.{at_handler, at_operand, at_target, at_end}
use Rattle.world_model.specs.World.{World}
use Rattle.typing_model.specs.VerificationType.{TypeFrame}
use Rattle.typing_model.specs.Environment.{Environment}
use Rattle.typing_model.specs.Rules.{Visit, frame_behind, flow_behind, first_failing, fails, goes_to, misfits}
use Rattle.type_rules.specs.Frames.{Types, frame_of}
use Rattle.instruction_types.specs.declared.environment.TypingError.{TypingError}
use Rattle.instruction_types.specs.declared.environment.TypingError.TheVariants.{Misfit, NoMemory}
use Rattle.verifier_laws.proofs.Rules.{handler_first, operand_first, target_first, end_first, none_first, at_handlers, at_targets, flow_on, at_the_end}
use Rattle.stackmap_verify.specs.Visits.{flow_of, failure_of, HasFrame, StepsTo, Stops}

module _ (e : Environment) (v : Visit) (placed : Placed Operand) (at : v.placed ≡ placed) (frame : TypeFrame) (has : HasFrame e v frame) where
  handlers : (wrong : Bool) → wrong ≡ list_any (misfits e placed.pc frame) e.body.handlers → fails e v at_handler ≡ wrong
  handlers wrong is =
      at_handlers e v frame has.is_frame ∙ ap (λ (p : Placed Operand). list_any (misfits e p.pc frame) e.body.handlers) at ∙ sym is

  pub handler_stops : (wrong : Bool) → wrong ≡ list_any (misfits e placed.pc frame) e.body.handlers → wrong ≡ true
      → first_failing e v ≡ Some at_handler
  handler_stops wrong is holds = handler_first e v has.map has.flow (handlers wrong is ∙ holds)

  module _ (wrong : Bool) (wrong_is : wrong ≡ list_any (misfits e placed.pc frame) e.body.handlers) (right : wrong ≡ false) where
    pub operand_stops : fails e v at_operand ≡ true → first_failing e v ≡ Some at_operand
    operand_stops fails = operand_first e v has.map has.flow (handlers wrong wrong_is ∙ right) fails

    module _ (after : TypeFrame) (fits : fails e v at_operand ≡ false) (is_after : frame_behind e v ≡ Some after)
        (go : Bool) (go_is : go ≡ list_all (goes_to e after) (targets_of placed.instruction)) where
      targets : fails e v at_target ≡ not go
      targets =
          at_targets e v after is_after
          ∙ ap (λ (p : Placed Operand). not (list_all (goes_to e after) (targets_of p.instruction))) at ∙ ap not (sym go_is)

      pub target_stops : go ≡ false → first_failing e v ≡ Some at_target
      target_stops none = target_first e v has.map has.flow (handlers wrong wrong_is ∙ right) fits (targets ∙ ap not none)

      module _ (gone : go ≡ true) (out : Bool) (is_last : Bool) (last : v.is_last ≡ is_last) (out_is : out ≡ (goes_on placed.instruction && is_last)) where
        ends : fails e v at_end ≡ out
        ends =
            at_the_end e v ∙ (λ i. goes_on (ap (λ (p : Placed Operand). p.instruction) at i) && last i) ∙ sym out_is

        pub end_stops : out ≡ true → first_failing e v ≡ Some at_end
        end_stops holds =
            end_first e v has.map has.flow (handlers wrong wrong_is ∙ right) fits (targets ∙ ap not gone) (ends ∙ holds)

        pub goes_further : out ≡ false → first_failing e v ≡ None
        goes_further none =
            none_first e v has.map has.flow (handlers wrong wrong_is ∙ right) fits (targets ∙ ap not gone) (ends ∙ none)

-- the frame with which flow goes on
pub flow_further : (world : World) (e : Environment) (v : Visit) (placed : Placed Operand) → v.placed ≡ placed
    → (after : Types) (flow : Option Types) → frame_behind e v ≡ Some (frame_of world after)
    → flow ≡ (if goes_on placed.instruction then Some after else None) → flow_behind e v ≡ flow_of world flow
flow_further world e v placed at after flow is_after is =
    flow_on e v (frame_of world after) is_after
    ∙ ap (λ (p : Placed Operand). if goes_on p.instruction then Some (frame_of world after) else None) at
    ∙ by (goes_on placed.instruction) ∙ ap (flow_of world) (sym is)
  where
    by : (b : Bool) → (if b then Some (frame_of world after) else None) ≡ flow_of world (if b then Some after else None)
    by true = refl
    by false = refl

-- what stops at the instruction itself
pub step_stops : (world : World) (e : Environment) (v : Visit) (error : TypingError) → StepsTo world e v (Err error)
    → (fails e v at_operand ≡ true → first_failing e v ≡ Some at_operand) → Stops e v (failure_of error)
step_stops world e v Misfit stops first = first stops
step_stops world e v NoMemory stops first = tt

-- of the classes in a frame that goes on all are there
pub known_further : (P : Types → Type 0) (flow : Option Types) (on : Bool) (after : Types) → flow ≡ (if on then Some after else None)
    → P after → IfSome flow P
known_further P flow on after is known = subst (λ (o : Option Types). IfSome o P) (sym is) (by on)
  where
    by : (b : Bool) → IfSome (if b then Some after else None) P
    by true = known
    by false = tt
