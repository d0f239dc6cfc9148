use Rattle.std.proofs.Common.{◌≡◌, drop}
use Rattle.typing_model.specs.Environment as model
use Rattle.typing_model.specs.Transition.{popped}
use Rattle.type_rules.specs.Frames.{frame_of, IsKnownFrame}
use Rattle.instruction_types.specs.Environment.{IsEnvironment}
use Rattle.instruction_types.specs.Wanted.{tests_of}
use Rattle.instruction_types.proofs.operands.pop_all.Given as goal

-- what is left to be taken from the frame comes to what all comes to
abbrev pub invariant-loop-operand : goal.invariant-loop-operand
invariant-loop-operand g l = record {
  left : (e : model.Environment) → IsEnvironment l.world l.here e
      → popped (tests_of l.world e (drop l.operand-index l.wanted)) (frame_of l.world l.frame)
      ≡ popped (tests_of l.world e l.wanted) (frame_of l.world l.fn.frame);
  known : IsKnownFrame l.world l.frame;
}
