use Rattle.std.proofs.Common.{◌≡◌}
use Rattle.std.specs.Prelude.{is_some}
use Rattle.std.specs.Option.{IfSome}
use Rattle.typing_model.specs.Environment.{Environment}
use Rattle.typing_model.specs.DescriptorFrame.{descriptor_frame}
use Rattle.typing_model.specs.FailingPlace.{first_place, visits}
use Rattle.type_rules.specs.Frames.{frame_of, IsKnownFrame}
use Rattle.verifier_laws.proofs.Visits.{place_from}
use Rattle.verifier_laws.proofs.Typings.{AreFrames}
use Rattle.stackmap_verify.specs.Methods.{IsMethod}
use Rattle.stackmap_verify.specs.Watch.{IsWatch}
use Rattle.stackmap_verify.specs.Passed.{frames_of, Keeps}
use Rattle.stackmap_verify.specs.Visits.{flow_of}
use Rattle.stackmap_verify.proofs.pass.pass_over.Given as goal

-- the place is that of the instructions that are left, and the frames are those of the others
abbrev pub invariant-loop-number : goal.invariant-loop-number
invariant-loop-number g l = record {
  watch : IsWatch l.method l.trail.watch;
  known : IfSome l.flow (IsKnownFrame l.method.world.now);
  so_far : (e : Environment) → IsMethod l.method e → descriptor_frame e ≡ frame_of l.method.world.now l.fn.start
      → place_from e (flow_of l.method.world.now l.flow) l.number ≡ first_place e (visits e);
  kept : (e : Environment) → IsMethod l.method e → descriptor_frame e ≡ frame_of l.method.world.now l.fn.start
      → Keeps (is_some l.fn.kept) (λ frames. AreFrames e l.number (flow_of l.method.world.now l.flow) (frames_of l.method.world.now frames))
      l.trail.kept;
}
