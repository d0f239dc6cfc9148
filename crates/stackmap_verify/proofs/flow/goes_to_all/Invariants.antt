use Rattle.std.proofs.Common.{◌≡◌, drop}
use Rattle.std.specs.List.{list_all}
use Rattle.typing_model.specs.Environment.{Environment}
use Rattle.typing_model.specs.Rules.{goes_to}
use Rattle.type_rules.specs.Frames.{frame_of}
use Rattle.stackmap_verify.specs.Methods.{IsMethod}
use Rattle.stackmap_verify.proofs.flow.goes_to_all.Given as goal

-- the targets that are left tell the answer
abbrev pub invariant-loop-target : goal.invariant-loop-target
invariant-loop-target g l = (e : Environment) → IsMethod l.method e
    → list_all (goes_to e (frame_of l.method.world.now l.frame)) (drop l.target-index l.targets)
    ≡ list_all (goes_to e (frame_of l.method.world.now l.frame)) l.targets
