use Rattle.std.proofs.Common.{◌≡◌, drop}
use Rattle.std.specs.List.{list_all}
use Rattle.typing_model.specs.Environment.{Environment}
use Rattle.typing_model.specs.Rules.{goes_to}
use Rattle.jv_types.specs.declared.instruction.SwitchPair.{SwitchPair}
use Rattle.type_rules.specs.Frames.{frame_of}
use Rattle.stackmap_verify.specs.Methods.{IsMethod}
use Rattle.stackmap_verify.proofs.flow.goes_to_pairs.Given as goal

-- the pairs that are left tell the answer
abbrev pub invariant-loop-pair : goal.invariant-loop-pair
invariant-loop-pair g l = (e : Environment) → IsMethod l.method e
    → list_all (λ (pair : SwitchPair). goes_to e (frame_of l.method.world.now l.frame) pair.target) (drop l.pair-index l.pairs)
    ≡ list_all (λ (pair : SwitchPair). goes_to e (frame_of l.method.world.now l.frame) pair.target) l.pairs
