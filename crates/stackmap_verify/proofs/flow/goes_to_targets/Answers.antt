use Rattle.std.proofs.Common.{◌≡◌, ℕ, Bool, true, ◌&&◌, map, ap, sym, ◌∙◌}
use Rattle.std.specs.Prelude.{ℤ}
use Rattle.std.specs.List.{list_all}
use Rattle.jv_model.specs.Flow.{targets_of}
use Rattle.code_model.specs.MappedInstruction.{mapped_instruction}
use Rattle.typing_model.specs.Rules.{goes_to}
use Rattle.jv_types.specs.Instruction.{instruction_of, pairs_of}
use Rattle.jv_types.specs.declared.instruction.Instruction.{Instruction}
use Rattle.jv_types.specs.declared.instruction.SwitchPair.{SwitchPair}
use Rattle.type_rules.specs.Frames.{frame_of}
use Rattle.stackmap_verify.proofs.Switches.{pairs_go}
use Rattle.stackmap_verify.proofs.flow.goes_to_targets.Goals as goal

pub returns-in_ok-goes_to_pairs-in-Lookupswitch : goal.returns-in_ok-goes_to_pairs-in-Lookupswitch
unfolding targets_of
returns-in_ok-goes_to_pairs-in-Lookupswitch g c = λ e is names.
    let test = goes_to e (frame_of c.args.method.now.world.now c.args.frame.now) in
    let pairs = c.in-Lookupswitch.pairs.items in
    let first : test c.in-Lookupswitch.otherwise ≡ true = sym (c.in_ok-goes-in-Lookupswitch.ensures e is) ∙ c.if-goes-2.true in
    c.in_ok-goes_to_pairs-in-Lookupswitch.ensures e is
    ∙ ap (list_all (λ (pair : SwitchPair). test pair.target)) c.as_slice-then-goes-2.ensures
    ∙ pairs_go test pairs
    ∙ ap (λ (b : Bool). b && list_all test (map (λ (row : ℤ × ℕ). row.1) (pairs_of pairs))) (sym first)
    ∙ ap (λ (i : Instruction). list_all test (targets_of (mapped_instruction names (instruction_of i)))) (sym c.in-Lookupswitch.is)
