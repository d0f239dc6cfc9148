-- The rules on the frame of an instruction.
use Rattle.std.proofs.Common.{◌≡◌, ℕ, Bool, true, false, not, Option, Some, None, option_map, ap, sym, ◌∙◌}
use Rattle.world_model.specs.World.{World}
use Rattle.typing_model.specs.Assignable.{frame_assignable}
use Rattle.typing_model.specs.Environment.{Environment}
use Rattle.typing_model.specs.DescriptorFrame.{map_frame_at}
use Rattle.typing_model.specs.Rules.{Visit, first_failing}
use Rattle.jv_model.specs.Refusal.{after_flow, at_map}
use Rattle.type_rules.specs.Frames.{Types, frame_of}
use Rattle.verifier_laws.proofs.Rules.{map_first, flow_first, no_frame, flow_frame, map_frame, both_frames}
use Rattle.stackmap_verify.specs.Visits.{flow_of, HasFrame}

module _ (world : World) (e : Environment) (v : Visit) (pc : ℕ) (at : v.placed.pc ≡ pc) (map flow : Option Types)
    (maps : option_map (frame_of world) map ≡ map_frame_at e pc) (flows : v.flow ≡ flow_of world flow) where
  there : (o : Option Types) → map ≡ o → map_frame_at e v.placed.pc ≡ option_map (frame_of world) o
  there o is = ap (map_frame_at e) at ∙ sym maps ∙ ap (option_map (frame_of world)) is

  comes : (o : Option Types) → flow ≡ o → v.flow ≡ option_map (frame_of world) o
  comes o is = flows ∙ ap (option_map (frame_of world)) is

  pub neither : map ≡ None → flow ≡ None → first_failing e v ≡ Some after_flow
  neither m f = let rules = no_frame e v (there None m) (comes None f) in flow_first e v rules.0 rules.1

  pub flow_alone : (frame : Types) → map ≡ None → flow ≡ Some frame → HasFrame e v (frame_of world frame)
  flow_alone frame m f =
      let rules = flow_frame e v (frame_of world frame) (there None m) (comes (Some frame) f) in
      record { map = rules.0; flow = rules.1; is_frame = rules.2 }

  pub map_alone : (frame : Types) → map ≡ Some frame → flow ≡ None → HasFrame e v (frame_of world frame)
  map_alone frame m f =
      let rules = map_frame e v (frame_of world frame) (there (Some frame) m) (comes None f) in
      record { map = rules.0; flow = rules.1; is_frame = rules.2 }

  module _ (from frame : Types) (m : map ≡ Some frame) (f : flow ≡ Some from) (same : e.world ≡ world) where
    goes : (b : Bool) → b ≡ frame_assignable world (frame_of world from) (frame_of world frame)
        → not (frame_assignable e.world (frame_of world from) (frame_of world frame)) ≡ not b
    goes b is = ap (λ (w : World). not (frame_assignable w (frame_of world from) (frame_of world frame))) same ∙ ap not (sym is)

    pub both_go : (b : Bool) → b ≡ frame_assignable world (frame_of world from) (frame_of world frame) → b ≡ true → HasFrame e v (frame_of world frame)
    both_go b is holds =
        let rules = both_frames e v (frame_of world from) (frame_of world frame) (there (Some frame) m) (comes (Some from) f) in
        record { map = rules.0 ∙ goes b is ∙ ap not holds; flow = rules.1; is_frame = rules.2 }

    pub both_clash : (b : Bool) → b ≡ frame_assignable world (frame_of world from) (frame_of world frame) → b ≡ false → first_failing e v ≡ Some at_map
    both_clash b is fails =
        let rules = both_frames e v (frame_of world from) (frame_of world frame) (there (Some frame) m) (comes (Some from) f) in
        map_first e v (rules.0 ∙ goes b is ∙ ap not fails)
