use Rattle.std.proofs.Common.{◌≡◌, ◌++◌, map, take}
use Rattle.world_model.specs.World.{World}
use Rattle.typing_model.specs.VerificationType as model
use Rattle.typing_model.specs.DescriptorFrame.{as_locals}
use Rattle.type_rules.specs.declared.types.FieldType.{FieldType}
use Rattle.type_rules.specs.Types.{field_type_of}
use Rattle.type_rules.specs.Frames.{types_of, AreKnown}
use Rattle.member_types.specs.Signatures.{AreKnownFields}
use Rattle.map_frames.proofs.frames.push_parameters.Given as goal

-- the parameters so far
abbrev pub invariant-loop-parameter : goal.invariant-loop-parameter
invariant-loop-parameter l = record {
  same : (world : World) → types_of world l.locals.items ≡ types_of world l.fn.locals.items
      ++ as_locals (map (λ (type : FieldType). model.type_of (field_type_of world type)) (take l.parameter-index l.parameters));
  known : (world : World) → AreKnown world l.fn.locals.items → AreKnownFields world l.parameters → AreKnown world l.locals.items;
}
