use Rattle.std.proofs.Common.{◌≡◌, map, take}
use Rattle.world_model.specs.World.{World}
use Rattle.typing_model.specs.VerificationType as model
use Rattle.type_rules.specs.declared.types.FieldType.{FieldType}
use Rattle.type_rules.specs.Types.{field_type_of}
use Rattle.type_rules.specs.Frames.{types_of, AreKnown}
use Rattle.member_types.specs.Signatures.{AreKnownFields}
use Rattle.member_types.proofs.signatures.verification_types.Given as goal

-- those so far
abbrev pub invariant-loop-field_type : goal.invariant-loop-field_type
invariant-loop-field_type l = record {
  same : (world : World) → types_of world l.found.items
      ≡ map (λ (type : FieldType). model.type_of (field_type_of world type)) (take l.field_type-index l.types);
  known : (world : World) → AreKnownFields world l.types → AreKnown world l.found.items;
}
