use Rattle.std.proofs.Common.{◌≡◌, Some, map, take}
use Rattle.code_model.specs.Names.{named_type}
use Rattle.typing_model.specs.Environment.{Environment}
use Rattle.typing_model.specs.DescriptorFrame.{map_type, as_locals}
use Rattle.jv_types.specs.ClassData.{pool_of}
use Rattle.jv_types.specs.Code.{map_type_of}
use Rattle.jv_types.specs.declared.code.MapType.{MapType}
use Rattle.type_rules.specs.Frames.{types_of, AreKnown}
use Rattle.map_frames.specs.Methods.{HasParameters}
use Rattle.map_frames.proofs.frames.map_locals.Given as goal

-- the types so far
abbrev pub invariant-loop-there : goal.invariant-loop-there
invariant-loop-there l = record {
  same : (e : Environment) → HasParameters l.world l.code e → types_of l.world l.locals.items
      ≡ as_locals (map (λ (type : MapType). map_type e (named_type (pool_of l.code.pool.now) (Some e.type) (map_type_of type)))
      (take l.there-index l.types));
  known : AreKnown l.world l.locals.items;
}
