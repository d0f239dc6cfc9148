use Rattle.std.proofs.Common.{Some, List, map, ap, ◌∙◌, arith}
use Rattle.std.proofs.lemmas.List.{take_all}
use Rattle.code_model.specs.Names.{named_type}
use Rattle.typing_model.specs.DescriptorFrame.{map_type}
use Rattle.jv_types.specs.ClassData.{pool_of}
use Rattle.jv_types.specs.Code.{map_type_of}
use Rattle.jv_types.specs.declared.code.MapType.{MapType}
use Rattle.jv_types.specs.declared.code.MapType.TheVariants.{Top}
use Rattle.map_frames.proofs.Places.{three-maps}
use Rattle.map_frames.proofs.LinkedFrames.{entry-linked}
use Rattle.map_frames.proofs.frames.map_operands.Goals as goal

pub map_type-requires-clause-linked : goal.map_type-requires-clause-linked
map_type-requires-clause-linked c =
    entry-linked c.args.world.now (pool_of c.args.code.now.pool.now) c.args.types.now c.loop-there.there-index Top
    c.loop-there-test.true c.requires.linked

pub returns-clause-same : goal.returns-clause-same
returns-clause-same c = λ e has.
    let named = named_type (pool_of c.args.code.now.pool.now) (Some e.type) in
    c.loop-there.invariant.same e has
    ∙ ap (λ (ts : List MapType). map (λ (t : MapType). map_type e (named (map_type_of t))) ts)
    (take_all c.loop-there.there-index c.args.types.now (omega arith))
    ∙ three-maps (map_type e) named map_type_of c.args.types.now
