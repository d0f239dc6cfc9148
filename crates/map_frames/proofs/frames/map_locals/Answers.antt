use Rattle.std.proofs.Common.{◌++◌, [], ◌∷◌, Some, List, map, take, get_or, sym, ap, ◌∙◌, arith}
use Rattle.std.proofs.lemmas.List.{take_all, take_more, map-append}
use Rattle.code_model.specs.Names.{named_type}
use Rattle.typing_model.specs.VerificationType as model
use Rattle.typing_model.specs.DescriptorFrame.{map_type, as_locals}
use Rattle.jv_types.specs.ClassData.{pool_of}
use Rattle.jv_types.specs.Code.{map_type_of}
use Rattle.jv_types.specs.declared.code.MapType.{MapType}
use Rattle.jv_types.specs.declared.code.MapType.TheVariants.{Top}
use Rattle.type_rules.specs.Frames.{types_of}
use Rattle.map_frames.proofs.Places.{one-more, three-maps}
use Rattle.map_frames.proofs.LinkedFrames.{entry-linked}
use Rattle.map_frames.proofs.frames.map_locals.Goals as goal

pub map_type-requires-clause-linked : goal.map_type-requires-clause-linked
map_type-requires-clause-linked c =
    entry-linked c.args.world.now (pool_of c.args.code.now.pool.now) c.args.types.now c.loop-there.there-index Top
    c.loop-there-test.true c.requires.linked

pub loop-there-preserved : goal.loop-there-preserved
loop-there-preserved c =
    let w = c.args.world.now in
    let xs = c.args.types.now in
    let n = c.loop-there.there-index in
    let so_far = types_of w c.loop-there.locals.items in
    record {
      same = λ e has.
          let f : MapType → model.VerificationType = λ (t : MapType). map_type e (named_type (pool_of c.args.code.now.pool.now) (Some e.type) (map_type_of t)) in
          c.in_ok-push_local.ensures.same w
          ∙ ap (λ (t : model.VerificationType). so_far ++ as_locals (t ∷ [])) (c.map_type.ensures.same e has)
          ∙ one-more [] so_far (map f (take n xs)) (f (get_or xs n Top)) (c.loop-there.invariant.same e has)
          ∙ ap as_locals (sym (map-append f (take n xs) (get_or xs n Top ∷ [])) ∙ ap (map f) (sym (take_more xs n Top c.loop-there-test.true)));
      known = c.in_ok-push_local.ensures.known w c.loop-there.invariant.known c.map_type.ensures.known;
    }

pub returns-clause-same : goal.returns-clause-same
returns-clause-same c = λ e has.
    let named = named_type (pool_of c.args.code.now.pool.now) (Some e.type) in
    c.loop-there.invariant.same e has
    ∙ ap (λ (ts : List MapType). as_locals (map (λ (t : MapType). map_type e (named (map_type_of t))) ts))
    (take_all c.loop-there.there-index c.args.types.now (omega arith))
    ∙ ap as_locals (three-maps (map_type e) named map_type_of c.args.types.now)
