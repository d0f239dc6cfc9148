use Rattle.std.proofs.Common.{◌≡◌, ◌<◌, ◌+◌, ◌-◌, ◌++◌, ◌∷◌, [], zero, List, length, ap, sym, subst, ◌∙◌, arith}
use Rattle.jv_types.specs.declared.number.ClassNo.{ClassNo}
use Rattle.world_tables.proofs.Upwards.{upwards, upwards-none, upwards-zero, chain-upwards, superclass_told, superclass_inside, walk_more, walk_ends, IsInside}
use Rattle.world_tables.proofs.chain.chain.Goals as goal

pub returns-in_default : goal.returns-in_default
returns-in_default c =
    let world = c.args.world.now in
    walk_ends c.loop.order.items _ _
    (ap (upwards world (length world.classes - c.loop.counter)) c.in_default.is ∙ upwards-none world (length world.classes - c.loop.counter))
    c.loop.invariant.walked
    ∙ chain-upwards world c.requires.apart (length world.classes) c.args.class c.requires.inside

pub returns : goal.returns
returns c =
    let world = c.args.world.now in
    let none : length world.classes - c.loop.counter ≡ 0 = omega (arith, c.classes-end.ensures) in
    walk_ends c.loop.order.items _ _
    (ap (λ n. upwards world n c.loop.next) none ∙ upwards-zero world c.loop.next)
    c.loop.invariant.walked
    ∙ chain-upwards world c.requires.apart (length world.classes) c.args.class c.requires.inside

pub loop-preserved : goal.loop-preserved
loop-preserved c =
    let world = c.args.world.now in
    let told = superclass_told world c.in-Some.class c.class.ensures.0 c.class.result.now.superclass c.class.ensures.1 c.class.ensures.2.superclass in
    let inside : c.loop.counter < length world.classes = omega (arith, c.classes-end.ensures) in
    record {
      walked =
          ap (λ (o : List ClassNo). o ++ upwards world (length world.classes - (c.loop.counter + 1)) c.class.result.now.superclass) c.in_ok-push.ensures.ok
          ∙ walk_more world c.loop.counter c.in-Some.class c.loop.order.items _ c.loop.next c.class.result.now.superclass
          inside c.in-Some.is told c.loop.invariant.walked;
      inside = subst (IsInside world) (sym told) (superclass_inside world c.in-Some.class);
    }
