use Rattle.std.proofs.Common.{ap, ◌∙◌, arith}
use Rattle.class_world.specs.World.{names_of}
use Rattle.world_literals.specs.Literals.{class_strings}
use Rattle.world_literals.proofs.Growing.{same_strings, class_next, class_all, are_literals, begun}
use Rattle.world_literals.proofs.Named.{one_covers, all_named}
use Rattle.world_literals.proofs.pools.literals.Goals as goal

pub loop-class-init : goal.loop-class-init
loop-class-init c = record {
  texts = begun c.args.world.now c.new-texts.result c.new-texts.ensures;
  covered = λ k class before at. absurd (omega arith);
}

pub loop-class-preserved : goal.loop-class-preserved
loop-class-preserved c =
    let world = c.args.world.now in
    let origin = c.class.result.now.origin in
    record {
      texts = class_next world.classes c.loop-class.class c.class.ensures.0 _ _ _ _ c.class.ensures.1
          (same_strings (names_of world) origin ∙ ap class_strings c.class.ensures.2.origin)
          c.in_ok-add_class.ensures c.loop-class.invariant.texts;
      covered = one_covers world c.loop-class.class c.class.ensures.0 (names_of world) origin c.class.ensures.1 c.class.ensures.2.origin
          c.loop-class.invariant.covered;
    }

pub returns-clause-texts : goal.returns-clause-texts
returns-clause-texts c =
    let world = c.args.world.now in
    are_literals world c.loop-class.texts
    (class_all world.classes c.loop-class.class _ _ (omega (arith, c.classes-class-end.ensures)) c.loop-class.invariant.texts)

pub returns-clause-named : goal.returns-clause-named
returns-clause-named c =
    let world = c.args.world.now in
    all_named world c.loop-class.texts c.loop-class.class (omega (arith, c.classes-class-end.ensures)) c.loop-class.invariant.covered
    (are_literals world c.loop-class.texts
    (class_all world.classes c.loop-class.class _ _ (omega (arith, c.classes-class-end.ensures)) c.loop-class.invariant.texts))
