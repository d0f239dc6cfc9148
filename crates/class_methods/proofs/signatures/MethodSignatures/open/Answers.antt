use Rattle.std.proofs.Common.{◌≤◌, length, map, take, arith}
use Rattle.std.proofs.lemmas.List.{length-map, take_all}
use Rattle.class_world.specs.World.{names_of}
use Rattle.class_methods.proofs.Rows.{calls_of, next_class, are_signatures}
use Rattle.class_methods.proofs.signatures.MethodSignatures.open.Goals as goal

pub loop-class-init : goal.loop-class-init
loop-class-init c = rw c.new-rows.ensures c.new-filling.ensures

pub loop-class-preserved : goal.loop-class-preserved
loop-class-preserved c =
    next_class c.args.world.now (names_of c.args.world.now) c.loop-class.class c.class.ensures.0 c.class.result.now.origin
    c.loop-class.filling c.add_class.new.filling (map (λ row. row.items) c.loop-class.rows.items) (map (λ row. row.items) c.add_class.new.rows.items)
    c.class.ensures.1 c.class.ensures.2.origin c.in_ok-add_class.ensures c.loop-class.invariant

pub returns : goal.returns
returns c =
    let world = c.args.world.now in
    let past : length (map calls_of world.classes) ≤ c.loop-class.class =
    omega (arith, c.classes-class-end.ensures, length-map world.classes calls_of) in
    are_signatures world c.loop-class.filling (map (λ row. row.items) c.loop-class.rows.items) (take c.loop-class.class (map calls_of world.classes))
    (take_all c.loop-class.class (map calls_of world.classes) past) c.loop-class.invariant
