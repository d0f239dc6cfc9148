use Rattle.std.proofs.Common.{◌+◌, ap, sym, ◌∙◌, arith}
use Rattle.world_model.specs.World.{Class}
use Rattle.class_world.specs.World.{names_of}
use Rattle.code_marks.specs.Marks.{code_count}
use Rattle.code_marks.proofs.Worlds.{methods_are, codes_begin, codes_next, none_so_far, next_class, world_marks, show_codes}
use Rattle.code_marks.proofs.marks.CodeMarks.open.Goals as goal

pub loop-class-init : goal.loop-class-init
loop-class-init c = record {
  base_is = sym (codes_begin c.args.world.now);
  so_far = none_so_far c.args.world.now _ c.new-marks.ensures;
}

pub loop-class-preserved : goal.loop-class-preserved
loop-class-preserved c =
    let world = c.args.world.now in
    let class = c.class.ensures.0 in
    let origin = c.class.result.now.origin in
    let methods = methods_are (names_of world) origin ∙ ap (λ (k : Class). k.methods) c.class.ensures.2.origin in
    record {
      base_is = c.in_ok-base.ensures.next ∙ ap (λ l. c.loop-class.base + code_count l) methods
          ∙ ap (λ n. n + code_count class.methods) c.loop-class.invariant.base_is
          ∙ sym (codes_next world c.loop-class.class class c.class.ensures.1);
      so_far = next_class world c.loop-class.class class _ c.loop-class.base _ _ c.class.ensures.1 methods c.loop-class.invariant.base_is
          c.in_ok-base.ensures.ok c.loop-class.invariant.so_far;
    }

pub returns-clause-each : goal.returns-clause-each
returns-clause-each c =
    world_marks c.args.world.now c.loop-class.class _ (omega arith) c.loop-class.invariant.so_far

pub returns-clause-shown : goal.returns-clause-shown
returns-clause-shown c =
    show_codes c.args.world.now _ (world_marks c.args.world.now c.loop-class.class _ (omega arith) c.loop-class.invariant.so_far)
