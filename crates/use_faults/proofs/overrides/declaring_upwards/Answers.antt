use Rattle.std.proofs.Common.{◌≡◌, ◌+◌, ◌-◌, suc, length, subst, Option, arith}
use Rattle.std.specs.Prelude.{IfSome}
use Rattle.jv_types.specs.declared.number.ClassNo.{ClassNo}
use Rattle.use_faults.specs.Wrong.{IsKnown}
use Rattle.use_faults.proofs.Finals.{known_up, none_passed, none_left, all_passed, one_passed}
use Rattle.use_faults.proofs.overrides.declaring_upwards.Goals as goal

pub loop-init : goal.loop-init
loop-init c = record {
  known = c.requires.known;
  so_far = none_passed c.args.world.now c.args.finals.now c.args.superclass c.new-classes.result.items c.new-classes.ensures;
}

pub loop-preserved : goal.loop-preserved
loop-preserved c =
    let world = c.args.world.now in
    let left = length world.classes - (c.loop.counter + 1) in
    let one : length world.classes - c.loop.counter ≡ suc left = omega arith in
    let known = subst (λ (o : Option ClassNo). IfSome o (IsKnown world)) c.in-Some.is c.loop.invariant.known in
    record {
      known = known_up world c.in-Some.class.0 c.class.result.now c.class.ensures;
      so_far = one_passed world c.args.finals.now c.args.superclass c.loop.classes.items (length world.classes - c.loop.counter) left
          c.loop.next c.in-Some.class c.class.result.now c.push_declaring.new.classes.items c.requires.finals c.class.ensures known
          c.in-Some.is one c.in_ok-push_declaring.ensures c.loop.invariant.so_far;
    }

pub returns : goal.returns
returns c =
    let world = c.args.world.now in
    let none : length world.classes - c.loop.counter ≡ 0 = omega arith in
    all_passed world c.args.finals.now c.args.superclass c.loop.classes.items (length world.classes - c.loop.counter) c.loop.next
    c.loop.invariant.so_far none

pub returns-in_default : goal.returns-in_default
returns-in_default c =
    let world = c.args.world.now in
    none_left world c.args.finals.now c.args.superclass c.loop.classes.items (length world.classes - c.loop.counter) c.loop.next
    c.loop.invariant.so_far c.in_default.is
