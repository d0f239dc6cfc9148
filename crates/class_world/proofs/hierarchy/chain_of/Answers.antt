use Rattle.std.proofs.Common.{◌≡◌, ◌<◌, length, subst, arith}
use Rattle.jv_types.specs.declared.number.ClassNo.{ClassNo}
use Rattle.class_world.proofs.MethodOrders.{chain_begins, chain_stops, chain_ends, chain_goes_on, superclass_inside}
use Rattle.class_world.proofs.hierarchy.chain_of.Goals as goal

pub loop-init : goal.loop-init
loop-init c = record {
  inside = λ k is.
      let same : c.args.class ≡ k = cc in
      subst (λ (j : ClassNo). j.0 < length c.args.classes.now) same c.requires.class;
  goes_on = chain_begins c.args.classes.now _ _ c.new-numbers.ensures;
}

pub bounds-classes-class : goal.bounds-classes-class
bounds-classes-class c = c.loop.invariant.inside c.in-Some.class c.in-Some.is

pub loop-preserved : goal.loop-preserved
loop-preserved c = record {
  inside = superclass_inside c.args.classes.now c.requires.classes c.in-Some.class.0 _ (c.loop.invariant.inside c.in-Some.class c.in-Some.is);
  goes_on =
      chain_goes_on c.args.classes.now _ c.loop.counter c.loop.next c.loop.numbers.items c.loop.invariant.goes_on c.in-Some.class _ _
      c.in-Some.is (omega arith) (c.loop.invariant.inside c.in-Some.class c.in-Some.is) c.in_ok-push.ensures.ok;
}

pub returns-in_default : goal.returns-in_default
returns-in_default c = chain_stops c.args.classes.now _ c.loop.counter c.loop.next c.loop.numbers.items c.loop.invariant.goes_on c.in_default.is

pub returns : goal.returns
returns c = chain_ends c.args.classes.now _ c.loop.counter c.loop.next c.loop.numbers.items c.loop.invariant.goes_on (omega arith)
