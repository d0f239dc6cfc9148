use Rattle.std.proofs.Common.{◌≤◌, Bool, List, length, subst, sym}
use Rattle.jv_types.specs.declared.code.Handler.{Handler}
use Rattle.stackmap_verify.specs.Cover.{HasLeft}
use Rattle.stackmap_verify.proofs.Covering.{came_to, later_is, none_later}
use Rattle.stackmap_verify.proofs.cover.Cover.come_to.Goals as goal

pub invariant_of-self-2 : goal.invariant_of-self-2
invariant_of-self-2 c = record {
  within = subst (λ (r : List Handler). c.take_begun.new.begun ≤ length r) c.deref.ensures.value c.take_begun.ensures.within;
  sorted = c.self.invariant.sorted;
  is_active = λ test. came_to test c.self.inside.rows.items c.deref.result.now c.self.inside.active.items c.go_back.new.active.items c.take_begun.new.active.items c.drop_ended.new.active.items
      c.self.inside.begun c.go_back.new.begun c.take_begun.new.begun c.self.inside.place c.args.pc c.deref.ensures.value
      (c.self.invariant.is_active test) (c.go_back.ensures.active c.self.inside.rows.items test) (c.take_begun.ensures.active test c.args.pc) c.drop_ended.ensures;
}

pub returns-clause-here : goal.returns-clause-here
returns-clause-here c = λ test others left.
    none_later test c.self.inside.rows.items others c.take_begun.new.begun c.args.pc c.self.invariant.sorted
    (later_is c.self.inside.rows.items c.deref.result.now c.take_begun.new.begun c.args.pc c.deref.ensures.value c.in_ok-take_begun.ensures.later)
    left

pub returns-clause-active : goal.returns-clause-active
returns-clause-active c = λ (test : Handler → Bool).
    came_to test c.self.inside.rows.items c.deref.result.now c.self.inside.active.items c.go_back.new.active.items c.take_begun.new.active.items c.drop_ended.new.active.items
    c.self.inside.begun c.go_back.new.begun c.take_begun.new.begun c.self.inside.place c.args.pc c.deref.ensures.value
    (c.self.invariant.is_active test) (c.go_back.ensures.active c.self.inside.rows.items test) (c.take_begun.ensures.active test c.args.pc) c.drop_ended.ensures

pub returns-clause-left : goal.returns-clause-left
returns-clause-left c = λ (test : Handler → Bool) left.
    came_to test c.self.inside.rows.items c.deref.result.now c.self.inside.unseen.items c.go_back.new.unseen.items c.take_begun.new.unseen.items c.drop_ended-2.new.active.items
    c.self.inside.begun c.go_back.new.begun c.take_begun.new.begun c.self.inside.place c.args.pc c.deref.ensures.value
    (subst (HasLeft test) (sym c.self.view_is) left) (c.go_back.ensures.unseen c.self.inside.rows.items test) (c.in_ok-take_begun.ensures.unseen test c.args.pc) c.drop_ended-2.ensures
