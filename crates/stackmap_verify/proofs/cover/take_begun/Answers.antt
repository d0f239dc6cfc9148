use Rattle.std.proofs.Common.{rules, ◌+◌, List, None, subst, sym, arith}
use Rattle.jv_types.specs.declared.code.Handler.{Handler}
use Rattle.stackmap_verify.specs.Cover.{AreLeft}
use Rattle.stackmap_verify.proofs.Covering.{one_more, begins_after, none_after}
use Rattle.stackmap_verify.proofs.cover.take_begun.Goals as goal

pub loop-begun-preserved : goal.loop-begun-preserved
loop-begun-preserved c = record {
  within = omega arith;
  active = λ test place so_far.
      subst (λ (l : List Handler). AreLeft test c.args.rows.now (c.loop-begun.begun + 1) l place) (sym c.in_ok-push-2.ensures.items)
      (one_more test c.args.rows.now c.loop-begun.active.items c.loop-begun.begun _ (omega arith) (search rules) place
      (c.loop-begun.invariant.active test place so_far));
  unseen = λ test place so_far.
      subst (λ (l : List Handler). AreLeft test c.args.rows.now (c.loop-begun.begun + 1) l place) (sym c.in_ok-push.ensures.items)
      (one_more test c.args.rows.now c.loop-begun.unseen.items c.loop-begun.begun _ (omega arith) (search rules) place
      (c.loop-begun.invariant.unseen test place so_far));
}

pub returns-else-rows-begun-clause-later : goal.returns-else-rows-begun-clause-later
returns-else-rows-begun-clause-later c =
    begins_after c.args.rows.now c.loop-begun.begun c.args.pc (record { from = 0; to = 0; target = 0; catch = None }) (omega arith) (omega arith)

pub returns-after-loop-begun-clause-later : goal.returns-after-loop-begun-clause-later
returns-after-loop-begun-clause-later c = none_after c.args.rows.now c.loop-begun.begun c.args.pc (omega arith)
