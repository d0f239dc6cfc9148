use Rattle.std.proofs.Common.{◌≡◌, ◌<◌, length, sym, ap, ◌∙◌, arith}
use Rattle.row_heap.specs.Forwards.{forwarded_root}
use Rattle.row_heap.proofs.CopyLemmas.{root_set}
use Rattle.row_heap.proofs.copying.forward_roots.Goals as goal

pub loop-at-preserved : goal.loop-at-preserved
loop-at-preserved c = (
  c.set.ensures.items ∙ root_set (forwarded_root c.args.forwards.now) c.args.roots.now.addrs.items c.loop-at.roots.addrs.items c.loop-at.at c.get.result.now
      c.loop-at.invariant.0 (omega (arith, c.loop-at-test.true, c.len-at-end.ensures)) c.get.ensures,
  c.set.ensures.spare ∙ c.loop-at.invariant.1,
)
