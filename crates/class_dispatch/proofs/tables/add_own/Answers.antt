use Rattle.std.proofs.Common.{refl, arith}
use Rattle.class_dispatch.proofs.Steps.{own_next, own_all}
use Rattle.class_dispatch.proofs.tables.add_own.Goals as goal

pub loop-index-init : goal.loop-index-init
loop-index-init c = λ signature. refl

pub loop-index-preserved : goal.loop-index-preserved
loop-index-preserved c = λ signature.
    own_next c.args.signatures.now c.args.class c.args.row.now.items c.loop-index.index signature c.get.result.now _ _ _ c.get.ensures
    (c.in_ok-add_method.ensures signature) (c.loop-index.invariant signature)

pub returns : goal.returns
returns c = λ signature.
    own_all c.args.signatures.now c.args.class c.args.row.now.items c.loop-index.index signature _ _ (omega (arith, c.len-index-end.ensures))
    (c.loop-index.invariant signature)
