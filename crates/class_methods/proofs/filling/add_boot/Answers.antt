use Rattle.std.proofs.Common.{arith}
use Rattle.class_world.specs.Signatures.{boot_method_pair}
use Rattle.class_methods.proofs.Rows.{adds_none, adds_next, adds_all}
use Rattle.class_methods.proofs.filling.add_boot.Goals as goal

pub loop-method-init : goal.loop-method-init
loop-method-init c = adds_none c.args.filling.now c.args.row.now.items

pub loop-method-preserved : goal.loop-method-preserved
loop-method-preserved c =
    adds_next boot_method_pair c.args.methods.now c.args.filling.now c.args.row.now.items c.loop-method.method-index c.method-item.result
    _ _ _ _ (omega arith) c.method-item.is c.loop-method.invariant _ (λ i. (c.as_slice-name.ensures i, c.as_slice-descriptor.ensures i)) c.in_ok-add_method.ensures

pub returns : goal.returns
returns c =
    adds_all boot_method_pair c.args.methods.now c.args.filling.now c.args.row.now.items c.loop-method.method-index _ _ (omega arith)
    c.loop-method.invariant
