use Rattle.std.proofs.Common.{arith}
use Rattle.class_world.specs.Signatures.{boot_method_pair}
use Rattle.class_world.proofs.Spelling.{so_far_begins, so_far_goes_on, so_far_twice, so_far_ends}
use Rattle.class_world.proofs.signatures.boot_method_signatures.Goals as goal

pub loop-method-init : goal.loop-method-init
loop-method-init c = so_far_begins boot_method_pair c.args.methods.now c.args.texts.now c.requires _ c.new-rows.ensures

pub loop-method-preserved : goal.loop-method-preserved
loop-method-preserved c =
    so_far_goes_on boot_method_pair c.args.methods.now c.args.texts.now c.loop-method.method-index _ _ c.loop-method.invariant
    c.method-item.result (omega arith) c.method-item.is _ _ _ _ (λ i. (c.as_slice-name.ensures i, c.as_slice-descriptor.ensures i)) c.in_ok-is_new.ensures c.if-not-is_new.false

pub returns-then-not-is_new : goal.returns-then-not-is_new
returns-then-not-is_new c =
    so_far_twice boot_method_pair c.args.methods.now c.args.texts.now c.loop-method.method-index _ _ c.loop-method.invariant
    c.method-item.result (omega arith) c.method-item.is _ _ _ _ (λ i. (c.as_slice-name.ensures i, c.as_slice-descriptor.ensures i)) c.in_ok-is_new.ensures c.if-not-is_new.true

pub returns : goal.returns
returns c = so_far_ends boot_method_pair c.args.methods.now c.args.texts.now c.loop-method.method-index _ _ (omega arith) c.loop-method.invariant
