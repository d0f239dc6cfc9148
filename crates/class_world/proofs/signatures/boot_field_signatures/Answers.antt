use Rattle.std.proofs.Common.{arith}
use Rattle.class_world.specs.Signatures.{boot_field_pair}
use Rattle.class_world.proofs.Spelling.{so_far_begins, so_far_goes_on, so_far_twice, so_far_ends}
use Rattle.class_world.proofs.signatures.boot_field_signatures.Goals as goal

pub loop-field-init : goal.loop-field-init
loop-field-init c = so_far_begins boot_field_pair c.args.fields.now c.args.texts.now c.requires _ c.new-rows.ensures

pub loop-field-preserved : goal.loop-field-preserved
loop-field-preserved c =
    so_far_goes_on boot_field_pair c.args.fields.now c.args.texts.now c.loop-field.field-index _ _ c.loop-field.invariant
    c.field-item.result (omega arith) c.field-item.is _ _ _ _ (λ i. (c.as_slice-name.ensures i, c.as_slice-descriptor.ensures i)) c.in_ok-is_new.ensures c.if-not-is_new.false

pub returns-then-not-is_new : goal.returns-then-not-is_new
returns-then-not-is_new c =
    so_far_twice boot_field_pair c.args.fields.now c.args.texts.now c.loop-field.field-index _ _ c.loop-field.invariant
    c.field-item.result (omega arith) c.field-item.is _ _ _ _ (λ i. (c.as_slice-name.ensures i, c.as_slice-descriptor.ensures i)) c.in_ok-is_new.ensures c.if-not-is_new.true

pub returns : goal.returns
returns c = so_far_ends boot_field_pair c.args.fields.now c.args.texts.now c.loop-field.field-index _ _ (omega arith) c.loop-field.invariant
