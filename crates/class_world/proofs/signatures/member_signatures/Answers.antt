use Rattle.std.proofs.Common.{arith}
use Rattle.jv_types.specs.ClassData.{pool_of}
use Rattle.class_world.specs.Signatures.{member_pair}
use Rattle.class_world.proofs.Spelling.{so_far_begins, so_far_goes_on, so_far_twice, so_far_ends}
use Rattle.class_world.proofs.signatures.member_signatures.Goals as goal

pub loop-member-init : goal.loop-member-init
loop-member-init c = so_far_begins (member_pair (pool_of c.args.pool.now)) c.args.members.now c.args.texts.now c.requires _ c.new-rows.ensures

pub loop-member-preserved : goal.loop-member-preserved
loop-member-preserved c =
    so_far_goes_on (member_pair (pool_of c.args.pool.now)) c.args.members.now c.args.texts.now c.loop-member.member-index _ _ c.loop-member.invariant
    c.member-item.result (omega arith) c.member-item.is _ _ _ _ (λ i. (c.text_at-name.ensures i, c.text_at-descriptor.ensures i)) c.in_ok-is_new.ensures c.if-not-is_new.false

pub returns-then-not-is_new : goal.returns-then-not-is_new
returns-then-not-is_new c =
    so_far_twice (member_pair (pool_of c.args.pool.now)) c.args.members.now c.args.texts.now c.loop-member.member-index _ _ c.loop-member.invariant
    c.member-item.result (omega arith) c.member-item.is _ _ _ _ (λ i. (c.text_at-name.ensures i, c.text_at-descriptor.ensures i)) c.in_ok-is_new.ensures c.if-not-is_new.true

pub returns : goal.returns
returns c = so_far_ends (member_pair (pool_of c.args.pool.now)) c.args.members.now c.args.texts.now c.loop-member.member-index _ _ (omega arith) c.loop-member.invariant
