use Rattle.std.proofs.Common.{refl}
use Rattle.std.proofs.lemmas.Result.{err_from_is_err_and}
use Rattle.std.proofs.lemmas.List.{map_push}
use Rattle.jv_types.specs.ClassData.{member_of}
use Rattle.class_reader.specs.MemberKind.{kind_of}
use Rattle.class_reader.proofs.Loops.Counted.{goes_on, is_refused, is_done}
use Rattle.class_reader.proofs.Loops.Lists.{members_kind, members}
use Rattle.class_reader.proofs.member.read_members.Goals as goal

pub returns-in_err-member : goal.returns-in_err-member
returns-in_err-member c =
    let pool = c.args.pool.now in
    let kind = kind_of c.args.kind in
    let error = err_from_is_err_and c.from_residual.result c.from_residual.ensures.1 in
    rw (error.1, error.2) (is_refused (members_kind pool kind)
    (members pool kind) _ tt _ _ _ _ c.loop.invariant _ c.loop-test.true
    c.in_err-member.ensures)

pub loop-preserved : goal.loop-preserved
loop-preserved c =
    let pool = c.args.pool.now in
    let kind = kind_of c.args.kind in
    rw (c.in_ok-push.ensures.ok, map_push member_of c.loop.members.items c.in_ok-member.member)
    (goes_on (members_kind pool kind)
    (members pool kind) _ tt _ _ _ _ c.loop.invariant _ _ c.loop-test.true
    c.in_ok-member.ensures)

pub returns : goal.returns
returns c =
    let pool = c.args.pool.now in
    let kind = kind_of c.args.kind in
    is_done (members_kind pool kind)
    (members pool kind) _ tt _ _ _ _ c.loop.invariant c.loop-test.false refl
