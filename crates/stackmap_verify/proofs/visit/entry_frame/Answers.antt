use Rattle.stackmap_verify.proofs.Entering.{neither, flow_alone, map_alone, both_go, both_clash}
use Rattle.stackmap_verify.proofs.visit.entry_frame.Goals as goal

pub returns-in-None-None-clause-enters : goal.returns-in-None-None-clause-enters
returns-in-None-None-clause-enters g c = λ e is v at flows.
    neither c.args.method.now.world.now e v c.args.pc at c.in_ok-map_frame_at.field-0 c.args.flow
    (c.in_ok-map_frame_at.ensures.same e is) flows c.in-None-None.is-0 c.in-None-None.is-1

pub returns-in-None-Some-clause-enters : goal.returns-in-None-Some-clause-enters
returns-in-None-Some-clause-enters g c = λ e is v at flows.
    flow_alone c.args.method.now.world.now e v c.args.pc at c.in_ok-map_frame_at.field-0 c.args.flow
    (c.in_ok-map_frame_at.ensures.same e is) flows c.in-None-Some.frame c.in-None-Some.is-0 c.in-None-Some.is-1

pub returns-in-Some-None-clause-enters : goal.returns-in-Some-None-clause-enters
returns-in-Some-None-clause-enters g c = λ e is v at flows.
    map_alone c.args.method.now.world.now e v c.args.pc at c.in_ok-map_frame_at.field-0 c.args.flow
    (c.in_ok-map_frame_at.ensures.same e is) flows c.in-Some-None.map c.in-Some-None.is-0 c.in-Some-None.is-1

pub returns-then-frame_assignable-clause-enters : goal.returns-then-frame_assignable-clause-enters
returns-then-frame_assignable-clause-enters g c = λ e is v at flows.
    both_go c.args.method.now.world.now e v c.args.pc at c.in_ok-map_frame_at.field-0 c.args.flow
    (c.in_ok-map_frame_at.ensures.same e is) flows c.in-Some-Some.frame c.in-Some-Some.map c.in-Some-Some.is-0 c.in-Some-Some.is-1
    is.environment.world_is c.frame_assignable.result c.frame_assignable.ensures c.if-frame_assignable.true

pub returns-else-frame_assignable-clause-enters : goal.returns-else-frame_assignable-clause-enters
returns-else-frame_assignable-clause-enters g c = λ e is v at flows.
    both_clash c.args.method.now.world.now e v c.args.pc at c.in_ok-map_frame_at.field-0 c.args.flow
    (c.in_ok-map_frame_at.ensures.same e is) flows c.in-Some-Some.frame c.in-Some-Some.map c.in-Some-Some.is-0 c.in-Some-Some.is-1
    is.environment.world_is c.frame_assignable.result c.frame_assignable.ensures c.if-frame_assignable.false
