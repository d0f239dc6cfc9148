use Rattle.std.proofs.Common.{◌≡◌, ◌-◌, None, Some, length, sym, ◌∙◌, arith}
use Rattle.class_world.specs.World.{name_at}
use Rattle.vm_unwind.specs.Catching.{frames_of}
use Rattle.vm_unwind.proofs.Searching.{of_thread, one_more}
use Rattle.vm_unwind.proofs.catching.find_catching.Goals as goal

pub returns-in-Some-clause-found : goal.returns-in-Some-clause-found
returns-in-Some-clause-found g c =
    let frames = frames_of c.args.stacks.now c.args.t.0 in
    let long = of_thread (λ frames. c.depth-depth.result ≡ length frames) c.args.stacks.now c.args.t.0 c.depth-depth.ensures.depth in
    let more =
    one_more c.args.world.now (name_at c.args.world.now c.args.class) frames c.loop-above.above
    (c.depth-depth.result - 1 - c.loop-above.above) (Some c.in-Some.target.0) c.loop-above.steps c.handler_in_frame.new.steps
    (omega arith) c.in-Some.ensures.found c.in-Some.ensures.steps in
    sym more.found ∙ c.loop-above.invariant.searched

pub returns-in-Some-clause-steps : goal.returns-in-Some-clause-steps
returns-in-Some-clause-steps g c =
    let frames = frames_of c.args.stacks.now c.args.t.0 in
    let long = of_thread (λ frames. c.depth-depth.result ≡ length frames) c.args.stacks.now c.args.t.0 c.depth-depth.ensures.depth in
    let more =
    one_more c.args.world.now (name_at c.args.world.now c.args.class) frames c.loop-above.above
    (c.depth-depth.result - 1 - c.loop-above.above) (Some c.in-Some.target.0) c.loop-above.steps c.handler_in_frame.new.steps
    (omega arith) c.in-Some.ensures.found c.in-Some.ensures.steps in
    omega (arith, more.steps, c.loop-above.invariant.counted)

pub loop-above-preserved : goal.loop-above-preserved
loop-above-preserved g c =
    let frames = frames_of c.args.stacks.now c.args.t.0 in
    let long = of_thread (λ frames. c.depth-depth.result ≡ length frames) c.args.stacks.now c.args.t.0 c.depth-depth.ensures.depth in
    let more =
    one_more c.args.world.now (name_at c.args.world.now c.args.class) frames c.loop-above.above
    (c.depth-depth.result - 1 - c.loop-above.above) None c.loop-above.steps c.handler_in_frame.new.steps
    (omega arith) c.in_default.ensures.found c.in_default.ensures.steps in
    record {
      searched = sym more.found ∙ c.loop-above.invariant.searched;
      counted = omega (arith, more.steps, c.loop-above.invariant.counted);
    }
