use Rattle.std.proofs.Common.{ap, ◌∙◌}
use Rattle.thread_frames.specs.Frames.{change_newest}
use Rattle.frame_stacks.specs.Threads.{change_thread, with_frames}
use Rattle.vm_unwind.specs.Outcome.{with_caught}
use Rattle.vm_unwind.proofs.Outcomes.{some_frame, some_frame_at, room_emptied, caught}
use Rattle.vm_unwind.proofs.outcome.catch_in_newest.Goals as goal

pub set_pc-requires : goal.set_pc-requires
set_pc-requires c = some_frame c.args.stacks.now c.args.t.0 c.requires

pub clear_stack-requires : goal.clear_stack-requires
clear_stack-requires c =
    some_frame_at c.args.stacks.now c.set_pc.new.self c.args.t.0 c.args.target.0 c.requires c.set_pc.ensures

pub push_value-requires : goal.push_value-requires
push_value-requires c =
    room_emptied c.args.stacks.now c.set_pc.new.self c.clear_stack.new.self c.args.t.0 c.args.target.0 c.args.thrown.0
    c.requires c.set_pc.ensures c.clear_stack.ensures

pub returns : goal.returns
returns c =
    caught c.args.stacks.now c.set_pc.new.self c.clear_stack.new.self c.push_value.new.self c.args.t.0 c.args.target.0
    c.from.result c.set_pc.ensures c.clear_stack.ensures c.push_value.ensures
    ∙ ap (λ address. change_thread c.args.t.0 (with_frames (change_newest (with_caught c.args.target.0 address))) c.args.stacks.now)
    c.from.ensures
