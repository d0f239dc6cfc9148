use Rattle.std.proofs.Common.{◌+◌, ◌≤◌, length, ◌∙◌}
use Rattle.jv_values.specs.Values.{places_of}
use Rattle.thread_frames.specs.Frames.{FrameState, with_pushed}
use Rattle.frame_operands.proofs.Changes.{with_one, of_newest, has_frame, pushed_goes_on}
use Rattle.frame_operands.proofs.leave.push_and_go_on.Goals as goal

pub push_value-requires : goal.push_value-requires
push_value-requires c =
    let can = c.requires in
    of_newest c.args.stacks.now c.args.t.0 can.frame can.older
    (λ (frame : FrameState). length frame.stack + places_of c.args.value ≤ frame.max_stack) can.newest can.room

pub go_on-requires : goal.go_on-requires
go_on-requires c =
    let can = c.requires in
    has_frame c.push_value.new.self c.args.t.0 (with_pushed c.args.value can.frame) can.older
    (with_one c.args.stacks.now c.push_value.new.self c.args.t.0 can.frame can.older (with_pushed c.args.value) can.newest c.push_value.ensures)

pub returns : goal.returns
returns c frame older newest =
    let old = c.args.stacks.now in
    let pushed = c.push_value.new.self in
    c.go_on.ensures (with_pushed c.args.value frame) older
    (with_one old pushed c.args.t.0 frame older (with_pushed c.args.value) newest c.push_value.ensures)
    ∙ pushed_goes_on old pushed c.args.t.0 c.args.next.0 frame older c.args.value newest c.push_value.ensures
