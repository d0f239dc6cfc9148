use Rattle.std.proofs.Common.{ap}
use Rattle.std.specs.Prelude.{IsSome, is_some}
use Rattle.thread_frames.specs.Frames.{FrameState}
use Rattle.thread_frames.specs.Machine.{operands_of, value_on_top}
use Rattle.frame_operands.proofs.Tops.{on_top}
use Rattle.frame_operands.proofs.Changes.{of_newest, one_taken}
use Rattle.frame_operands.proofs.leave.take_one.Goals as goal

pub pop_value-requires : goal.pop_value-requires
pop_value-requires c =
    let has = c.requires.1 in
    of_newest c.args.stacks.now c.args.t.0 has.frame has.older (λ (frame : FrameState). IsSome (value_on_top (operands_of frame))) has.newest
    (ap is_some (on_top c.requires.0 has.frame.stack has.below has.value has.top))

pub returns : goal.returns
returns c kind has =
    one_taken c.args.stacks.now c.pop_value.new.self c.args.t.0 kind has c.pop_value.result c.pop_value.ensures.value c.pop_value.ensures.rest
