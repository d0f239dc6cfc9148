use Rattle.std.proofs.Common.{◌++◌, ◌∙◌}
use Rattle.thread_frames.specs.Frames.{words_of}
use Rattle.frame_operands.specs.Operands.{with_stack}
use Rattle.frame_operands.proofs.Changes.{with_one, left_goes_on}
use Rattle.frame_operands.proofs.leave.replace_two.Goals as goal

pub take_two-requires : goal.take_two-requires
take_two-requires c = (c.requires.lower, c.requires.upper, c.requires.has)

pub push_and_go_on-requires : goal.push_and_go_on-requires
push_and_go_on-requires c =
    let has = c.requires.has in
    record {
      frame = with_stack has.below has.frame;
      older = has.older;
      newest = with_one c.args.stacks.now c.take_two.new.stacks c.args.t.0 has.frame has.older (with_stack has.below) has.newest
          (c.take_two.ensures c.requires.lower c.requires.upper has);
      room = c.requires.room;
    }

pub returns : goal.returns
returns c lower upper has =
    let old = c.args.stacks.now in
    let left = c.take_two.ensures lower upper has in
    c.push_and_go_on.ensures (with_stack has.below has.frame) has.older
    (with_one old c.take_two.new.stacks c.args.t.0 has.frame has.older (with_stack has.below) has.newest left)
    ∙ left_goes_on old c.take_two.new.stacks c.args.t.0 c.args.next.0 has.below (has.below ++ words_of c.args.value) left
