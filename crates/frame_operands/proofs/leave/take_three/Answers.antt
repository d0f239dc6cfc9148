use Rattle.std.proofs.Common.{ap, ◌∙◌}
use Rattle.frame_operands.specs.Operands.{with_stack, leaves}
use Rattle.frame_operands.proofs.Changes.{with_one, has_frame, two_of_three, uppermost, left_twice, left_goes_on}
use Rattle.frame_operands.proofs.leave.take_three.Goals as goal

pub take_one-requires : goal.take_one-requires
take_one-requires c = (c.requires.2, uppermost c.requires.3)

pub take_two-requires : goal.take_two-requires
take_two-requires c =
    let has = c.requires.3 in (
      c.requires.0,
      c.requires.1,
      two_of_three c.args.stacks.now c.take_one.new.stacks c.args.t.0 c.requires.0 c.requires.1 c.requires.2 has
          (c.take_one.ensures c.requires.2 (uppermost has)),
    )

pub go_on-requires : goal.go_on-requires
go_on-requires c =
    let has = c.requires.3 in
    let old = c.args.stacks.now in
    let t = c.args.t.0 in
    let first = c.take_one.ensures c.requires.2 (uppermost has) in
    let is = c.take_two.ensures c.requires.0 c.requires.1 (two_of_three old c.take_one.new.stacks t c.requires.0 c.requires.1 c.requires.2 has first)
    ∙ ap (leaves t has.below) first ∙ left_twice old t has.above has.below in
    has_frame c.take_two.new.stacks t (with_stack has.below has.frame) has.older
    (with_one old c.take_two.new.stacks t has.frame has.older (with_stack has.below) has.newest is)

pub returns : goal.returns
returns c lower middle upper has =
    let old = c.args.stacks.now in
    let t = c.args.t.0 in
    let first = c.take_one.ensures upper (uppermost has) in
    let is = c.take_two.ensures lower middle (two_of_three old c.take_one.new.stacks t lower middle upper has first)
    ∙ ap (leaves t has.below) first ∙ left_twice old t has.above has.below in
    c.go_on.ensures (with_stack has.below has.frame) has.older
    (with_one old c.take_two.new.stacks t has.frame has.older (with_stack has.below) has.newest is)
    ∙ left_goes_on old c.take_two.new.stacks t c.args.next.0 has.below has.below is
