use Rattle.std.proofs.Common.{ap, ◌∙◌}
use Rattle.frame_operands.specs.Operands.{leaves}
use Rattle.frame_operands.proofs.Changes.{one_of_two, upper_one, left_twice}
use Rattle.frame_operands.proofs.leave.take_two.Goals as goal

pub take_one-requires : goal.take_one-requires
take_one-requires c = (c.requires.1, upper_one c.requires.2)

pub take_one-requires-2 : goal.take_one-requires-2
take_one-requires-2 c =
    let has = c.requires.2 in
    (c.requires.0, one_of_two c.args.stacks.now c.take_one.new.stacks c.args.t.0 c.requires.0 c.requires.1 has (c.take_one.ensures c.requires.1 (upper_one has)))

pub returns : goal.returns
returns c lower upper has =
    let old = c.args.stacks.now in
    let first = c.take_one.ensures upper (upper_one has) in
    c.take_one-2.ensures lower (one_of_two old c.take_one.new.stacks c.args.t.0 lower upper has first)
    ∙ ap (leaves c.args.t.0 has.below) first ∙ left_twice old c.args.t.0 has.between has.below
