use Rattle.stackmap_verify.proofs.Numbers.{numbers_more_at}
use Rattle.stackmap_verify.proofs.frame_numbers.FrameNumbers.of.Goals as goal

pub loop-number-preserved : goal.loop-number-preserved
loop-number-preserved c =
    numbers_more_at c.args.frames.now c.loop-number.number c.pc.result c.loop-number.numbers.items c.add_number.new.numbers.items
    c.pc.ensures c.in_ok-add_number.ensures c.loop-number.invariant
