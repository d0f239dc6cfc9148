use Rattle.vm_unwind.proofs.Flags.{found_flags}
use Rattle.vm_unwind.proofs.held.method_flags.Goals as goal

pub returns : goal.returns
returns c =
    found_flags c.args.world.now c.args.method c.flags_at.result c.class.ensures.0 c.class.result.now.origin c.class.ensures.1
    c.class.ensures.2.origin c.flags_at.ensures
