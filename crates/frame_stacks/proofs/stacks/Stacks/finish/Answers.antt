use Rattle.std.proofs.Common.{true, refl}
use Rattle.frame_stacks.specs.Threads.{finished}
use Rattle.frame_stacks.proofs.ThreadLemmas.{renewed_in}
use Rattle.frame_stacks.proofs.stacks.Stacks.finish.Goals as goal

pub returns : goal.returns
returns c =
    let thread = c.index_mut-thread.result.now in
    renewed_in c.self.inside c.args.self.now c.args.t.0 thread (record thread { ended = true; thrown = c.args.thrown }) (finished c.args.thrown) c.self.invariant c.self.view_is c.requires c.index_mut-thread.ensures.value refl
