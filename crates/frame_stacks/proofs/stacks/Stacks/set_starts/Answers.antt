use Rattle.std.proofs.Common.{ap}
use Rattle.frame_stacks.specs.declared.thread.Thread.{Thread}
use Rattle.frame_stacks.specs.Threads.{with_starts}
use Rattle.frame_stacks.proofs.ThreadLemmas.{kept_in, renewed_in}
use Rattle.frame_stacks.proofs.stacks.Stacks.set_starts.Goals as goal

pub invariant_of-self : goal.invariant_of-self
invariant_of-self c =
    kept_in c.self.inside c.args.self.now c.args.t.0 _ c.self.invariant c.self.view_is c.requires.thread

pub returns : goal.returns
returns c =
    let thread = c.index_mut.result.now in
    renewed_in c.self.inside c.args.self.now c.args.t.0 thread (record thread { to_start = c.set.new.self }) (with_starts c.args.starts.now) c.self.invariant c.self.view_is c.requires.thread c.index_mut.ensures.value
    (ap (λ starts. let its : Thread = record thread { to_start = starts } in its) c.set.ensures)
