use Rattle.std.proofs.Common.{◌<◌, length, drop, ap}
use Rattle.frame_stacks.specs.declared.thread.Thread.{Thread}
use Rattle.frame_stacks.specs.Threads.{with_starts}
use Rattle.frame_stacks.proofs.ThreadLemmas.{some_of, kept_in, renewed_in}
use Rattle.frame_stacks.proofs.stacks.Stacks.take_start.Goals as goal

pub invariant_of-self : goal.invariant_of-self
invariant_of-self c =
    let some = some_of (λ (thread : Thread). 0 < length thread.to_start) c.args.self.now c.args.t.0 c.requires in
    kept_in c.self.inside c.args.self.now c.args.t.0 _ c.self.invariant c.self.view_is some

pub returns : goal.returns
returns c =
    let some = some_of (λ (thread : Thread). 0 < length thread.to_start) c.args.self.now c.args.t.0 c.requires in
    let thread = c.index_mut.result.now in
    renewed_in c.self.inside c.args.self.now c.args.t.0 thread (record thread { to_start = c.take.new.self }) (λ (its : Thread). with_starts (drop 1 its.to_start) its) c.self.invariant c.self.view_is some c.index_mut.ensures.value
    (ap (λ starts. let its : Thread = record thread { to_start = starts } in its) c.take.ensures)
