use Rattle.std.proofs.Common.{refl}
use Rattle.frame_stacks.specs.Threads.{with_mark}
use Rattle.frame_stacks.proofs.ThreadLemmas.{renewed_in}
use Rattle.frame_stacks.proofs.stacks.Stacks.set_mark.Goals as goal

pub returns : goal.returns
returns c =
    let thread = c.index_mut.result.now in
    renewed_in c.self.inside c.args.self.now c.args.t.0 thread (record thread { mark = c.args.on }) (with_mark c.args.on) c.self.invariant c.self.view_is c.requires c.index_mut.ensures.value refl
