use Rattle.std.proofs.Common.{◌<◌, List, length, ap}
use Rattle.thread_frames.specs.Frames.{FrameState, change_newest, with_empty_stack}
use Rattle.frame_stacks.specs.declared.thread.Thread.{Thread}
use Rattle.frame_stacks.specs.Threads.{with_frames}
use Rattle.frame_stacks.proofs.ThreadLemmas.{some_of, kept_in, renewed_in}
use Rattle.frame_stacks.proofs.stacks.Stacks.clear_stack.Goals as goal

pub invariant_of-self : goal.invariant_of-self
invariant_of-self c =
    let some = some_of (λ (thread : Thread). 0 < length thread.frames) c.args.self.now c.args.t.0 c.requires in
    kept_in c.self.inside c.args.self.now c.args.t.0 _ c.self.invariant c.self.view_is some

pub returns : goal.returns
returns c =
    let some = some_of (λ (thread : Thread). 0 < length thread.frames) c.args.self.now c.args.t.0 c.requires in
    let thread = c.index_mut.result.now in
    renewed_in c.self.inside c.args.self.now c.args.t.0 thread (record thread { frames = c.clear_stack.new.self }) (with_frames (change_newest with_empty_stack)) c.self.invariant c.self.view_is some c.index_mut.ensures.value
    (ap (λ (frames : List FrameState). let its : Thread = record thread { frames = frames } in its) c.clear_stack.ensures)
