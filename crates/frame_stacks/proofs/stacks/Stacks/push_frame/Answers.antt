use Rattle.std.proofs.Common.{◌+◌, List, ◌∷◌, ap}
use Rattle.thread_frames.specs.Frames.{FrameState, fresh_frame}
use Rattle.frame_stacks.specs.declared.thread.Thread.{Thread}
use Rattle.frame_stacks.specs.Threads.{HasRoom, with_frames}
use Rattle.frame_stacks.proofs.ThreadLemmas.{some_of, kept_in, renewed_in}
use Rattle.frame_stacks.proofs.stacks.Stacks.push_frame.Goals as goal

pub invariant_of-self : goal.invariant_of-self
invariant_of-self c =
    let some = some_of (λ (thread : Thread). HasRoom (c.args.max_locals + c.args.max_stack) thread.frames) c.args.self.now c.args.t.0 c.requires.room in
    kept_in c.self.inside c.args.self.now c.args.t.0 _ c.self.invariant c.self.view_is some

pub returns : goal.returns
returns c =
    let some = some_of (λ (thread : Thread). HasRoom (c.args.max_locals + c.args.max_stack) thread.frames) c.args.self.now c.args.t.0 c.requires.room in
    let thread = c.index_mut.result.now in
    renewed_in c.self.inside c.args.self.now c.args.t.0 thread (record thread { frames = c.push_frame.new.self }) (with_frames (λ frames. fresh_frame c.args.code c.args.method c.args.held c.args.args.now c.args.max_locals c.args.max_stack ∷ frames)) c.self.invariant c.self.view_is some c.index_mut.ensures.value
    (ap (λ (frames : List FrameState). let its : Thread = record thread { frames = frames } in its) c.push_frame.ensures)
