use Rattle.std.proofs.Common.{◌≡◌, refl}
use Rattle.std.specs.Prelude.{IsSomeAnd}
use Rattle.local_runs.specs.Places.{step_of}
use Rattle.thread_frames.specs.Frames.{newest}
use Rattle.thread_frames.specs.Machine.{RunsNewest}
use Rattle.frame_stacks.specs.declared.thread.Thread.{Thread}
use Rattle.frame_stacks.specs.Threads.{with_frames}
use Rattle.frame_stacks.proofs.ThreadLemmas.{some_of, tells, found, kept_in, renewed_in}
use Rattle.frame_stacks.proofs.stacks.Stacks.run_local.Goals as goal

pub invariant_of-self : goal.invariant_of-self
invariant_of-self c =
    let some = some_of (λ (thread : Thread). IsSomeAnd (newest thread.frames) (λ frame. frame.max_stack ≡ c.args.body.now.max_stack)) c.args.self.now c.args.t.0 c.requires.room in
    kept_in c.self.inside c.args.self.now c.args.t.0 _ c.self.invariant c.self.view_is some

pub returns : goal.returns
returns c =
    let some = some_of (λ (thread : Thread). IsSomeAnd (newest thread.frames) (λ frame. frame.max_stack ≡ c.args.body.now.max_stack)) c.args.self.now c.args.t.0 c.requires.room in
    let thread = c.index_mut.result.now in
    let frames = c.run_local.new.self in
    let step = step_of c.args.pool.now c.args.body.now in (
      frames,
      renewed_in c.self.inside c.args.self.now c.args.t.0 thread (record thread { frames = frames }) (with_frames (λ before. frames)) c.self.invariant c.self.view_is some c.index_mut.ensures.value refl,
      tells (λ (thread : Thread). RunsNewest step c.args.max c.run_local.result thread.frames frames) c.self.inside c.args.self.now c.args.t.0 thread c.self.view_is some
          (found c.self.inside c.args.self.now c.args.t.0 thread c.self.invariant c.self.view_is some c.index_mut.ensures.value) c.run_local.ensures,
    )
