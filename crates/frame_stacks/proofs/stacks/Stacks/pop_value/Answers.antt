use Rattle.std.proofs.Common.{◌≡◌, List, ap}
use Rattle.std.specs.Prelude.{Some, IsSome, IsSomeAnd}
use Rattle.jv_values.specs.Values.{value_of, places_of}
use Rattle.thread_frames.specs.Frames.{FrameState, newest, change_newest, with_popped}
use Rattle.thread_frames.specs.Machine.{operands_of, value_on_top}
use Rattle.frame_stacks.specs.declared.thread.Thread.{Thread}
use Rattle.frame_stacks.specs.Threads.{with_frames}
use Rattle.frame_stacks.proofs.ThreadLemmas.{some_of, tells, found, kept_in, renewed_in}
use Rattle.frame_stacks.proofs.stacks.Stacks.pop_value.Goals as goal

pub invariant_of-self : goal.invariant_of-self
invariant_of-self c =
    let some = some_of (λ (thread : Thread). IsSomeAnd (newest thread.frames) (λ frame. IsSome (value_on_top (operands_of frame)))) c.args.self.now c.args.t.0 c.requires in
    kept_in c.self.inside c.args.self.now c.args.t.0 _ c.self.invariant c.self.view_is some

pub returns-clause-rest : goal.returns-clause-rest
returns-clause-rest c =
    let some = some_of (λ (thread : Thread). IsSomeAnd (newest thread.frames) (λ frame. IsSome (value_on_top (operands_of frame)))) c.args.self.now c.args.t.0 c.requires in
    let thread = c.index_mut.result.now in
    renewed_in c.self.inside c.args.self.now c.args.t.0 thread (record thread { frames = c.pop_value.new.self }) (with_frames (change_newest (with_popped (places_of c.pop_value.result)))) c.self.invariant c.self.view_is some c.index_mut.ensures.value
    (ap (λ (frames : List FrameState). let its : Thread = record thread { frames = frames } in its) c.pop_value.ensures.rest)

pub returns-clause-value : goal.returns-clause-value
returns-clause-value c =
    let some = some_of (λ (thread : Thread). IsSomeAnd (newest thread.frames) (λ frame. IsSome (value_on_top (operands_of frame)))) c.args.self.now c.args.t.0 c.requires in
    let thread = c.index_mut.result.now in
    tells (λ (thread : Thread). IsSomeAnd (newest thread.frames) (λ frame. value_on_top (operands_of frame) ≡ Some (value_of c.pop_value.result))) c.self.inside c.args.self.now c.args.t.0 thread c.self.view_is some
    (found c.self.inside c.args.self.now c.args.t.0 thread c.self.invariant c.self.view_is some c.index_mut.ensures.value) c.pop_value.ensures.value
