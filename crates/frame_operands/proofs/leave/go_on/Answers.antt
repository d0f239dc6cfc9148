use Rattle.std.proofs.Common.{false, length, ap, ◌∙◌, arith}
use Rattle.run_laws.proofs.Keeping.{length-replace_at}
use Rattle.thread_frames.specs.Frames.{change_newest, with_pc}
use Rattle.frame_stacks.specs.Threads.{Threads, change_thread, with_frames, with_mark}
use Rattle.frame_stacks.proofs.ThreadLemmas.{some_of}
use Rattle.frame_operands.proofs.Changes.{goes_on}
use Rattle.frame_operands.proofs.leave.go_on.Goals as goal

pub set_mark-requires : goal.set_mark-requires
set_mark-requires c =
    let old = c.args.stacks.now in
    let t = c.args.t.0 in
    omega (
      arith,
      some_of _ old t c.requires,
      ap (λ (s : Threads). length s.threads) c.set_pc.ensures,
      length-replace_at (with_frames (change_newest (with_pc c.args.next.0))) old.threads t,
    )

pub returns : goal.returns
returns c frame older newest =
    let t = c.args.t.0 in
    c.set_mark.ensures ∙ ap (change_thread t (with_mark false)) c.set_pc.ensures
    ∙ goes_on c.args.stacks.now t c.args.next.0 frame older newest
