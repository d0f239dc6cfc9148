use Rattle.std.proofs.Common.{List, false, length, ap, sym, ◌∙◌, arith}
use Rattle.run_laws.proofs.Keeping.{length-replace_at}
use Rattle.thread_frames.specs.Frames.{change_newest, with_pc}
use Rattle.frame_stacks.specs.declared.thread.Thread.{Thread}
use Rattle.frame_stacks.specs.Threads.{Threads, change_thread, with_frames, with_mark}
use Rattle.frame_stacks.proofs.ThreadLemmas.{some_of}
use Rattle.machine_threads.proofs.Going.{replaced_twice}
use Rattle.field_steps.proofs.threads.go_on.Goals as goal

pub set_mark-requires : goal.set_mark-requires
set_mark-requires c =
    let old = c.args.stacks.now in
    let t = c.args.t.0 in
    omega (
      arith,
      some_of _ old t c.requires,
      ap (λ (s : Threads). length s.threads) c.set_pc.ensures,
      length-replace_at (with_frames (change_newest (with_pc c.args.next.0))) old.threads t,
    )

pub returns : goal.returns
returns c =
    let old = c.args.stacks.now in
    let t = c.args.t.0 in
    c.set_mark.ensures ∙ ap (change_thread t (with_mark false)) c.set_pc.ensures
    ∙ ap (λ (threads : List Thread). let s : Threads = record { threads = threads; room = old.room } in s)
    (sym (replaced_twice (with_frames (change_newest (with_pc c.args.next.0))) (with_mark false) old.threads t))
