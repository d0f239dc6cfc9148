use Rattle.std.proofs.Common.{[], drop}
use Rattle.frame_stacks.specs.Threads.{with_frames, with_starts}
use Rattle.vm_unwind.proofs.Outcomes.{is_thread, still_there, ended}
use Rattle.vm_unwind.proofs.outcome.end_by_throwable.Goals as goal

pub set_starts-requires-clause-thread : goal.set_starts-requires-clause-thread
set_starts-requires-clause-thread c =
    still_there c.args.t.0 (with_frames (drop 1)) c.args.stacks.now c.pop_frame.new.self c.pop_frame.ensures
    (is_thread c.args.stacks.now c.args.t.0 c.requires)

pub finish-requires : goal.finish-requires
finish-requires c =
    still_there c.args.t.0 (with_starts []) c.pop_frame.new.self c.set_starts.new.self c.set_starts.ensures
    (still_there c.args.t.0 (with_frames (drop 1)) c.args.stacks.now c.pop_frame.new.self c.pop_frame.ensures
    (is_thread c.args.stacks.now c.args.t.0 c.requires))

pub returns : goal.returns
returns c =
    ended c.args.stacks.now c.pop_frame.new.self c.set_starts.new.self c.finish.new.self c.args.t.0 c.args.class
    c.pop_frame.ensures c.set_starts.ensures c.finish.ensures
