use Rattle.std.proofs.Common.{◌++◌, take, drop, arith, sym, subst}
use Rattle.std.proofs.lemmas.List.{length-take}
use Rattle.machine_model.specs.State.{Frame}
use Rattle.local_steps.specs.Steps.{frame_in}
use Rattle.local_runs.specs.Places.{step_of, pc_at}
use Rattle.local_runs.specs.Runs.{NeverWrong, IsRun}
use Rattle.local_runs.proofs.WordsLemmas.{frame_parted, frame_joined}
use Rattle.local_runs.proofs.frame.run_words.Goals as goal

pub run-requires-clause-right : goal.run-requires-clause-right
run-requires-clause-right c =
    let a = c.args in
    let parted = frame_parted (pc_at a.body.now.instructions a.place.number) a.locals a.place.depth c.from-room.result a.words.now c.split_at_mut-locals.result.0.now c.split_at_mut-locals.result.1.now c.split_at_mut-locals.ensures.front c.split_at_mut-locals.ensures.back (omega (arith, c.requires.at.inside, c.from-room.ensures)) in
    subst (λ (f : Frame). NeverWrong (step_of a.pool.now a.body.now) f) parted c.requires.right

pub returns-clause-ran : goal.returns-clause-ran
returns-clause-ran c =
    let a = c.args in
    let parted = frame_parted (pc_at a.body.now.instructions a.place.number) a.locals a.place.depth c.from-room.result a.words.now c.split_at_mut-locals.result.0.now c.split_at_mut-locals.result.1.now c.split_at_mut-locals.ensures.front c.split_at_mut-locals.ensures.back (omega (arith, c.requires.at.inside, c.from-room.ensures)) in
    let after = c.run.new.locals ++ (c.run.new.stack ++ drop c.from-room.result c.split_at_mut-locals.result.1.now) in
    let joined = frame_joined (pc_at a.body.now.instructions c.run.result.place.number) a.locals c.run.result.place.depth c.run.new.locals c.run.new.stack (drop c.from-room.result c.split_at_mut-locals.result.1.now) (omega arith) (omega (arith, c.run.ensures.at.inside, c.run.auto.stack, length-take c.from-room.result c.split_at_mut-locals.result.1.now)) in
    subst (λ (f : Frame). IsRun (step_of a.pool.now a.body.now) f (frame_in (pc_at a.body.now.instructions c.run.result.place.number) (take a.locals after) (drop a.locals after) c.run.result.place.depth) a.max c.run.result) (sym parted)
    (subst (λ (f : Frame). IsRun (step_of a.pool.now a.body.now) (frame_in (pc_at a.body.now.instructions a.place.number) c.split_at_mut-locals.result.0.now (take c.from-room.result c.split_at_mut-locals.result.1.now) a.place.depth) f a.max c.run.result) joined c.run.ensures.ran)
