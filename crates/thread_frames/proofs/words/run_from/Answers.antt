use Rattle.std.proofs.Common.{◌≡◌, ◌+◌, ◌-◌, ◌≤◌, ◌++◌, length, take, drop, sym, subst, arith}
use Rattle.std.proofs.lemmas.List.{length-take, length-drop, length-append}
use Rattle.std.proofs.lemmas.Slice.{take-put_mid_below, drop-put_mid}
use Rattle.machine_model.specs.State.{Frame}
use Rattle.local_steps.specs.Steps.{frame_in}
use Rattle.local_runs.specs.Places.{step_of, pc_at}
use Rattle.local_runs.specs.Runs.{NeverWrong, IsRun}
use Rattle.thread_frames.specs.Runs.{frame_placed}
use Rattle.thread_frames.proofs.StepLemmas.{parted, joined}
use Rattle.thread_frames.proofs.words.run_from.Goals as goal

pub run_own-requires-clause-right : goal.run_own-requires-clause-right
run_own-requires-clause-right c =
    let a = c.args in
    let size = a.base + (a.locals + c.from.result) - a.base in
    let pc = pc_at a.body.now.instructions a.place.number in
    let part = parted pc a.base a.locals a.place.depth c.from.result size a.words.now (omega arith) (omega (arith, c.requires.at.inside, c.from.ensures)) in
    subst (λ (f : Frame). NeverWrong (step_of a.pool.now a.body.now) f) (sym part) c.requires.right

pub returns : goal.returns
returns c =
    let a = c.args in
    let size = a.base + (a.locals + c.from.result) - a.base in
    let words = a.words.now in
    let own = c.run_own.new.own in
    let ran = c.run_own.result in
    let rest = drop size (drop a.base words) in
    let fits : a.base ≤ length words = omega (arith, c.requires.sizes) in
    let count : length own ≡ size = omega (arith, c.run_own.auto.own, length-take size (drop a.base words), length-drop a.base words, c.requires.sizes, c.from.ensures) in
    let before = pc_at a.body.now.instructions a.place.number in
    let later = pc_at a.body.now.instructions ran.place.number in
    let start = parted before a.base a.locals a.place.depth c.from.result size words (omega arith) (omega (arith, c.requires.at.inside, c.from.ensures)) in
    let end = joined later a.base a.locals ran.place.depth (take a.base words) own rest (omega (arith, length-take a.base words, fits)) (omega (arith, count, c.run_own.ensures.at.inside, c.from.ensures)) in
    let step = step_of a.pool.now a.body.now in
    record {
      at = c.run_own.ensures.at;
      below = take-put_mid_below a.base size words own a.base (omega arith) fits;
      above = drop-put_mid a.base size words own (a.base + (a.locals + a.body.now.max_stack)) (omega (arith, c.from.ensures)) fits count;
      long = omega (arith, count, c.requires.sizes, c.from.ensures, length-append (take a.base words) (own ++ rest), length-append own rest, length-take a.base words, length-drop size (drop a.base words), length-drop a.base words);
      run = subst (λ (f : Frame). IsRun step f (frame_placed a.body.now a.base a.locals ran.place (take a.base words ++ (own ++ rest))) a.max ran) start
          (subst (λ (f : Frame). IsRun step (frame_in before (take a.locals (take size (drop a.base words))) (drop a.locals (take size (drop a.base words))) a.place.depth) f a.max ran) end c.run_own.ensures.ran);
    }
