use Rattle.std.proofs.Common.{◌≡◌, List, take, drop, length, arith, sym, ap, ◌∙◌, subst}
use Rattle.std.proofs.lemmas.List.{length-take, length-drop, with_items_is}
use Rattle.std.specs.Vec.{with_items}
use Rattle.machine_model.specs.State.{Frame}
use Rattle.jv_values.specs.declared.value.Value.{Value}
use Rattle.local_steps.specs.Steps.{frame_in, IsRight}
use Rattle.local_runs.specs.Lent.{frame_of, FrameWords}
use Rattle.local_runs.specs.Places.{step_of, pc_at}
use Rattle.local_runs.specs.Runs.{NeverWrong, IsRun}
use Rattle.local_runs.proofs.OrderLemmas.{pc_there}
use Rattle.local_runs.proofs.PlaceLemmas.{stands, is_some}
use Rattle.local_runs.proofs.WordsLemmas.{room_frame}
use Rattle.local_runs.proofs.frame.FrameRoom.run.Goals as goal

pub number_at-requires : goal.number_at-requires
number_at-requires c =
    let a = c.args in
    let s = c.self.inside in
    let is = sym (room_frame s.method s.pc.0 s.locals s.depth s.words.items) ∙ ap frame_of c.self.view_is in
    let right = subst (λ (f : Frame). IsRight (step_of a.pool.now a.body.now f)) (sym is) (c.requires.right 0) in
    let at = stands a.pool.now a.body.now s.pc.0 (take s.locals s.words.items) (drop s.locals s.words.items) s.depth right in
    is_some _ at.0 at.1

pub run_words-ran-requires-clause-at : goal.run_words-ran-requires-clause-at
run_words-ran-requires-clause-at c =
    let s = c.self.inside in
    let same = ap (λ (v : FrameWords). length v.stack) c.self.view_is in
    record {
      order = c.requires.order;
      few = omega (arith, c.len-count.type_inv, c.len-count.ensures);
      there = c.number_at.ensures.within;
      inside = omega (arith, c.requires.stack, same, c.self.invariant.0, c.self.invariant.1, length-take s.depth (drop s.locals s.words.items), length-drop s.locals s.words.items);
    }

pub run_words-ran-requires-clause-right : goal.run_words-ran-requires-clause-right
run_words-ran-requires-clause-right c =
    let a = c.args in
    let s = c.self.inside in
    let is = sym (room_frame s.method s.pc.0 s.locals s.depth s.words.items) ∙ ap frame_of c.self.view_is in
    let path =
    sym is
    ∙ ap (λ pc. frame_in pc (take s.locals s.words.items) (drop s.locals s.words.items) s.depth) (sym c.number_at.ensures.there)
    ∙ ap (λ ws. frame_in (pc_at a.body.now.instructions c.number_at.result) (take s.locals ws) (drop s.locals ws) s.depth) (sym c.as_mut_slice.ensures.value) in
    subst (λ (f : Frame). NeverWrong (step_of a.pool.now a.body.now) f) path c.requires.right

pub returns-clause-ran : goal.returns-clause-ran
returns-clause-ran c =
    let a = c.args in
    let s = c.self.inside in
    let is = sym (room_frame s.method s.pc.0 s.locals s.depth s.words.items) ∙ ap frame_of c.self.view_is in
    let path =
    sym is
    ∙ ap (λ pc. frame_in pc (take s.locals s.words.items) (drop s.locals s.words.items) s.depth) (sym c.number_at.ensures.there)
    ∙ ap (λ ws. frame_in (pc_at a.body.now.instructions c.number_at.result) (take s.locals ws) (drop s.locals ws) s.depth) (sym c.as_mut_slice.ensures.value) in
    let ran = c.run_words-ran.result in
    let after = c.run_words-ran.new.words in
    let stored = (with_items s.words after).items in
    let same : stored ≡ after = with_items_is s.words after (omega (arith, c.run_words-ran.auto.words, ap (λ (ws : List Value). length ws) c.as_mut_slice.ensures.value, s.words.ok.0, c.as_mut_slice.ensures.len)) in
    let pc = c.get.result.now.pc in
    let onward =
    ap (λ p. frame_in p (take s.locals after) (drop s.locals after) ran.place.depth) (pc_there a.body.now.instructions ran.place.number _ c.get.ensures)
    ∙ ap (λ ws. frame_in pc (take s.locals ws) (drop s.locals ws) ran.place.depth) (sym same)
    ∙ sym (room_frame s.method pc s.locals ran.place.depth stored) in
    let end = frame_of (record { method = s.method; pc = pc; locals = take s.locals stored; stack = take ran.place.depth (drop s.locals stored) }) in
    subst (λ (f : Frame). IsRun (step_of a.pool.now a.body.now) f end a.max ran) (sym path)
    (subst (λ (f : Frame). IsRun (step_of a.pool.now a.body.now) (frame_in (pc_at a.body.now.instructions c.number_at.result) (take s.locals c.as_mut_slice.result.now) (drop s.locals c.as_mut_slice.result.now) s.depth) f a.max ran) onward c.run_words-ran.ensures.ran)
