use Rattle.std.proofs.Common.{◌≡◌, suc, ◌-◌, length, drop, sym, ap, ◌∙◌, subst, arith}
use Rattle.std.proofs.lemmas.List.{length-take}
use Rattle.thread_frames.specs.Laid.{frames_in, all_words, LaidFrom}
use Rattle.thread_frames.proofs.FrameLemmas.{length-frames_in, newest_first, laid_front, words_front, there_is}
use Rattle.thread_frames.proofs.frames.ThreadFrames.pop_frame.Goals as goal

pub invariant_of-self : goal.invariant_of-self
invariant_of-self c =
    let it = c.self.inside in
    let are = c.self.invariant in
    let n = c.len-count.result - 1 in
    let items = c.cut.ensures.items in
    record {
      laid = subst (LaidFrom 0) (sym items) (laid_front 0 n it.rows.items are.laid);
      words = are.words;
      room = omega (arith, ap all_words items, words_front n it.rows.items, are.room);
      few = omega (arith, ap length items, length-take n it.rows.items, are.few);
      rows = omega (arith, ap length items, length-take n it.rows.items, c.cut.ensures.spare, are.rows);
    }

pub returns : goal.returns
returns c =
    let it = c.self.inside in
    let n = c.len-count.result - 1 in
    let long : length it.rows.items ≡ suc n = omega (arith, c.requires, ap length c.self.view_is, length-frames_in it.words it.rows.items, c.len-count.ensures) in
    let found = there_is it.rows.items n (omega (arith, long)) in
    ap (frames_in it.words) c.cut.ensures.items
    ∙ sym (ap (drop 1) (newest_first it.words it.rows.items n found.0 long found.1))
    ∙ ap (drop 1) c.self.view_is
