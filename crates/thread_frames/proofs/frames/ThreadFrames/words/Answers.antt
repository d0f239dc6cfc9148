use Rattle.std.proofs.Common.{◌≤◌, length, sym, ap, ◌∙◌, arith}
use Rattle.thread_frames.specs.Frames.{words_in}
use Rattle.thread_frames.specs.Laid.{all_words}
use Rattle.thread_frames.proofs.FrameLemmas.{words_in-frames_in}
use Rattle.thread_frames.proofs.frames.ThreadFrames.words.Goals as goal

pub returns : goal.returns
returns c =
    let it = c.self.inside in
    let words : all_words it.rows.items ≤ length it.words = omega (arith, c.self.invariant.room, c.self.invariant.words) in
    c.end_of.ensures ∙ sym (words_in-frames_in it.words it.rows.items c.self.invariant.laid words) ∙ ap words_in c.self.view_is
