use Rattle.std.proofs.Common.{◌≤◌, length, subst, arith}
use Rattle.thread_frames.specs.Frames.{AreWithin}
use Rattle.thread_frames.specs.Laid.{all_words}
use Rattle.thread_frames.proofs.FrameLemmas.{length-frames_in, words_in-frames_in}
use Rattle.thread_frames.proofs.frames.ThreadFrames.depth.Goals as goal

pub returns-clause-within : goal.returns-clause-within
returns-clause-within c =
    let it = c.self.inside in
    let words : all_words it.rows.items ≤ length it.words = omega (arith, c.self.invariant.room, c.self.invariant.words) in
    subst AreWithin c.self.view_is (record {
      few = omega (arith, length-frames_in it.words it.rows.items, c.self.invariant.few);
      words = omega (arith, words_in-frames_in it.words it.rows.items c.self.invariant.laid words, c.self.invariant.room);
    })
