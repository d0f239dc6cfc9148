use Rattle.std.proofs.Common.{refl}
use Rattle.thread_frames.specs.Frames.{with_pc}
use Rattle.thread_frames.proofs.RowLemmas.{lies, kept, unwritten, newest_renewed}
use Rattle.thread_frames.proofs.frames.ThreadFrames.set_pc.Goals as goal

pub invariant_of-self : goal.invariant_of-self
invariant_of-self c =
    let it = c.self.inside in
    let row = c.newest_row-row.result in
    let e = c.newest_row-row.ensures in
    let its = lies it _ row c.self.invariant e in
    kept it _ _ row (record row { pc = c.args.pc }) c.self.invariant e (record { base = refl; size = refl; deep = its.deep }) c.set_newest_row.ensures.items c.set_newest_row.ensures.spare refl

pub returns : goal.returns
returns c =
    let it = c.self.inside in
    let row = c.newest_row-row.result in
    let e = c.newest_row-row.ensures in
    let its = lies it _ row c.self.invariant e in
    newest_renewed it (record { rows = c.set_newest_row.new.rows; words = it.words }) c.args.self.now row (record row { pc = c.args.pc }) (with_pc c.args.pc.0) c.self.invariant c.self.view_is c.requires e c.set_newest_row.ensures.items (unwritten row it.words) refl
