use Rattle.std.proofs.Common.{refl}
use Rattle.thread_frames.specs.Frames.{with_code}
use Rattle.thread_frames.proofs.RowLemmas.{lies, kept, unwritten, depth_renewed}
use Rattle.thread_frames.proofs.frames.ThreadFrames.set_code.Goals as goal

pub invariant_of-self : goal.invariant_of-self
invariant_of-self c =
    let it = c.self.inside in
    let row = c.get-row.result.now in
    let e = c.get-row.ensures in
    let its = lies it c.args.d row c.self.invariant e in
    kept it _ c.args.d row (record row { code = c.args.code; method = c.args.method; pc = c.args.pc }) c.self.invariant e (record { base = refl; size = refl; deep = its.deep }) c.set.ensures.items c.set.ensures.spare refl

pub returns : goal.returns
returns c =
    let it = c.self.inside in
    let row = c.get-row.result.now in
    let e = c.get-row.ensures in
    let its = lies it c.args.d row c.self.invariant e in
    depth_renewed it (record { rows = c.set.new.self; words = it.words }) c.args.self.now c.args.d row (record row { code = c.args.code; method = c.args.method; pc = c.args.pc }) (with_code c.args.code c.args.method c.args.pc.0) c.self.invariant c.self.view_is e c.set.ensures.items (unwritten row it.words) refl
