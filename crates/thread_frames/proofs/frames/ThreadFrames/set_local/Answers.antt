use Rattle.std.proofs.Common.{◌+◌, ◌≤◌, length, refl, sym, ap, ◌∙◌, subst, arith}
use Rattle.jv_values.specs.Values.{places_of}
use Rattle.thread_frames.specs.Splices.{spliced}
use Rattle.thread_frames.specs.Frames.{FrameState, words_of, with_local_set}
use Rattle.thread_frames.specs.Laid.{state_in}
use Rattle.thread_frames.proofs.LastLemmas.{set_same}
use Rattle.thread_frames.proofs.StateLemmas.{locals_put}
use Rattle.thread_frames.proofs.TopLemmas.{length-words_of}
use Rattle.thread_frames.proofs.RowLemmas.{lies, some_newest, newest_holds, kept, WrittenIn, written, newest_renewed}
use Rattle.thread_frames.proofs.frames.ThreadFrames.set_local.Goals as goal

pub overflow_add-row : goal.overflow_add-row
overflow_add-row c =
    let it = c.self.inside in
    let row = c.newest_row-row.result in
    let e = c.newest_row-row.ensures in
    let its = lies it _ row c.self.invariant e in
    let v = c.args.v in
    let P : FrameState → Type 0 = λ frame. c.args.i + places_of v ≤ length frame.locals in
    let fits = newest_holds P it c.args.self.now row c.self.view_is e c.requires in
    omega (arith, its.few, its.locals, fits, c.from.ensures)

pub put_value-requires : goal.put_value-requires
put_value-requires c =
    let it = c.self.inside in
    let row = c.newest_row-row.result in
    let e = c.newest_row-row.ensures in
    let its = lies it _ row c.self.invariant e in
    let v = c.args.v in
    let P : FrameState → Type 0 = λ frame. c.args.i + places_of v ≤ length frame.locals in
    let fits = newest_holds P it c.args.self.now row c.self.view_is e c.requires in
    omega (arith, its.within, its.locals, fits, c.from.ensures)

pub invariant_of-self : goal.invariant_of-self
invariant_of-self c =
    let it = c.self.inside in
    let row = c.newest_row-row.result in
    let e = c.newest_row-row.ensures in
    let its = lies it _ row c.self.invariant e in
    let v = c.args.v in
    let P : FrameState → Type 0 = λ frame. c.args.i + places_of v ≤ length frame.locals in
    let fits = newest_holds P it c.args.self.now row c.self.view_is e c.requires in
    let only = written row it.words (row.base + c.from.result) (words_of v) (omega arith) (omega (arith, fits, its.locals, c.from.ensures, length-words_of v)) its.within in
    kept it _ _ row row c.self.invariant e (record { base = refl; size = refl; deep = its.deep }) (sym (set_same it.rows.items _ row e)) refl (ap length c.put_value.ensures.words ∙ only.long)

pub returns : goal.returns
returns c =
    let it = c.self.inside in
    let row = c.newest_row-row.result in
    let e = c.newest_row-row.ensures in
    let its = lies it _ row c.self.invariant e in
    let v = c.args.v in
    let P : FrameState → Type 0 = λ frame. c.args.i + places_of v ≤ length frame.locals in
    let fits = newest_holds P it c.args.self.now row c.self.view_is e c.requires in
    let words = c.put_value.ensures.words in
    let only = written row it.words (row.base + c.from.result) (words_of v) (omega arith) (omega (arith, fits, its.locals, c.from.ensures, length-words_of v)) its.within in
    newest_renewed it (record { rows = it.rows; words = c.put_value.new.self }) c.args.self.now row row (with_local_set c.args.i v) c.self.invariant c.self.view_is (some_newest P c.args.self.now c.requires) e
    (sym (set_same it.rows.items _ row e)) (subst (WrittenIn row it.words) (sym words) only)
    (ap (λ after. state_in after row) words
    ∙ ap (λ n. state_in (spliced (row.base + n) (words_of v) it.words) row) c.from.ensures
    ∙ locals_put row it.words (words_of v) c.args.i its.deep its.within (omega (arith, fits, its.locals, length-words_of v)))
