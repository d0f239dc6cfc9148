use Rattle.std.proofs.Common.{◌+◌, ◌≤◌, length, refl, sym, ap, ◌∙◌, subst, arith}
use Rattle.jv_values.specs.Values.{places_of}
use Rattle.thread_frames.specs.Splices.{spliced}
use Rattle.thread_frames.specs.declared.frames.Row.{Row}
use Rattle.thread_frames.specs.Frames.{FrameState, words_of, with_pushed}
use Rattle.thread_frames.specs.Laid.{state_in}
use Rattle.thread_frames.proofs.StateLemmas.{stack_pushed}
use Rattle.thread_frames.proofs.TopLemmas.{length-words_of}
use Rattle.thread_frames.proofs.RowLemmas.{lies, some_newest, newest_holds, kept, WrittenIn, written, newest_renewed}
use Rattle.thread_frames.proofs.frames.ThreadFrames.push_value.Goals as goal

pub overflow_add-row : goal.overflow_add-row
overflow_add-row c =
    let it = c.self.inside in
    let row = c.newest_row-row.result in
    let e = c.newest_row-row.ensures in
    let its = lies it _ row c.self.invariant e in
    let v = c.args.v in
    let P : FrameState → Type 0 = λ frame. length frame.stack + places_of v ≤ frame.max_stack in
    let fits = newest_holds P it c.args.self.now row c.self.view_is e c.requires in
    omega (arith, its.few)

pub overflow_add-row-2 : goal.overflow_add-row-2
overflow_add-row-2 c =
    let it = c.self.inside in
    let row = c.newest_row-row.result in
    let e = c.newest_row-row.ensures in
    let its = lies it _ row c.self.invariant e in
    let v = c.args.v in
    let P : FrameState → Type 0 = λ frame. length frame.stack + places_of v ≤ frame.max_stack in
    let fits = newest_holds P it c.args.self.now row c.self.view_is e c.requires in
    omega (arith, its.few, its.deep)

pub put_value-count-requires : goal.put_value-count-requires
put_value-count-requires c =
    let it = c.self.inside in
    let row = c.newest_row-row.result in
    let e = c.newest_row-row.ensures in
    let its = lies it _ row c.self.invariant e in
    let v = c.args.v in
    let P : FrameState → Type 0 = λ frame. length frame.stack + places_of v ≤ frame.max_stack in
    let fits = newest_holds P it c.args.self.now row c.self.view_is e c.requires in
    omega (arith, its.within, its.stack, fits)

pub overflow_add-depth : goal.overflow_add-depth
overflow_add-depth c =
    let it = c.self.inside in
    let row = c.newest_row-row.result in
    let e = c.newest_row-row.ensures in
    let its = lies it _ row c.self.invariant e in
    let v = c.args.v in
    let P : FrameState → Type 0 = λ frame. length frame.stack + places_of v ≤ frame.max_stack in
    let fits = newest_holds P it c.args.self.now row c.self.view_is e c.requires in
    omega (arith, its.few, its.stack, fits, c.put_value-count.ensures.count)

pub invariant_of-self : goal.invariant_of-self
invariant_of-self c =
    let it = c.self.inside in
    let row = c.newest_row-row.result in
    let e = c.newest_row-row.ensures in
    let its = lies it _ row c.self.invariant e in
    let v = c.args.v in
    let P : FrameState → Type 0 = λ frame. length frame.stack + places_of v ≤ frame.max_stack in
    let fits = newest_holds P it c.args.self.now row c.self.view_is e c.requires in
    let words = c.put_value-count.ensures.words in
    let count = c.put_value-count.ensures.count in
    let changed : Row = record row { depth = row.depth + c.put_value-count.result } in
    let at = row.base + row.locals + row.depth in
    let only = written row it.words at (words_of v) (omega arith) (omega (arith, fits, its.stack, length-words_of v)) its.within in
    kept it _ _ row changed c.self.invariant e (record { base = refl; size = refl; deep = omega (arith, count, its.stack, fits) }) c.set_newest_row.ensures.items c.set_newest_row.ensures.spare (ap length words ∙ only.long)

pub returns : goal.returns
returns c =
    let it = c.self.inside in
    let row = c.newest_row-row.result in
    let e = c.newest_row-row.ensures in
    let its = lies it _ row c.self.invariant e in
    let v = c.args.v in
    let P : FrameState → Type 0 = λ frame. length frame.stack + places_of v ≤ frame.max_stack in
    let fits = newest_holds P it c.args.self.now row c.self.view_is e c.requires in
    let words = c.put_value-count.ensures.words in
    let count = c.put_value-count.ensures.count in
    let changed : Row = record row { depth = row.depth + c.put_value-count.result } in
    let at = row.base + row.locals + row.depth in
    let only = written row it.words at (words_of v) (omega arith) (omega (arith, fits, its.stack, length-words_of v)) its.within in
    newest_renewed it (record { rows = c.set_newest_row.new.rows; words = c.put_value-count.new.self }) c.args.self.now row changed (with_pushed v) c.self.invariant c.self.view_is (some_newest P c.args.self.now c.requires) e
    c.set_newest_row.ensures.items (subst (WrittenIn row it.words) (sym words) only)
    (ap (λ after. state_in after changed) words
    ∙ ap (λ n. state_in (spliced at (words_of v) it.words) (record row { depth = row.depth + n })) (count ∙ sym (length-words_of v))
    ∙ stack_pushed row it.words (words_of v) (omega (arith, fits, its.stack, length-words_of v)) its.within)
