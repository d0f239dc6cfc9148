use Rattle.std.proofs.Common.{◌≡◌, ◌+◌, ◌≤◌, length, refl, sym, ap, ◌∙◌, subst, arith}
use Rattle.thread_frames.specs.Splices.{spliced}
use Rattle.thread_frames.specs.declared.frames.Row.{Row}
use Rattle.thread_frames.specs.Frames.{FrameState, with_pc, with_top}
use Rattle.thread_frames.specs.Laid.{state_in}
use Rattle.thread_frames.proofs.StateLemmas.{top_put}
use Rattle.thread_frames.proofs.RowLemmas.{lies, some_newest, newest_holds, kept, WrittenIn, written, written_again, newest_renewed}
use Rattle.thread_frames.proofs.frames.ThreadFrames.set_top.Goals as goal

pub put-requires : goal.put-requires
put-requires c =
    let it = c.self.inside in
    let row = c.newest_row-row.result in
    let e = c.newest_row-row.ensures in
    let its = lies it _ row c.self.invariant e in
    let locals = c.args.locals.now in
    let stack = c.args.stack.now in
    let P : FrameState → Type 0 = λ frame. (length locals ≡ length frame.locals) × (length stack ≤ frame.max_stack) in
    let fits = newest_holds P it c.args.self.now row c.self.view_is e c.requires in
    omega (arith, its.within, its.locals, fits.0)

pub overflow_add-row : goal.overflow_add-row
overflow_add-row c =
    let it = c.self.inside in
    let row = c.newest_row-row.result in
    let e = c.newest_row-row.ensures in
    let its = lies it _ row c.self.invariant e in
    let locals = c.args.locals.now in
    let stack = c.args.stack.now in
    let P : FrameState → Type 0 = λ frame. (length locals ≡ length frame.locals) × (length stack ≤ frame.max_stack) in
    let fits = newest_holds P it c.args.self.now row c.self.view_is e c.requires in
    omega (arith, its.few, its.locals, fits.0)

pub put-requires-2 : goal.put-requires-2
put-requires-2 c =
    let it = c.self.inside in
    let row = c.newest_row-row.result in
    let e = c.newest_row-row.ensures in
    let its = lies it _ row c.self.invariant e in
    let locals = c.args.locals.now in
    let stack = c.args.stack.now in
    let P : FrameState → Type 0 = λ frame. (length locals ≡ length frame.locals) × (length stack ≤ frame.max_stack) in
    let fits = newest_holds P it c.args.self.now row c.self.view_is e c.requires in
    let first = written row it.words row.base locals (omega arith) (omega (arith, its.locals, fits.0)) its.within in
    omega (arith, its.within, its.locals, fits.0, fits.1, ap length c.put.ensures, first.long)

pub invariant_of-self : goal.invariant_of-self
invariant_of-self c =
    let it = c.self.inside in
    let row = c.newest_row-row.result in
    let e = c.newest_row-row.ensures in
    let its = lies it _ row c.self.invariant e in
    let locals = c.args.locals.now in
    let stack = c.args.stack.now in
    let P : FrameState → Type 0 = λ frame. (length locals ≡ length frame.locals) × (length stack ≤ frame.max_stack) in
    let fits = newest_holds P it c.args.self.now row c.self.view_is e c.requires in
    let changed : Row = record row { pc = c.args.pc; depth = length stack } in
    let count : length locals ≡ row.locals = fits.0 ∙ its.locals in
    let once = spliced row.base locals it.words in
    let first = written row it.words row.base locals (omega arith) (omega (arith, count)) its.within in
    let second = written row once (row.base + length locals) stack (omega arith) (omega (arith, count, fits.1)) (omega (arith, its.within, first.long)) in
    let words = c.put-2.ensures ∙ ap (λ ws. spliced (row.base + length locals) stack ws) c.put.ensures in
    let only = written_again row it.words once (spliced (row.base + length locals) stack once) first second in
    kept it _ _ row changed c.self.invariant e (record { base = refl; size = refl; deep = fits.1 }) c.set_newest_row.ensures.items c.set_newest_row.ensures.spare (ap length words ∙ only.long)

pub returns : goal.returns
returns c =
    let it = c.self.inside in
    let row = c.newest_row-row.result in
    let e = c.newest_row-row.ensures in
    let its = lies it _ row c.self.invariant e in
    let locals = c.args.locals.now in
    let stack = c.args.stack.now in
    let P : FrameState → Type 0 = λ frame. (length locals ≡ length frame.locals) × (length stack ≤ frame.max_stack) in
    let fits = newest_holds P it c.args.self.now row c.self.view_is e c.requires in
    let changed : Row = record row { pc = c.args.pc; depth = length stack } in
    let count : length locals ≡ row.locals = fits.0 ∙ its.locals in
    let once = spliced row.base locals it.words in
    let first = written row it.words row.base locals (omega arith) (omega (arith, count)) its.within in
    let second = written row once (row.base + length locals) stack (omega arith) (omega (arith, count, fits.1)) (omega (arith, its.within, first.long)) in
    let words = c.put-2.ensures ∙ ap (λ ws. spliced (row.base + length locals) stack ws) c.put.ensures in
    let only = written_again row it.words once (spliced (row.base + length locals) stack once) first second in
    newest_renewed it (record { rows = c.set_newest_row.new.rows; words = c.put-2.new.self }) c.args.self.now row changed (with_top c.args.pc.0 locals stack) c.self.invariant c.self.view_is (some_newest P c.args.self.now c.requires) e
    c.set_newest_row.ensures.items (subst (WrittenIn row it.words) (sym words) only)
    (ap (λ after. state_in after changed) words
    ∙ ap (with_pc c.args.pc.0) (top_put row it.words locals stack count fits.1 its.within))
