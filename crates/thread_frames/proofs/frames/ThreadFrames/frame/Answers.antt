use Rattle.std.proofs.Common.{◌+◌, List, take, drop, sym, ap, ◌∙◌, arith}
use Rattle.std.specs.Prelude.{Option, Some, option_map}
use Rattle.jv_values.specs.declared.value.Value.{Value}
use Rattle.thread_frames.specs.Frames.{Shown, shown, frame_at}
use Rattle.thread_frames.specs.Laid.{state_with}
use Rattle.thread_frames.proofs.FrameLemmas.{frame_there}
use Rattle.thread_frames.proofs.RowLemmas.{lies}
use Rattle.thread_frames.proofs.frames.ThreadFrames.frame.Goals as goal

pub slice-requires : goal.slice-requires
slice-requires c =
    let it = c.self.inside in
    let row = c.get-row.result.now in
    let e = c.get-row.ensures in
    let its = lies it c.args.d row c.self.invariant e in
    omega (arith, its.within)

pub overflow_add-row : goal.overflow_add-row
overflow_add-row c =
    let it = c.self.inside in
    let row = c.get-row.result.now in
    let e = c.get-row.ensures in
    let its = lies it c.args.d row c.self.invariant e in
    omega (arith, its.few)

pub slice-requires-2 : goal.slice-requires-2
slice-requires-2 c =
    let it = c.self.inside in
    let row = c.get-row.result.now in
    let e = c.get-row.ensures in
    let its = lies it c.args.d row c.self.invariant e in
    omega (arith, its.within, its.deep)

pub returns : goal.returns
returns c =
    let it = c.self.inside in
    let row = c.get-row.result.now in
    let e = c.get-row.ensures in
    let its = lies it c.args.d row c.self.invariant e in
    let show : List Value → List Value → Option Shown = λ locals stack. Some (shown (state_with row locals stack)) in
    ap (λ frames. option_map shown (frame_at frames c.args.d)) (sym c.self.view_is)
    ∙ ap (option_map shown) (frame_there it.words it.rows.items c.args.d row e)
    ∙ ap (λ locals. show locals (take row.depth (drop (row.base + row.locals) it.words))) (sym c.slice.ensures)
    ∙ ap (λ stack. show c.slice.result.now stack) (sym c.slice-2.ensures)
