use Rattle.std.proofs.Common.{◌≡◌, ◌+◌, ◌-◌, List, take, drop, refl, sym, ap, ◌∙◌, subst, arith}
use Rattle.std.specs.Prelude.{Some, IsSome, reverse}
use Rattle.jv_values.specs.declared.value.Value.{Value}
use Rattle.jv_values.specs.Values.{value_of, values_of, places_of}
use Rattle.thread_frames.specs.Frames.{FrameState, with_popped}
use Rattle.thread_frames.specs.Machine.{operands_of, value_on_top}
use Rattle.thread_frames.specs.Laid.{state_with}
use Rattle.thread_frames.proofs.StateLemmas.{stack_popped}
use Rattle.thread_frames.proofs.RowLemmas.{lies, some_newest, newest_holds, holds_newest, kept, unwritten, newest_renewed}
use Rattle.thread_frames.proofs.frames.ThreadFrames.pop_value.Goals as goal

pub overflow_add-row : goal.overflow_add-row
overflow_add-row c =
    let it = c.self.inside in
    let row = c.newest_row-row.result in
    let e = c.newest_row-row.ensures in
    let its = lies it _ row c.self.invariant e in
    omega (arith, its.few)

pub slice-requires : goal.slice-requires
slice-requires c =
    let it = c.self.inside in
    let row = c.newest_row-row.result in
    let e = c.newest_row-row.ensures in
    let its = lies it _ row c.self.invariant e in
    omega (arith, its.within, its.deep)

pub value_on_top-value-requires : goal.value_on_top-value-requires
value_on_top-value-requires c =
    let it = c.self.inside in
    let row = c.newest_row-row.result in
    let e = c.newest_row-row.ensures in
    let its = lies it _ row c.self.invariant e in
    let P : FrameState → Type 0 = λ frame. IsSome (value_on_top (operands_of frame)) in
    let some = newest_holds P it c.args.self.now row c.self.view_is e c.requires in
    subst (λ (operands : List Value). IsSome (value_on_top (values_of (reverse operands)))) (sym c.slice.ensures) some

pub invariant_of-self : goal.invariant_of-self
invariant_of-self c =
    let it = c.self.inside in
    let row = c.newest_row-row.result in
    let e = c.newest_row-row.ensures in
    let its = lies it _ row c.self.invariant e in
    kept it _ _ row (record row { depth = row.depth - c.places.result }) c.self.invariant e (record { base = refl; size = refl; deep = omega (arith, its.deep) }) c.set_newest_row.ensures.items c.set_newest_row.ensures.spare refl

pub returns-clause-value : goal.returns-clause-value
returns-clause-value c =
    let it = c.self.inside in
    let row = c.newest_row-row.result in
    let e = c.newest_row-row.ensures in
    let its = lies it _ row c.self.invariant e in
    let P : FrameState → Type 0 = λ frame. IsSome (value_on_top (operands_of frame)) in
    let Q : FrameState → Type 0 = λ frame. value_on_top (operands_of frame) ≡ Some (value_of c.value_on_top-value.result) in
    holds_newest Q it c.args.self.now row c.self.view_is (some_newest P c.args.self.now c.requires) e
    (ap (λ (operands : List Value). value_on_top (values_of (reverse operands))) (sym c.slice.ensures) ∙ c.value_on_top-value.ensures.value)

pub returns-clause-rest : goal.returns-clause-rest
returns-clause-rest c =
    let it = c.self.inside in
    let row = c.newest_row-row.result in
    let e = c.newest_row-row.ensures in
    let its = lies it _ row c.self.invariant e in
    let P : FrameState → Type 0 = λ frame. IsSome (value_on_top (operands_of frame)) in
    let locals = take row.locals (drop row.base it.words) in
    let rest = drop (row.base + row.locals) it.words in
    newest_renewed it (record { rows = c.set_newest_row.new.rows; words = it.words }) c.args.self.now row (record row { depth = row.depth - c.places.result }) (with_popped (places_of c.value_on_top-value.result)) c.self.invariant c.self.view_is (some_newest P c.args.self.now c.requires) e
    c.set_newest_row.ensures.items (unwritten row it.words)
    (ap (λ n. state_with row locals (take (row.depth - n) rest)) c.places.ensures
    ∙ ap (λ stack. state_with row locals stack) (stack_popped row it.words (places_of c.value_on_top-value.result) its.deep its.within))
