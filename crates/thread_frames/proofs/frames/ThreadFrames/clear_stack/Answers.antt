use Rattle.std.proofs.Common.{◌≡◌, ◌+◌, List, [], ◌∷◌, take, drop, ap, refl, arith}
use Rattle.jv_values.specs.declared.value.Value.{Value}
use Rattle.thread_frames.specs.Frames.{with_empty_stack}
use Rattle.thread_frames.specs.Laid.{state_with}
use Rattle.thread_frames.proofs.RowLemmas.{lies, kept, unwritten, newest_renewed}
use Rattle.thread_frames.proofs.frames.ThreadFrames.clear_stack.Goals as goal

take-zero : (words : List Value) → take 0 words ≡ []
take-zero [] = refl
take-zero (word ∷ words) = refl

pub invariant_of-self : goal.invariant_of-self
invariant_of-self c =
    let it = c.self.inside in
    let row = c.newest_row-row.result in
    let e = c.newest_row-row.ensures in
    kept it _ _ row (record row { depth = 0 }) c.self.invariant e (record { base = refl; size = refl; deep = omega arith }) c.set_newest_row.ensures.items c.set_newest_row.ensures.spare refl

pub returns : goal.returns
returns c =
    let it = c.self.inside in
    let row = c.newest_row-row.result in
    let e = c.newest_row-row.ensures in
    newest_renewed it (record { rows = c.set_newest_row.new.rows; words = it.words }) c.args.self.now row (record row { depth = 0 }) with_empty_stack c.self.invariant c.self.view_is c.requires e c.set_newest_row.ensures.items (unwritten row it.words)
    (ap (state_with row (take row.locals (drop row.base it.words))) (take-zero (drop (row.base + row.locals) it.words)))
