use Rattle.std.proofs.Common.{◌≡◌, suc, ◌+◌, ◌-◌, ◌<◌, ◌≤◌, [], ◌∷◌, length, refl, sym, ap, ◌∙◌, subst, arith}
use Rattle.thread_frames.specs.Frames.{FrameState, with_word}
use Rattle.thread_frames.specs.Laid.{state_in}
use Rattle.thread_frames.proofs.LastLemmas.{set_same}
use Rattle.thread_frames.proofs.StateLemmas.{value_put}
use Rattle.thread_frames.proofs.RowLemmas.{lies, depth_holds, depth_within, kept, WrittenIn, unwritten, written, depth_renewed}
use Rattle.thread_frames.proofs.frames.ThreadFrames.put_word.Goals as goal

pub get-row-requires : goal.get-row-requires
get-row-requires c =
    let P : FrameState → Type 0 = λ frame. c.args.at ≤ length frame.locals + length frame.stack in
    depth_within P c.self.inside c.args.self.now c.args.d c.self.view_is c.requires

pub invariant_of-self : goal.invariant_of-self
invariant_of-self c =
    let it = c.self.inside in
    let row = c.get-row.result.now in
    let e = c.get-row.ensures in
    let its = lies it c.args.d row c.self.invariant e in
    kept it _ c.args.d row (record row { held = c.args.v }) c.self.invariant e (record { base = refl; size = refl; deep = its.deep }) c.set.ensures.items c.set.ensures.spare refl

pub overflow_add-row : goal.overflow_add-row
overflow_add-row c =
    let it = c.self.inside in
    let row = c.get-row.result.now in
    let e = c.get-row.ensures in
    let its = lies it c.args.d row c.self.invariant e in
    let v = c.args.v in
    let P : FrameState → Type 0 = λ frame. c.args.at ≤ length frame.locals + length frame.stack in
    let fits = depth_holds P it c.args.self.now c.args.d row c.self.view_is e c.requires in
    omega (arith, its.few, its.locals, its.stack, its.deep, fits)

pub put-requires : goal.put-requires
put-requires c =
    let it = c.self.inside in
    let row = c.get-row.result.now in
    let e = c.get-row.ensures in
    let its = lies it c.args.d row c.self.invariant e in
    let v = c.args.v in
    let P : FrameState → Type 0 = λ frame. c.args.at ≤ length frame.locals + length frame.stack in
    let fits = depth_holds P it c.args.self.now c.args.d row c.self.view_is e c.requires in
    let n = c.args.at - 1 in
    let next : suc n ≡ c.args.at = omega (arith, c.if-at-eq0.false) in
    let inside : n < row.locals + row.depth = omega (arith, next, fits, its.locals, its.stack) in
    let only = written row it.words (row.base + n) (v ∷ []) (omega arith) (omega (arith, inside, its.deep)) its.within in
    omega (arith, inside, its.within, its.deep)

pub invariant_of-self-else-at-eq0 : goal.invariant_of-self-else-at-eq0
invariant_of-self-else-at-eq0 c =
    let it = c.self.inside in
    let row = c.get-row.result.now in
    let e = c.get-row.ensures in
    let its = lies it c.args.d row c.self.invariant e in
    let v = c.args.v in
    let P : FrameState → Type 0 = λ frame. c.args.at ≤ length frame.locals + length frame.stack in
    let fits = depth_holds P it c.args.self.now c.args.d row c.self.view_is e c.requires in
    let n = c.args.at - 1 in
    let next : suc n ≡ c.args.at = omega (arith, c.if-at-eq0.false) in
    let inside : n < row.locals + row.depth = omega (arith, next, fits, its.locals, its.stack) in
    let only = written row it.words (row.base + n) (v ∷ []) (omega arith) (omega (arith, inside, its.deep)) its.within in
    kept it _ c.args.d row row c.self.invariant e (record { base = refl; size = refl; deep = its.deep }) (sym (set_same it.rows.items c.args.d row e)) refl (ap length c.put.ensures ∙ only.long)

pub returns-then-at-eq0 : goal.returns-then-at-eq0
returns-then-at-eq0 c =
    let it = c.self.inside in
    let row = c.get-row.result.now in
    let e = c.get-row.ensures in
    let its = lies it c.args.d row c.self.invariant e in
    depth_renewed it (record { rows = c.set.new.self; words = it.words }) c.args.self.now c.args.d row (record row { held = c.args.v }) (with_word c.args.at c.args.v) c.self.invariant c.self.view_is e c.set.ensures.items (unwritten row it.words)
    (ap (λ n. with_word n c.args.v (state_in it.words row)) (sym c.if-at-eq0.true))

pub returns-else-at-eq0 : goal.returns-else-at-eq0
returns-else-at-eq0 c =
    let it = c.self.inside in
    let row = c.get-row.result.now in
    let e = c.get-row.ensures in
    let its = lies it c.args.d row c.self.invariant e in
    let v = c.args.v in
    let P : FrameState → Type 0 = λ frame. c.args.at ≤ length frame.locals + length frame.stack in
    let fits = depth_holds P it c.args.self.now c.args.d row c.self.view_is e c.requires in
    let n = c.args.at - 1 in
    let next : suc n ≡ c.args.at = omega (arith, c.if-at-eq0.false) in
    let inside : n < row.locals + row.depth = omega (arith, next, fits, its.locals, its.stack) in
    let only = written row it.words (row.base + n) (v ∷ []) (omega arith) (omega (arith, inside, its.deep)) its.within in
    depth_renewed it (record { rows = it.rows; words = c.put.new.self }) c.args.self.now c.args.d row row (with_word c.args.at v) c.self.invariant c.self.view_is e
    (sym (set_same it.rows.items c.args.d row e)) (subst (WrittenIn row it.words) (sym c.put.ensures) only)
    (ap (λ after. state_in after row) c.put.ensures
    ∙ value_put row it.words n v its.deep its.within inside
    ∙ ap (λ k. with_word k v (state_in it.words row)) next)
