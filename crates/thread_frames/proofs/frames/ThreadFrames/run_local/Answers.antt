use Rattle.std.proofs.Common.{◌≡◌, ℕ, ◌+◌, ◌-◌, List, ◌∷◌, length, take, drop, refl, sym, ap, ◌∙◌, subst, arith}
use Rattle.std.proofs.lemmas.List.{length-take, length-drop}
use Rattle.machine_model.specs.State.{Frame}
use Rattle.local_steps.specs.Steps.{IsRight}
use Rattle.local_runs.specs.Places.{step_of, pc_at}
use Rattle.local_runs.specs.Runs.{NeverWrong, IsRun}
use Rattle.local_runs.proofs.OrderLemmas.{pc_there}
use Rattle.local_runs.proofs.PlaceLemmas.{stands, is_some}
use Rattle.thread_frames.specs.declared.frames.Row.{Row}
use Rattle.thread_frames.specs.Frames.{FrameState, change_newest, with_top}
use Rattle.thread_frames.specs.Machine.{words_frame, RunsTo, RunsNewest}
use Rattle.thread_frames.specs.Laid.{state_in, frames_in, size_of}
use Rattle.thread_frames.specs.Runs.{frame_from}
use Rattle.thread_frames.proofs.FrameLemmas.{newest_first}
use Rattle.thread_frames.proofs.StepLemmas.{from_is}
use Rattle.thread_frames.proofs.RowLemmas.{lies, last_place, some_newest, newest_holds, kept, WrittenIn, newest_renewed}
use Rattle.thread_frames.proofs.frames.ThreadFrames.run_local.Goals as goal

pub number_at-requires : goal.number_at-requires
number_at-requires c =
    let a = c.args in
    let it = c.self.inside in
    let row = c.newest_row-row.result in
    let step = step_of a.pool.now a.body.now in
    let right = newest_holds (λ (frame : FrameState). NeverWrong step (words_frame frame)) it a.self.now row c.self.view_is c.newest_row-row.ensures c.requires.right in
    let first = subst (λ (f : Frame). IsRight (step f)) (sym (from_is row.pc.0 row.base row.locals row.depth it.words)) (right 0) in
    let at = stands a.pool.now a.body.now row.pc.0 (take row.locals (drop row.base it.words)) (drop (row.base + row.locals) it.words) row.depth first in
    is_some _ at.0 at.1

pub run-ran-requires : goal.run-ran-requires
run-ran-requires c =
    let a = c.args in
    let it = c.self.inside in
    let row = c.newest_row-row.result in
    let its = lies it _ row c.self.invariant c.newest_row-row.ensures in
    let step = step_of a.pool.now a.body.now in
    let right = newest_holds (λ (frame : FrameState). NeverWrong step (words_frame frame)) it a.self.now row c.self.view_is c.newest_row-row.ensures c.requires.right in
    let room = newest_holds (λ (frame : FrameState). frame.max_stack ≡ a.body.now.max_stack) it a.self.now row c.self.view_is c.newest_row-row.ensures c.requires.room in
    record {
      sizes = omega (arith, its.within, room);
      at = record {
        order = c.requires.order;
        few = omega (arith, c.len-count.type_inv, c.len-count.ensures);
        there = c.number_at.ensures.within;
        inside = omega (arith, its.deep, room);
      };
      right = subst (λ (pc : ℕ). NeverWrong step (frame_from pc row.base row.locals row.depth it.words)) (sym c.number_at.ensures.there) right;
    }

pub invariant_of-self : goal.invariant_of-self
invariant_of-self c =
    let a = c.args in
    let it = c.self.inside in
    let row = c.newest_row-row.result in
    let its = lies it _ row c.self.invariant c.newest_row-row.ensures in
    let ran = c.run-ran.ensures in
    let room = newest_holds (λ (frame : FrameState). frame.max_stack ≡ a.body.now.max_stack) it a.self.now row c.self.view_is c.newest_row-row.ensures c.requires.room in
    kept it _ _ row (record row { pc = record { 0 = c.get.result.now.pc }; depth = c.run-ran.result.place.depth }) c.self.invariant c.newest_row-row.ensures (record { base = refl; size = refl; deep = omega (arith, ran.at.inside, room) }) c.set_newest_row.ensures.items c.set_newest_row.ensures.spare ran.long

pub returns : goal.returns
returns c =
    let a = c.args in
    let it = c.self.inside in
    let row = c.newest_row-row.result in
    let e = c.newest_row-row.ensures in
    let its = lies it _ row c.self.invariant e in
    let ran = c.run-ran.ensures in
    let after = c.run-ran.new.self in
    let pc = c.get.result.now.pc in
    let depth = c.run-ran.result.place.depth in
    let changed : Row = record row { pc = record { 0 = pc }; depth = depth } in
    let step = step_of a.pool.now a.body.now in
    let P : FrameState → Type 0 = λ frame. frame.max_stack ≡ a.body.now.max_stack in
    let room = newest_holds P it a.self.now row c.self.view_is e c.requires.room in
    let some = some_newest P a.self.now c.requires.room in
    let state = state_in it.words row in
    let locals = take row.locals (drop row.base after) in
    let stack = take depth (drop (row.base + row.locals) after) in
    let older = frames_in it.words (take (length it.rows.items - 1) it.rows.items) in
    let size : row.locals + a.body.now.max_stack ≡ size_of row = omega (arith, room) in
    let only : WrittenIn row it.words after = record {
      below = ran.below;
      above = subst (λ (n : ℕ). drop (row.base + n) after ≡ drop (row.base + n) it.words) size ran.above;
      long = ran.long;
    } in
    let parts : a.self.now ≡ state ∷ older = sym c.self.view_is ∙ newest_first it.words it.rows.items (length it.rows.items - 1) row (last_place it a.self.now c.self.view_is some) e in
    let renewed =
    newest_renewed it (record { rows = c.set_newest_row.new.rows; words = after }) a.self.now row changed (with_top pc locals stack) c.self.invariant c.self.view_is some e c.set_newest_row.ensures.items only refl
    ∙ ap (change_newest (with_top pc locals stack)) parts in
    let start : frame_from (pc_at a.body.now.instructions c.number_at.result) row.base row.locals row.depth it.words ≡ words_frame state = ap (λ n. frame_from n row.base row.locals row.depth it.words) c.number_at.ensures.there in
    let end : frame_from (pc_at a.body.now.instructions c.run-ran.result.place.number) row.base row.locals depth after ≡ words_frame (with_top pc locals stack state) = ap (λ n. frame_from n row.base row.locals depth after) (pc_there a.body.now.instructions c.run-ran.result.place.number _ c.get.ensures) in
    let run = subst (λ (f : Frame). IsRun step f (words_frame (with_top pc locals stack state)) a.max c.run-ran.result) start
    (subst (λ (f : Frame). IsRun step (frame_from (pc_at a.body.now.instructions c.number_at.result) row.base row.locals row.depth it.words) f a.max c.run-ran.result) end ran.run) in
    let to : RunsTo step a.max c.run-ran.result state (with_top pc locals stack state) = record {
      same = refl;
      locals = omega (arith, its.locals, its.within, ran.long, length-take row.locals (drop row.base after), length-drop row.base after);
      stack = omega (arith, ran.at.inside, room, length-take depth (drop (row.base + row.locals) after));
      run = run;
    } in
    subst (λ (frames : List FrameState). RunsNewest step a.max c.run-ran.result frames (frames_in after c.set_newest_row.new.rows.items)) (sym parts)
    (subst (λ (frames : List FrameState). RunsNewest step a.max c.run-ran.result (state ∷ older) frames) (sym renewed) (to, refl))
