use Rattle.std.proofs.Common.{◌+◌, arith, sym, ap, ◌∙◌, subst}
use Rattle.std.specs.Prelude.{unwrap_or}
use Rattle.local_steps.specs.Steps.{IsRight}
use Rattle.local_runs.specs.Places.{stepped_in}
use Rattle.local_runs.proofs.PlaceLemmas.{step_is, first_right, onward, onward_mark, branched_to, reached_at}
use Rattle.local_runs.proofs.step.step_at.Goals as goal

pub local_step-requires-clause-right : goal.local_step-requires-clause-right
local_step-requires-clause-right c =
    let a = c.args in
    subst IsRight (step_is a.pool.now a.body.now a.place.number c.get-insn.result.now a.locals.now a.stack.now a.place.depth c.requires.at.order c.get-insn.ensures c.requires.room) (first_right _ _ c.requires.right)

pub returns-in_err-next-clause-reached : goal.returns-in_err-next-clause-reached
returns-in_err-next-clause-reached c =
    let a = c.args in
    step_is a.pool.now a.body.now a.place.number c.get-insn.result.now a.locals.now a.stack.now a.place.depth c.requires.at.order c.get-insn.ensures c.requires.room
    ∙ c.in_err-next.ensures.reached
    ∙ ap (stepped_in a.body.now c.local_step.new.locals c.local_step.new.stack) (sym c.from_residual.ensures)

pub overflow_add-number : goal.overflow_add-number
overflow_add-number c =
    let a = c.args in
    let next = onward a.pool.now a.body.now a.place c.get-insn.result.now a.locals.now a.stack.now c.local_step.new.locals c.local_step.new.stack c.in_ok-next.next c.requires.at c.requires.room c.get-insn.ensures c.requires.right c.in_ok-next.ensures.reached c.in-None.is in
    omega (arith, next.0, c.requires.at.few)

pub number_at-requires : goal.number_at-requires
number_at-requires c =
    let a = c.args in
    branched_to a.pool.now a.body.now a.place c.get-insn.result.now a.locals.now a.stack.now c.local_step.new.locals c.local_step.new.stack c.in_ok-next.next c.in-Some.target c.requires.at c.requires.room c.get-insn.ensures c.requires.right c.in_ok-next.ensures.reached c.in-Some.is

pub returns-in-None-clause-reached : goal.returns-in-None-clause-reached
returns-in-None-clause-reached c =
    let a = c.args in
    let next = onward a.pool.now a.body.now a.place c.get-insn.result.now a.locals.now a.stack.now c.local_step.new.locals c.local_step.new.stack c.in_ok-next.next c.requires.at c.requires.room c.get-insn.ensures c.requires.right c.in_ok-next.ensures.reached c.in-None.is in
    reached_at a.pool.now a.body.now a.place c.get-insn.result.now a.locals.now a.stack.now c.local_step.new.locals c.local_step.new.stack c.in_ok-next.next (a.place.number + 1) c.requires.at c.requires.room c.get-insn.ensures c.in_ok-next.ensures.reached
    (next.1 ∙ ap (λ target. unwrap_or target c.get-insn.result.now.next) (sym c.in-None.is))

pub returns-in-None-clause-placed : goal.returns-in-None-clause-placed
returns-in-None-clause-placed c =
    let a = c.args in
    let next = onward a.pool.now a.body.now a.place c.get-insn.result.now a.locals.now a.stack.now c.local_step.new.locals c.local_step.new.stack c.in_ok-next.next c.requires.at c.requires.room c.get-insn.ensures c.requires.right c.in_ok-next.ensures.reached c.in-None.is in (
      record {
        order = c.requires.at.order;
        few = c.requires.at.few;
        there = next.0;
        inside = omega (arith, c.in_ok-next.ensures.inside, c.requires.room);
      },
      onward_mark a.body.now a.place a.stack.now c.get-insn.result.now c.requires.at c.requires.room c.get-insn.ensures next.1,
    )

pub returns-in-Some-clause-reached : goal.returns-in-Some-clause-reached
returns-in-Some-clause-reached c =
    let a = c.args in
    reached_at a.pool.now a.body.now a.place c.get-insn.result.now a.locals.now a.stack.now c.local_step.new.locals c.local_step.new.stack c.in_ok-next.next c.number_at.result c.requires.at c.requires.room c.get-insn.ensures c.in_ok-next.ensures.reached
    (c.number_at.ensures.there ∙ ap (λ target. unwrap_or target c.get-insn.result.now.next) (sym c.in-Some.is))
