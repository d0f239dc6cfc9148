use Rattle.std.proofs.lemmas.Result.{err_from_is_err_and}
use Rattle.jv_model.specs.Flow.{goes_on}
use Rattle.code_model.specs.Names.{operand_at, named_placed}
use Rattle.jv_types.specs.ClassData.{pool_of}
use Rattle.jv_types.specs.Instructions.{placed_of}
use Rattle.type_rules.specs.Frames.{frame_of, IsKnownFrame}
use Rattle.stackmap_verify.proofs.Leaving.{handler_stops, operand_stops, target_stops, end_stops, goes_further, flow_further, step_stops, known_further}
use Rattle.stackmap_verify.proofs.visit.leave.Goals as goal

pub returns-then-branch-clause-leaves : goal.returns-then-branch-clause-leaves
returns-then-branch-clause-leaves g c = λ e is v placed last has.
    let method = c.args.method.now in
    handler_stops e v (named_placed (pool_of method.code.now.pool.now) (placed_of c.args.insn.now)) placed
    (frame_of method.world.now c.args.frame) has c.in_ok-one_misfits.field-0 (c.in_ok-one_misfits.ensures.misfits e is) c.if-branch.true

pub returns-in_err-after-clause-leaves : goal.returns-in_err-after-clause-leaves
returns-in_err-after-clause-leaves g c = λ e is v placed last has.
    let method = c.args.method.now in
    let error = err_from_is_err_and c.from_residual-in_err-after.result c.from_residual-in_err-after.ensures.1 in
    rw (error.1, error.2)
    (step_stops method.world.now e v _ (c.in_err-after.ensures.steps e is v placed has.is_frame)
    (operand_stops e v (named_placed (pool_of method.code.now.pool.now) (placed_of c.args.insn.now)) placed
    (frame_of method.world.now c.args.frame) has c.in_ok-one_misfits.field-0 (c.in_ok-one_misfits.ensures.misfits e is) c.if-branch.false))

pub returns-then-not-branch-clause-leaves : goal.returns-then-not-branch-clause-leaves
returns-then-not-branch-clause-leaves g c = λ e is v placed last has.
    let method = c.args.method.now in
    let pool = pool_of method.code.now.pool.now in
    let steps = c.in_ok-after.ensures.steps e is v placed has.is_frame in
    target_stops e v (named_placed pool (placed_of c.args.insn.now)) placed
    (frame_of method.world.now c.args.frame) has c.in_ok-one_misfits.field-0 (c.in_ok-one_misfits.ensures.misfits e is) c.if-branch.false
    (frame_of method.world.now c.in_ok-after.after) steps.0 steps.1
    c.in_ok-goes_to_targets.field-0 (c.in_ok-goes_to_targets.ensures e is (operand_at pool)) c.if-not-branch.true

pub returns-then-runs_out-clause-leaves : goal.returns-then-runs_out-clause-leaves
returns-then-runs_out-clause-leaves g c = λ e is v placed last has.
    let method = c.args.method.now in
    let pool = pool_of method.code.now.pool.now in
    let steps = c.in_ok-after.ensures.steps e is v placed has.is_frame in
    end_stops e v (named_placed pool (placed_of c.args.insn.now)) placed
    (frame_of method.world.now c.args.frame) has c.in_ok-one_misfits.field-0 (c.in_ok-one_misfits.ensures.misfits e is) c.if-branch.false
    (frame_of method.world.now c.in_ok-after.after) steps.0 steps.1
    c.in_ok-goes_to_targets.field-0 (c.in_ok-goes_to_targets.ensures e is (operand_at pool)) c.if-not-branch.false
    c.runs_out.result c.args.is_last last (c.runs_out.ensures (operand_at pool)) c.if-runs_out.true

pub returns-clause-leaves : goal.returns-clause-leaves
returns-clause-leaves g c = λ e is v placed last has.
    let method = c.args.method.now in
    let pool = pool_of method.code.now.pool.now in
    let here = named_placed pool (placed_of c.args.insn.now) in
    let steps = c.in_ok-after.ensures.steps e is v placed has.is_frame in (
      goes_further e v here placed (frame_of method.world.now c.args.frame) has c.in_ok-one_misfits.field-0
          (c.in_ok-one_misfits.ensures.misfits e is) c.if-branch.false (frame_of method.world.now c.in_ok-after.after) steps.0 steps.1
          c.in_ok-goes_to_targets.field-0 (c.in_ok-goes_to_targets.ensures e is (operand_at pool)) c.if-not-branch.false
          c.runs_out.result c.args.is_last last (c.runs_out.ensures (operand_at pool)) c.if-runs_out.false,
      flow_further method.world.now e v here placed c.in_ok-after.after c.flow_after.result steps.1 (c.flow_after.ensures (operand_at pool)),
    )

pub returns-clause-known : goal.returns-clause-known
returns-clause-known g c =
    let method = c.args.method.now in
    let pool = pool_of method.code.now.pool.now in
    known_further (IsKnownFrame method.world.now) c.flow_after.result
    (goes_on (named_placed pool (placed_of c.args.insn.now)).instruction) c.in_ok-after.after (c.flow_after.ensures (operand_at pool))
    c.in_ok-after.ensures.known
