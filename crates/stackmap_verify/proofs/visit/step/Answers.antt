use Rattle.std.proofs.lemmas.Result.{err_from_is_err_and}
use Rattle.code_model.specs.Names.{named_placed}
use Rattle.jv_types.specs.ClassData.{pool_of}
use Rattle.jv_types.specs.Instructions.{placed_of}
use Rattle.type_rules.specs.Frames.{frame_of}
use Rattle.stackmap_verify.proofs.StepRule.{instructions_are, room_lacks, step_fails, step_leads}
use Rattle.stackmap_verify.proofs.visit.step.Goals as goal

pub returns-then-not-has_room_at-clause-steps : goal.returns-then-not-has_room_at-clause-steps
returns-then-not-has_room_at-clause-steps g c = λ e is v placed framed.
    let method = c.args.method.now in
    room_lacks method.world.now e v (named_placed (pool_of method.code.now.pool.now) (placed_of c.args.insn.now)) placed
    c.has_room_at.result (c.has_room_at.ensures e is) c.if-not-has_room_at.true

pub returns-in_err-type_step-clause-steps : goal.returns-in_err-type_step-clause-steps
returns-in_err-type_step-clause-steps g c = λ e is v placed framed.
    let method = c.args.method.now in
    let error = err_from_is_err_and c.from_residual.result c.from_residual.ensures.1 in
    rw (error.1, error.2)
    (step_fails method.world.now e v (named_placed (pool_of method.code.now.pool.now) (placed_of c.args.insn.now)) placed
    (frame_of method.world.now c.args.frame) framed _ c.type_step.new.frame
    (c.in_err-type_step.ensures.typed e is.environment (instructions_are method e is)))

pub returns-clause-steps : goal.returns-clause-steps
returns-clause-steps g c = λ e is v placed framed.
    let method = c.args.method.now in
    step_leads method.world.now e v (named_placed (pool_of method.code.now.pool.now) (placed_of c.args.insn.now)) placed
    (frame_of method.world.now c.args.frame) framed c.type_step.new.frame
    (c.in_ok-type_step.ensures.typed e is.environment (instructions_are method e is))
    c.has_room_at.result (c.has_room_at.ensures e is) c.if-not-has_room_at.false
