use Rattle.std.proofs.Common.{◌≤◌, length, arith, sym, ap, ◌∙◌}
use Rattle.code_model.specs.Names.{operand_at}
use Rattle.jv_types.specs.ClassData.{pool_of}
use Rattle.jv_types.specs.Instruction.{instruction_of}
use Rattle.jv_values.specs.Values.{value_of, operands_in}
use Rattle.jv_values.proofs.WordLemmas.{length-operands_in}
use Rattle.local_steps.specs.Steps.{named_instruction, reached_in}
use Rattle.local_steps.proofs.StepLemmas.{operate_right, operate_reached, branch_right, branch_reached, store_right, store_reached, load_right, push_right, push_reached, push_none, shared_none, onto_words}
use Rattle.local_steps.proofs.step.local_step.Goals as goal

pub pushed-requires-clause-right : goal.pushed-requires-clause-right
pushed-requires-clause-right c =
    let a = c.args in
    load_right a.insn.now.pc a.insn.now.next (operand_at (pool_of a.pool.now)) (instruction_of a.insn.now.instruction) a.locals.now a.stack.now a.depth c.requires.right

pub store-requires-clause-right : goal.store-requires-clause-right
store-requires-clause-right c =
    let a = c.args in
    store_right a.insn.now.pc a.insn.now.next (operand_at (pool_of a.pool.now)) (instruction_of a.insn.now.instruction) a.locals.now a.stack.now a.depth (sym c.in-Store.ensures) c.requires.right

pub operate-requires-clause-right : goal.operate-requires-clause-right
operate-requires-clause-right c =
    let a = c.args in
    operate_right a.insn.now.pc a.insn.now.next (operand_at (pool_of a.pool.now)) (instruction_of a.insn.now.instruction) a.locals.now a.stack.now a.depth (sym c.in-Operate.ensures) c.requires.right

pub branch-instruction-requires-clause-right : goal.branch-instruction-requires-clause-right
branch-instruction-requires-clause-right c =
    let a = c.args in
    branch_right a.insn.now.pc a.insn.now.next (operand_at (pool_of a.pool.now)) (instruction_of a.insn.now.instruction) a.locals.now a.stack.now a.depth (sym c.in-Branch.ensures) c.requires.right

pub returns-in-Store-clause-reached : goal.returns-in-Store-clause-reached
returns-in-Store-clause-reached c =
    let a = c.args in
    store_reached a.insn.now.pc a.insn.now.next (operand_at (pool_of a.pool.now)) (instruction_of a.insn.now.instruction) a.locals.now c.store.new.locals a.stack.now a.depth c.store.result (sym c.in-Store.ensures) c.store.ensures.left

pub returns-in-Operate-clause-reached : goal.returns-in-Operate-clause-reached
returns-in-Operate-clause-reached c =
    let a = c.args in
    operate_reached a.insn.now.pc a.insn.now.next (operand_at (pool_of a.pool.now)) (instruction_of a.insn.now.instruction) a.locals.now a.stack.now c.operate.new.stack a.depth c.operate.result (sym c.in-Operate.ensures) c.operate.ensures.inside (omega arith) c.operate.ensures.operands

pub returns-in-Branch-clause-reached : goal.returns-in-Branch-clause-reached
returns-in-Branch-clause-reached c =
    let a = c.args in
    branch_reached a.insn.now.pc a.insn.now.next (operand_at (pool_of a.pool.now)) (instruction_of a.insn.now.instruction) a.locals.now a.stack.now a.depth c.branch-instruction.result.depth c.branch-instruction.result.target (sym c.in-Branch.ensures) c.branch-instruction.ensures.way

pub returns-in-Shared-clause-reached : goal.returns-in-Shared-clause-reached
returns-in-Shared-clause-reached c =
    let a = c.args in
    shared_none a.insn.now.pc a.insn.now.next (operand_at (pool_of a.pool.now)) (instruction_of a.insn.now.instruction) a.locals.now a.stack.now a.depth (sym c.in-Shared.ensures)

pub returns-in_err-value-in-Push-clause-reached : goal.returns-in_err-value-in-Push-clause-reached
returns-in_err-value-in-Push-clause-reached c =
    let a = c.args in
    let loaded = load_right a.insn.now.pc a.insn.now.next (operand_at (pool_of a.pool.now)) (instruction_of a.insn.now.instruction) a.locals.now a.stack.now a.depth c.requires.right in
    push_none a.insn.now.pc a.insn.now.next (operand_at (pool_of a.pool.now)) (instruction_of a.insn.now.instruction) a.locals.now a.stack.now a.depth (sym c.in-Push.ensures) loaded (sym c.in_err-value-in-Push.ensures)
    ∙ ap (reached_in a.insn.now.next a.locals.now a.stack.now) (sym c.from_residual.ensures)

pub push-requires : goal.push-requires
push-requires c =
    let a = c.args in
    let fits = push_right a.insn.now.pc a.insn.now.next (named_instruction (pool_of a.pool.now) a.insn.now.instruction) a.locals.now a.stack.now a.depth (value_of c.in_ok-value-in-Push.value) (sym c.in_ok-value-in-Push.ensures) c.requires.right in
    omega (arith, fits, onto_words c.in_ok-value-in-Push.value (operands_in a.stack.now a.depth), length-operands_in a.stack.now a.depth c.requires.inside)

pub returns-in_ok-value-in-Push-clause-inside : goal.returns-in_ok-value-in-Push-clause-inside
returns-in_ok-value-in-Push-clause-inside c =
    let a = c.args in
    let fits = push_right a.insn.now.pc a.insn.now.next (named_instruction (pool_of a.pool.now) a.insn.now.instruction) a.locals.now a.stack.now a.depth (value_of c.in_ok-value-in-Push.value) (sym c.in_ok-value-in-Push.ensures) c.requires.right in
    omega (arith, fits, onto_words c.in_ok-value-in-Push.value (operands_in a.stack.now a.depth), length-operands_in a.stack.now a.depth c.requires.inside)

pub returns-in_ok-value-in-Push-clause-reached : goal.returns-in_ok-value-in-Push-clause-reached
returns-in_ok-value-in-Push-clause-reached c =
    let a = c.args in
    let fits = push_right a.insn.now.pc a.insn.now.next (named_instruction (pool_of a.pool.now) a.insn.now.instruction) a.locals.now a.stack.now a.depth (value_of c.in_ok-value-in-Push.value) (sym c.in_ok-value-in-Push.ensures) c.requires.right in
    let inside : c.push.result ≤ length c.push.new.words = omega (arith, fits, onto_words c.in_ok-value-in-Push.value (operands_in a.stack.now a.depth), length-operands_in a.stack.now a.depth c.requires.inside) in
    push_reached a.insn.now.pc a.insn.now.next (named_instruction (pool_of a.pool.now) a.insn.now.instruction) a.locals.now a.stack.now c.push.new.words a.depth c.push.result (value_of c.in_ok-value-in-Push.value) (sym c.in_ok-value-in-Push.ensures) inside (omega arith) c.push.ensures.operands
