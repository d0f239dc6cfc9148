use Rattle.std.proofs.Common.{◌≡◌, suc, ◌+◌, ◌-◌, ◌<◌, ◌∙◌, sym, ap, length, length-append, arith, ◌∷◌, [], ◌++◌}
use Rattle.std.proofs.lemmas.Result.{err_from_is_err_and}
use Rattle.std.proofs.lemmas.Bool.{eqb-true}
use Rattle.jv_types.specs.ClassData.{class_data_of}
use Rattle.jv_types.specs.Instructions.{placed_of}
use Rattle.jv_types.proofs.Tables.{end_from_push}
use Rattle.code_model.specs.InstructionReading.{instructions_within}
use Rattle.code_reader.proofs.InstructionLists.{items_in_front, some_left, goes_on, is_refused, is_done}
use Rattle.code_reader.proofs.Nearness.{near_push}
use Rattle.code_reader.proofs.instruction.read_instructions.Goals as goal

pub returns-in_err-insn-clause-read : goal.returns-in_err-insn-clause-read
returns-in_err-insn-clause-read c =
    let file = class_data_of c.args.class.now in
    let front = c.loop-input.instructions in
    let code = c.args.code.now in
    let input = c.loop-input.input in
    let some : 0 < length input.bytes =
    some_left (length input.bytes) (sym c.is_empty.ensures ∙ c.loop-input-test.true) in
    let left : length code - length front ≡ suc (length code - (length front + 1)) =
    omega (arith, some) in
    let error = err_from_is_err_and c.from_residual.result c.from_residual.ensures.1 in
    rw (error.1, error.2, ← c.loop-input.invariant.so_far, left)
    (is_refused file c.args.method (length code - (length front + 1)) input front _ some
    c.in_err-insn.ensures.instruction)

pub push-requires-clause-follows : goal.push-requires-clause-follows
push-requires-clause-follows c =
    c.in_ok-insn.ensures.pc ∙ sym c.loop-input.invariant.at

pub push-requires-clause-some : goal.push-requires-clause-some
push-requires-clause-some c =
    omega (
      arith,
      c.in_ok-insn.ensures.pc,
      c.in_ok-insn.ensures.next,
      c.in_ok-insn.ensures.past.further,
    )

pub push-requires-clause-short : goal.push-requires-clause-short
push-requires-clause-short c =
    omega (
      arith,
      c.in_ok-insn.ensures.next,
      c.in_ok-insn.ensures.past.whole,
      c.loop-input.invariant.whole,
      c.requires,
    )

pub loop-input-preserved : goal.loop-input-preserved
loop-input-preserved c =
    let file = class_data_of c.args.class.now in
    let front = c.loop-input.instructions in
    let code = c.args.code.now in
    let input = c.loop-input.input in
    let first = placed_of c.in_ok-insn.insn in
    let some : 0 < length input.bytes =
    some_left (length input.bytes) (sym c.is_empty.ensures ∙ c.loop-input-test.true) in
    let left : length code - length front ≡ suc (length code - (length front + 1)) =
    omega (arith, some) in
    let low : c.in_ok-insn.insn.pc < 65535 =
    omega (
      arith,
      c.in_ok-insn.ensures.pc,
      c.in_ok-insn.ensures.next,
      c.in_ok-insn.ensures.past.further,
      c.in_ok-insn.ensures.past.whole,
      c.loop-input.invariant.whole,
      c.requires,
    ) in
    let more : length (front ++ first ∷ []) ≡ length front + 1 = length-append front (first ∷ []) in
    record {
      so_far = rw (c.in_ok-push.ensures.ok, more)
          (sym (goes_on file c.args.method (length code - (length front + 1)) input front first
          c.read_instruction.new.input some c.in_ok-insn.ensures.instruction)
          ∙ ap (λ n. items_in_front front (instructions_within n file c.args.method input)) (sym left)
          ∙ c.loop-input.invariant.so_far);
      at = rw c.in_ok-push.ensures.ok (end_from_push 0 front first ∙ c.in_ok-insn.ensures.next);
      whole = c.in_ok-insn.ensures.past.whole ∙ c.loop-input.invariant.whole;
      few = rw (c.in_ok-push.ensures.ok, more)
          (omega (arith, c.in_ok-insn.ensures.past.further, c.loop-input.invariant.few));
      near = rw c.in_ok-push.ensures.ok (near_push front first c.loop-input.invariant.near low);
    }

pub returns-clause-read : goal.returns-clause-read
returns-clause-read c =
    let file = class_data_of c.args.class.now in
    let front = c.loop-input.instructions in
    let input = c.loop-input.input in
    sym c.loop-input.invariant.so_far
    ∙ is_done file c.args.method _ input front
    (eqb-true (length input.bytes) 0 (sym c.is_empty.ensures ∙ c.loop-input-test.false))

pub returns-clause-near : goal.returns-clause-near
returns-clause-near c = c.loop-input.invariant.near
