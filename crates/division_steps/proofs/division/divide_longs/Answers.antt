use Rattle.std.proofs.Common.{◌++◌, false, refl, ap, sym, subst, ◌∙◌, arith, rules}
use Rattle.std.specs.Prelude.{FitsSigned}
use Rattle.std.specs.Int.{w64, cast_unsigned}
use Rattle.std.proofs.lemmas.Int.{to_z-of_z}
use Rattle.jv_model.specs.Instruction.{of_long, long_arithmetic}
use Rattle.jv_types.specs.Instruction.{arithmetic_of}
use Rattle.machine_model.specs.Arithmetic.{arithmetic_result}
use Rattle.machine_model.specs.SharedStep.{deed_of}
use Rattle.jv_values.specs.declared.value.Value.{Value}
use Rattle.jv_values.specs.declared.value.Value.TheVariants.{Long}
use Rattle.jv_values.specs.Values.{places_of}
use Rattle.thread_frames.specs.Frames.{words_of}
use Rattle.frame_stacks.specs.Threads.{Threads, change_thread}
use Rattle.machine_threads.specs.Laws.{goes_to}
use Rattle.machine_parts.specs.Parts.{machine_of}
use Rattle.machine_parts.specs.Steps.{IsDone}
use Rattle.machine_throws.proofs.Replacing.{room_for_two}
use Rattle.division_steps.proofs.Dividing.{zero_by_bits, has_longs, longs_by_zero, longs_are_divided}
use Rattle.division_steps.proofs.division.divide_longs.Goals as goal

pub two_longs-a-requires : goal.two_longs-a-requires
two_longs-a-requires g c =
    let machine = machine_of g.H.ObjectHeap.heap c.args.parts.now in
    let step = c.requires.step in
    has_longs machine c.args.t.0 c.args.next.0 (arithmetic_of c.args.operation) c.requires.at c.requires.division step.types step.state step.stands
    step.right

pub returns-then-b-eq0-clause-made : goal.returns-then-b-eq0-clause-made
returns-then-b-eq0-clause-made g c types state stands =
    let machine = machine_of g.H.ObjectHeap.heap c.args.parts.now in
    let step = c.requires.step in
    let has = has_longs machine c.args.t.0 c.args.next.0 (arithmetic_of c.args.operation) c.requires.at c.requires.division step.types step.state
    step.stands step.right in
    let fits : FitsSigned w64 c.two_longs-a.result.1 = search rules in (
      longs_by_zero machine c.args.t.0 c.args.next.0 (arithmetic_of c.args.operation) c.requires.at c.requires.division types state stands
          has.between has.below has.first has.second c.two_longs-a.result.0 c.two_longs-a.result.1 has.top.is has.next.is
          (c.two_longs-a.ensures.first has) (c.two_longs-a.ensures.second has)
          (zero_by_bits w64 c.two_longs-a.result.1 fits refl c.if-b-eq0.true),
      stands,
    )

pub replace_two-requires : goal.replace_two-requires
replace_two-requires g c =
    let machine = machine_of g.H.ObjectHeap.heap c.args.parts.now in
    let step = c.requires.step in
    let has = has_longs machine c.args.t.0 c.args.next.0 (arithmetic_of c.args.operation) c.requires.at c.requires.division step.types step.state
    step.stands step.right in
    record {
      lower = of_long;
      upper = of_long;
      has = has;
      room = room_for_two machine c.args.t.0 c.args.next.0 (long_arithmetic (arithmetic_of c.args.operation)) c.requires.at step.types step.state
          step.stands has.between has.below has.first has.second has.top.is has.next.is (Long c.long_op.result)
          (omega (arith, ap places_of (c.two_longs-a.ensures.first has), ap places_of (c.two_longs-a.ensures.second has)));
    }

pub returns-clause-made : goal.returns-clause-made
returns-clause-made g c types state stands =
    let machine = machine_of g.H.ObjectHeap.heap c.args.parts.now in
    let t = c.args.t.0 in
    let step = c.requires.step in
    let has = has_longs machine t c.args.next.0 (arithmetic_of c.args.operation) c.requires.at c.requires.division step.types step.state
    step.stands step.right in
    let result_fits : FitsSigned w64 c.long_op.result = search rules in
    let first_fits : FitsSigned w64 c.two_longs-a.result.0 = search rules in
    let second_fits : FitsSigned w64 c.two_longs-a.result.1 = search rules in
    subst (λ (s : Threads). IsDone types t (record machine { stacks = s }) (deed_of state t)) (sym (c.replace_two.ensures of_long of_long has
    ∙ ap (λ (value : Value). change_thread t (goes_to c.args.next.0 (has.below ++ words_of value) false) machine.stacks)
    (ap Long (to_z-of_z w64 c.long_op.result result_fits))))
    (longs_are_divided machine t c.args.next.0 (arithmetic_of c.args.operation) c.requires.at c.requires.division types state stands
    has.between has.below has.first has.second c.two_longs-a.result.0 c.two_longs-a.result.1 c.long_op.result has.top.is has.next.is
    (c.two_longs-a.ensures.first has) (c.two_longs-a.ensures.second has)
    (λ same. c.if-b-eq0.false (ap (cast_unsigned w64) same)) (c.long_op.ensures
    ∙ (λ i. arithmetic_result w64 (arithmetic_of c.args.operation) (to_z-of_z w64 c.two_longs-a.result.0 first_fits i) (to_z-of_z w64 c.two_longs-a.result.1 second_fits i))))
