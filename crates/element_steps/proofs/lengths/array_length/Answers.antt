use Rattle.std.proofs.Common.{◌≡◌, ◌<◌, ◌^◌, ◌++◌, pos, length, refl, ap, sym, subst, ◌∙◌, arith, false}
use Rattle.std.specs.Int.{w32, cast_signed}
use Rattle.std.proofs.lemmas.Int.{to_z_pos}
use Rattle.jv_model.specs.Instruction.{of_reference, arraylength}
use Rattle.machine_model.specs.SharedStep.{deed_of}
use Rattle.jv_values.specs.declared.value.Value.{Value}
use Rattle.jv_values.specs.declared.value.Value.TheVariants.{Int}
use Rattle.thread_frames.specs.Frames.{words_of}
use Rattle.frame_stacks.specs.Threads.{Threads, change_thread}
use Rattle.machine_threads.specs.Laws.{goes_to}
use Rattle.machine_parts.specs.Parts.{machine_of, classes_of}
use Rattle.machine_parts.specs.Steps.{IsDone}
use Rattle.machine_throws.proofs.Replacing.{room_for_one}
use Rattle.element_steps.proofs.Arrays.{words_are, few_elements}
use Rattle.element_steps.proofs.Finding.{null_there, some_places}
use Rattle.element_steps.proofs.Counting.{has_named, null_throws, named_array, counted_is_done}
use Rattle.element_steps.proofs.lengths.array_length.Goals as goal

pub one_on_top-requires : goal.one_on_top-requires
one_on_top-requires g c =
    let machine = machine_of g.H.ObjectHeap.heap c.args.parts.now in
    let step = c.requires.step in
    has_named machine c.args.t.0 c.args.next.0 c.requires.at step.types step.state step.stands step.right

pub overflow_cast-address : goal.overflow_cast-address
overflow_cast-address g c =
    let machine = machine_of g.H.ObjectHeap.heap c.args.parts.now in
    let step = c.requires.step in
    let has = has_named machine c.args.t.0 c.args.next.0 c.requires.at step.types step.state step.stands step.right in
    let array = named_array machine c.args.t.0 c.args.next.0 c.requires.at step.types step.state step.stands has.below has.value has.top.is
    step.right c.in-Ref.address (sym (c.one_on_top.ensures has) ∙ c.in-Ref.is) in
    omega (arith, array.small)

pub element_count-count-requires : goal.element_count-count-requires
element_count-count-requires g c =
    let machine = machine_of g.H.ObjectHeap.heap c.args.parts.now in
    let step = c.requires.step in
    let has = has_named machine c.args.t.0 c.args.next.0 c.requires.at step.types step.state step.stands step.right in
    named_array machine c.args.t.0 c.args.next.0 c.requires.at step.types step.state step.stands has.below has.value has.top.is
    step.right c.in-Ref.address (sym (c.one_on_top.ensures has) ∙ c.in-Ref.is)

pub overflow_cast-count : goal.overflow_cast-count
overflow_cast-count g c =
    let machine = machine_of g.H.ObjectHeap.heap c.args.parts.now in
    let step = c.requires.step in
    let has = has_named machine c.args.t.0 c.args.next.0 c.requires.at step.types step.state step.stands step.right in
    let array = named_array machine c.args.t.0 c.args.next.0 c.requires.at step.types step.state step.stands has.below has.value has.top.is
    step.right c.in-Ref.address (sym (c.one_on_top.ensures has) ∙ c.in-Ref.is) in
    let words = ap length (words_are machine.heap c.in-Ref.address array.stored array.at.there) in
    let most = few_elements (classes_of machine.world step.types machine.versions) machine.heap step.state.heap step.stands.parts.heap
    c.in-Ref.address array in
    let few : c.element_count-count.result < 2 ^ 31 = omega (arith, c.element_count-count.ensures, words, most, c.requires.small) in
    record { sfits = few }

pub replace_one-requires : goal.replace_one-requires
replace_one-requires g c =
    let machine = machine_of g.H.ObjectHeap.heap c.args.parts.now in
    let step = c.requires.step in
    let has = has_named machine c.args.t.0 c.args.next.0 c.requires.at step.types step.state step.stands step.right in
    record {
      kind = of_reference;
      has = has;
      room = room_for_one machine c.args.t.0 c.args.next.0 arraylength c.requires.at step.types step.state step.stands has.below has.value
          has.top.is (Int (cast_signed w32 c.element_count-count.result)) (some_places has.value);
    }

pub returns-in-Ref-clause-made : goal.returns-in-Ref-clause-made
returns-in-Ref-clause-made g c types state stands =
    let machine = machine_of g.H.ObjectHeap.heap c.args.parts.now in
    let t = c.args.t.0 in
    let next = c.args.next.0 in
    let step = c.requires.step in
    let has = has_named machine t next c.requires.at step.types step.state step.stands step.right in
    let value_is = sym (c.one_on_top.ensures has) ∙ c.in-Ref.is in
    let array = named_array machine t next c.requires.at step.types step.state step.stands has.below has.value has.top.is
    step.right c.in-Ref.address value_is in
    let words = ap length (words_are machine.heap c.in-Ref.address array.stored array.at.there) in
    let most = few_elements (classes_of machine.world step.types machine.versions) machine.heap step.state.heap step.stands.parts.heap
    c.in-Ref.address array in
    let few : c.element_count-count.result < 2 ^ 31 = omega (arith, c.element_count-count.ensures, words, most, c.requires.small) in
    let count : Int (cast_signed w32 c.element_count-count.result) ≡ Int (pos (length array.stored.contents)) =
    ap Int (to_z_pos w32 c.element_count-count.result few ∙ ap pos (c.element_count-count.ensures ∙ words)) in
    subst (λ (s : Threads). IsDone types t (record machine { stacks = s }) (deed_of state t))
    (sym (c.replace_one.ensures of_reference has
    ∙ ap (λ (v : Value). change_thread t (goes_to next (has.below ++ words_of v) false) machine.stacks) count))
    (counted_is_done machine t next c.requires.at types state stands has.below has.value has.top.is c.in-Ref.address array.stored value_is array.at)

pub returns-in_default : goal.returns-in_default
returns-in_default g c =
    let machine = machine_of g.H.ObjectHeap.heap c.args.parts.now in
    let t = c.args.t.0 in
    let next = c.args.next.0 in
    let step = c.requires.step in
    let has = has_named machine t next c.requires.at step.types step.state step.stands step.right in
    record {
      made = λ types state stands. (
        null_throws machine t next c.requires.at types state stands has.below has.value has.top.is
            (null_there has.value has.top.fits (λ address is. c.in_default.not-Ref address (c.one_on_top.ensures has ∙ is))),
        stands,
      );
      rest = refl;
    }
