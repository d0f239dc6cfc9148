use Rattle.std.proofs.Common.{ℕ, ℤ, Ok, Err, rules, false, List, ap, sym, subst, ◌∙◌, arith, inl, inr}
use Rattle.std.specs.Prelude.{slice_get, FitsSigned}
use Rattle.std.specs.Int.{w32}
use Rattle.jv_model.specs.Instruction.{of_int, of_reference, array_load}
use Rattle.jv_types.specs.Instruction.{element_kind_of}
use Rattle.machine_model.specs.Deed.{throws}
use Rattle.machine_model.specs.SharedStep.{deed_of}
use Rattle.thread_frames.proofs.TopLemmas.{few_places}
use Rattle.frame_stacks.specs.Threads.{Threads}
use Rattle.heap_face.specs.declared.layout.Cell.{Cell}
use Rattle.heap_objects.specs.Words.{value_in}
use Rattle.machine_parts.specs.Parts.{machine_of}
use Rattle.machine_parts.specs.Steps.{IsDone}
use Rattle.machine_throws.specs.declared.outcome.Throwable.{Throwable}
use Rattle.machine_throws.specs.Names.{name_of}
use Rattle.machine_throws.proofs.Replacing.{room_for_two}
use Rattle.element_steps.specs.Arrays.{IsArrayOrNull, IsFound, word_at, words_of_array}
use Rattle.element_steps.proofs.Arrays.{words_are}
use Rattle.element_steps.proofs.Finding.{int_kept, found_at, found_none, word_found, or_null, some_places}
use Rattle.element_steps.proofs.Loading.{has_indexed, null_throws, loaded_array, outside_throws, loaded_is_done}
use Rattle.element_steps.proofs.load.load_element.Goals as goal

pub array_and_index-array-requires : goal.array_and_index-array-requires
array_and_index-array-requires g c =
    let machine = machine_of g.H.ObjectHeap.heap c.args.parts.now in
    let step = c.requires.step in
    has_indexed machine c.args.t.0 c.args.next.0 (element_kind_of c.args.kind) c.requires.at step.types step.state step.stands step.right

pub find_element-requires : goal.find_element-requires
find_element-requires g c =
    let machine = machine_of g.H.ObjectHeap.heap c.args.parts.now in
    let kind = element_kind_of c.args.kind in
    let step = c.requires.step in
    let has = has_indexed machine c.args.t.0 c.args.next.0 kind c.requires.at step.types step.state step.stands step.right in
    let read = c.array_and_index-array in
    subst (IsArrayOrNull machine.heap) (read.ensures.array has)
    (or_null machine.heap has.first has.next.fits
    (loaded_array machine c.args.t.0 c.args.next.0 kind c.requires.at step.types step.state step.stands has.between has.below has.first has.second
    read.result.1 has.top.is has.next.is (read.ensures.index has) step.right))

pub replace_two-requires : goal.replace_two-requires
replace_two-requires g c =
    let machine = machine_of g.H.ObjectHeap.heap c.args.parts.now in
    let kind = element_kind_of c.args.kind in
    let step = c.requires.step in
    let has = has_indexed machine c.args.t.0 c.args.next.0 kind c.requires.at step.types step.state step.stands step.right in
    record {
      lower = of_reference;
      upper = of_int;
      has = has;
      room = room_for_two machine c.args.t.0 c.args.next.0 (array_load kind) c.requires.at step.types step.state step.stands
          has.between has.below has.first has.second has.top.is has.next.is c.value_in.result
          (omega (arith, few_places c.value_in.result, some_places has.first, some_places has.second));
    }

pub returns-in-Ok-clause-made : goal.returns-in-Ok-clause-made
returns-in-Ok-clause-made g c types state stands =
    let machine = machine_of g.H.ObjectHeap.heap c.args.parts.now in
    let t = c.args.t.0 in
    let next = c.args.next.0 in
    let kind = element_kind_of c.args.kind in
    let step = c.requires.step in
    let has = has_indexed machine t next kind c.requires.at step.types step.state step.stands step.right in
    let read = c.array_and_index-array in
    let element = c.in-Ok.element in
    let fits : FitsSigned w32 read.result.1 = search rules in
    let found = found_at machine.heap read.result.0 read.result.1 element
    (subst (λ (n : ℤ). IsFound machine.heap read.result.0 n (Ok element)) (int_kept read.result.1 fits) c.in-Ok.ensures) in
    let first_is = read.ensures.array has ∙ found.is in
    let second_is = read.ensures.index has in
    let array = loaded_array machine t next kind c.requires.at step.types step.state step.stands has.between has.below has.first has.second
    read.result.1 has.top.is has.next.is second_is step.right found.address first_is in
    let contents = ap (words_of_array machine.heap) found.element_is.array ∙ words_are machine.heap found.address array.stored array.at.there in
    let there = ap (λ (words : List ℕ). slice_get words element.index) (sym contents) ∙ c.get-word.ensures in
    subst (λ (s : Threads). IsDone types t (record machine { stacks = s }) (deed_of state t)) (sym (c.replace_two.ensures of_reference of_int has))
    (loaded_is_done machine t next kind c.requires.at types state stands has.between has.below has.first has.second read.result.1
    has.top.is has.next.is second_is found.address array.stored c.get-word.result element.index c.value_in.result first_is array.at
    (word_found array.stored.contents read.result.1 element.index c.get-word.result found.element_is.place found.element_is.some there) there
    (c.value_in.ensures ∙ ap (λ (cell : Cell). value_in cell c.get-word.result) c.cell.ensures))

pub returns-in-Err-clause-made : goal.returns-in-Err-clause-made
returns-in-Err-clause-made g c types state stands =
    let machine = machine_of g.H.ObjectHeap.heap c.args.parts.now in
    let t = c.args.t.0 in
    let next = c.args.next.0 in
    let kind = element_kind_of c.args.kind in
    let step = c.requires.step in
    let has = has_indexed machine t next kind c.requires.at step.types step.state step.stands step.right in
    let read = c.array_and_index-array in
    let second_is = read.ensures.index has in
    let fits : FitsSigned w32 read.result.1 = search rules in
    elim (found_none machine.heap read.result.0 read.result.1 c.in-Err.thrown
    (subst (λ (n : ℤ). IsFound machine.heap read.result.0 n (Err c.in-Err.thrown)) (int_kept read.result.1 fits) c.in-Err.ensures)) [
      | inl null ↦ (
        null_throws machine t next kind c.requires.at types state stands has.between has.below has.first has.second read.result.1
            has.top.is has.next.is second_is (read.ensures.array has ∙ null.0)
            ∙ ap (λ (what : Throwable). throws (name_of what) false) (sym null.1),
        stands,
      )
      | inr out ↦
          let first_is = read.ensures.array has ∙ out.is in
          let array = loaded_array machine t next kind c.requires.at step.types step.state step.stands has.between has.below has.first has.second
          read.result.1 has.top.is has.next.is second_is step.right out.address first_is in (
            outside_throws machine t next kind c.requires.at types state stands has.between has.below has.first has.second read.result.1
                has.top.is has.next.is second_is out.address array.stored first_is array.at
                (ap (λ (words : List ℕ). word_at words read.result.1) (sym (words_are machine.heap out.address array.stored array.at.there)) ∙ out.none)
                ∙ ap (λ (what : Throwable). throws (name_of what) false) (sym out.what),
            stands,
          )
    ]
