use Rattle.std.proofs.Common.{ℕ, ℤ, Ok, Err, rules, ◌<◌, false, List, length, get_or, ap, sym, subst, ◌∙◌, inl, inr}
use Rattle.std.specs.Prelude.{FitsSigned}
use Rattle.std.specs.Int.{w32}
use Rattle.std.proofs.lemmas.Option.{slice_get-get_or}
use Rattle.jv_model.specs.Instruction.{of_int, of_reference}
use Rattle.jv_types.specs.Instruction.{element_kind_of}
use Rattle.machine_model.specs.ArraySteps.{kind_of_elements}
use Rattle.machine_model.specs.Deed.{throws}
use Rattle.machine_model.specs.SharedStep.{deed_of}
use Rattle.jv_values.specs.declared.value.Value.{Value}
use Rattle.jv_values.specs.Values.{value_of}
use Rattle.frame_stacks.specs.Threads.{Threads, change_thread}
use Rattle.heap_face.specs.declared.layout.Cell.{Cell}
use Rattle.heap_face.specs.Heap.{HeapState, with_word}
use Rattle.heap_objects.specs.Words.{value_in, cell_of_kind, IsOfCell}
use Rattle.machine_threads.specs.Laws.{goes_to}
use Rattle.machine_parts.specs.Parts.{machine_of}
use Rattle.machine_parts.specs.Steps.{IsDone}
use Rattle.machine_throws.specs.declared.outcome.Throwable.{Throwable}
use Rattle.machine_throws.specs.Names.{name_of}
use Rattle.element_steps.specs.Arrays.{IsArrayOrNull, IsFound, narrowed_to, word_at}
use Rattle.element_steps.proofs.Arrays.{words_are}
use Rattle.element_steps.proofs.Finding.{int_kept, found_at, found_none, word_found, or_null}
use Rattle.element_steps.proofs.Storing.{by_kind, goes_in, has_stored, null_throws, stored_array, outside_throws, stored_is_done}
use Rattle.element_steps.proofs.store.store_element.Goals as goal

pub array_index_and_value-array-requires : goal.array_index_and_value-array-requires
array_index_and_value-array-requires g c =
    let machine = machine_of g.H.ObjectHeap.heap c.args.parts.now in
    let step = c.requires.step in
    by_kind _ c.value_kind.ensures
    (has_stored machine c.args.t.0 c.args.next.0 (element_kind_of c.args.kind) c.requires.at step.types step.state step.stands step.right)

pub find_element-requires : goal.find_element-requires
find_element-requires g c =
    let machine = machine_of g.H.ObjectHeap.heap c.args.parts.now in
    let kind = element_kind_of c.args.kind in
    let step = c.requires.step in
    let has = has_stored machine c.args.t.0 c.args.next.0 kind c.requires.at step.types step.state step.stands step.right in
    let read = c.array_index_and_value-array in
    let same = by_kind _ c.value_kind.ensures has in
    subst (IsArrayOrNull machine.heap) (read.ensures.array same)
    (or_null machine.heap has.first has.last.fits
    (stored_array machine c.args.t.0 c.args.next.0 kind c.requires.at step.types step.state step.stands has.above has.between has.below
    has.first has.second has.third read.result.1 has.top.is has.next.is has.last.is (read.ensures.index same) c.requires.whole has.top.fits step.right))

pub word_of-word-requires : goal.word_of-word-requires
word_of-word-requires g c =
    let machine = machine_of g.H.ObjectHeap.heap c.args.parts.now in
    let kind = element_kind_of c.args.kind in
    let step = c.requires.step in
    let has = has_stored machine c.args.t.0 c.args.next.0 kind c.requires.at step.types step.state step.stands step.right in
    let narrow = ap (narrowed_to kind) (c.array_index_and_value-array.ensures.value (by_kind _ c.value_kind.ensures has)) ∙ c.narrowed.ensures in
    subst (λ (cell : Cell). IsOfCell cell (value_of c.narrowed.result)) (sym c.cell.ensures)
    (subst (λ (v : Value). IsOfCell (cell_of_kind (kind_of_elements kind)) (value_of v)) narrow (goes_in kind has.third c.requires.whole has.top.fits))

pub take_three-requires : goal.take_three-requires
take_three-requires g c =
    let machine = machine_of g.H.ObjectHeap.heap c.args.parts.now in
    let kind = element_kind_of c.args.kind in
    let step = c.requires.step in (
      of_reference,
      of_int,
      kind_of_elements kind,
      has_stored machine c.args.t.0 c.args.next.0 kind c.requires.at step.types step.state step.stands step.right,
    )

pub returns-in-Ok-clause-made : goal.returns-in-Ok-clause-made
returns-in-Ok-clause-made g c types state stands =
    let machine = machine_of g.H.ObjectHeap.heap c.args.parts.now in
    let t = c.args.t.0 in
    let next = c.args.next.0 in
    let kind = element_kind_of c.args.kind in
    let step = c.requires.step in
    let has = has_stored machine t next kind c.requires.at step.types step.state step.stands step.right in
    let read = c.array_index_and_value-array in
    let same = by_kind _ c.value_kind.ensures has in
    let element = c.in-Ok.element in
    let word = c.word_of-word.result in
    let fits : FitsSigned w32 read.result.1 = search rules in
    let found = found_at machine.heap read.result.0 read.result.1 element
    (subst (λ (n : ℤ). IsFound machine.heap read.result.0 n (Ok element)) (int_kept read.result.1 fits) c.in-Ok.ensures) in
    let first_is = read.ensures.array same ∙ found.is in
    let second_is = read.ensures.index same in
    let array = stored_array machine t next kind c.requires.at step.types step.state step.stands has.above has.between has.below
    has.first has.second has.third read.result.1 has.top.is has.next.is has.last.is second_is c.requires.whole has.top.fits step.right
    found.address first_is in
    let within = subst (λ (words : List ℕ). element.index < length words) (words_are machine.heap found.address array.stored array.at.there)
    found.element_is.within in
    let narrow = ap (narrowed_to kind) (read.ensures.value same) ∙ c.narrowed.ensures in
    let heap = c.put.ensures ∙ ap (λ (n : ℕ). with_word (record { 0 = n }) element.index word machine.heap) found.element_is.array in
    subst (λ (s : Threads). IsDone types t (record machine { heap = g.H.ObjectHeap.heap c.put.new.self; stacks = s }) (deed_of state t))
    (sym (c.take_three.ensures of_reference of_int (kind_of_elements kind) has))
    (subst (λ (h : HeapState). IsDone types t (record machine { heap = h; stacks = change_thread t (goes_to next has.below false) machine.stacks }) (deed_of state t))
    (sym heap)
    (stored_is_done machine t next kind c.requires.at types state stands has.above has.between has.below has.first has.second has.third
    read.result.1 has.top.is has.next.is has.last.is second_is c.requires.whole has.top.fits found.address array.stored
    (get_or array.stored.contents element.index 0) word element.index first_is array.at
    (word_found array.stored.contents read.result.1 element.index (get_or array.stored.contents element.index 0)
    found.element_is.place found.element_is.some (slice_get-get_or array.stored.contents element.index 0 within))
    found.element_is.place
    (ap (λ (cell : Cell). value_in cell word) (sym c.cell.ensures) ∙ c.word_of-word.ensures ∙ ap value_of (sym narrow))))

pub returns-in-Err-clause-made : goal.returns-in-Err-clause-made
returns-in-Err-clause-made g c types state stands =
    let machine = machine_of g.H.ObjectHeap.heap c.args.parts.now in
    let t = c.args.t.0 in
    let next = c.args.next.0 in
    let kind = element_kind_of c.args.kind in
    let step = c.requires.step in
    let has = has_stored machine t next kind c.requires.at step.types step.state step.stands step.right in
    let read = c.array_index_and_value-array in
    let same = by_kind _ c.value_kind.ensures has in
    let second_is = read.ensures.index same in
    let fits : FitsSigned w32 read.result.1 = search rules in
    elim (found_none machine.heap read.result.0 read.result.1 c.in-Err.thrown
    (subst (λ (n : ℤ). IsFound machine.heap read.result.0 n (Err c.in-Err.thrown)) (int_kept read.result.1 fits) c.in-Err.ensures)) [
      | inl null ↦ (
        null_throws machine t next kind c.requires.at types state stands has.above has.between has.below has.first has.second has.third
            read.result.1 has.top.is has.next.is has.last.is second_is c.requires.whole has.top.fits (read.ensures.array same ∙ null.0)
            ∙ ap (λ (what : Throwable). throws (name_of what) false) (sym null.1),
        stands,
      )
      | inr out ↦
          let first_is = read.ensures.array same ∙ out.is in
          let array = stored_array machine t next kind c.requires.at step.types step.state step.stands has.above has.between has.below
          has.first has.second has.third read.result.1 has.top.is has.next.is has.last.is second_is c.requires.whole has.top.fits step.right
          out.address first_is in (
            outside_throws machine t next kind c.requires.at types state stands has.above has.between has.below has.first has.second has.third
                read.result.1 has.top.is has.next.is has.last.is second_is c.requires.whole has.top.fits out.address array.stored first_is array.at
                (ap (λ (words : List ℕ). word_at words read.result.1) (sym (words_are machine.heap out.address array.stored array.at.there)) ∙ out.none)
                ∙ ap (λ (what : Throwable). throws (name_of what) false) (sym out.what),
            stands,
          )
    ]
