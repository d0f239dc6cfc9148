use Rattle.std.proofs.Common.{ap, sym, ◌∙◌, rules}
use Rattle.jv_model.specs.Instruction.{of_int}
use Rattle.machine_model.specs.Value.{is_of_kind}
use Rattle.jv_values.specs.declared.value.Value.{Value}
use Rattle.jv_values.specs.Values.{value_of}
use Rattle.element_steps.proofs.Finding.{kept}
use Rattle.element_steps.proofs.load.array_and_index.Goals as goal

pub as_int-requires : goal.as_int-requires
as_int-requires c =
    let has = c.requires in
    ap (λ (v : Value). is_of_kind of_int (value_of v)) (c.two_on_top-array.ensures.second has) ∙ has.top.fits

pub returns-clause-array : goal.returns-clause-array
returns-clause-array c has = sym (c.two_on_top-array.ensures.first has)

pub returns-clause-index : goal.returns-clause-index
returns-clause-index c has = sym (c.two_on_top-array.ensures.second has) ∙ c.as_int.ensures ∙ kept c.as_int.result (search rules)
