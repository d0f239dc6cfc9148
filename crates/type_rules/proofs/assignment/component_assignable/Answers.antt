use Rattle.std.proofs.Common.{ℕ, sym, ap, ◌∙◌, arith}
use Rattle.typing_model.specs.Assignable.{component_assignable}
use Rattle.type_rules.specs.Types.{element_of, in_arrays}
use Rattle.type_rules.proofs.Components.{component_assignable-as_many, component_assignable-more, component_assignable-fewer, unequal}
use Rattle.type_rules.proofs.assignment.component_assignable.Goals as goal

pub returns-then-from-to : goal.returns-then-from-to
returns-then-from-to g c =
    let w = c.args.world.now in
    c.is_object.ensures
    ∙ sym (component_assignable-more w c.args.from.dimensions c.args.to.dimensions (element_of w c.args.from.element)
    c.args.to.element c.if-from-to.true)

pub returns-then-from-to-2 : goal.returns-then-from-to-2
returns-then-from-to-2 g c =
    let w = c.args.world.now in
    c.element_assignable.ensures
    ∙ sym (component_assignable-as_many w c.args.from.dimensions (element_of w c.args.from.element) (element_of w c.args.to.element))
    ∙ ap (λ (n : ℕ). component_assignable w (in_arrays c.args.from.dimensions (element_of w c.args.from.element)) (in_arrays n (element_of w c.args.to.element)))
    c.if-from-to-2.true

pub returns-else-from-to-2 : goal.returns-else-from-to-2
returns-else-from-to-2 g c =
    let w = c.args.world.now in
    unequal c.args.from.dimensions c.args.to.dimensions c.if-from-to-2.false
    ∙ sym (component_assignable-fewer w c.args.from.dimensions c.args.to.dimensions c.args.from.element
    (element_of w c.args.to.element) (omega (arith, c.if-from-to-2.false, c.if-from-to.false)))
