use Rattle.std.proofs.Common.{◌||◌, sym, subst, ◌∙◌, ap}
use Rattle.typing_model.specs.VerificationType.{array}
use Rattle.typing_model.specs.Assignable.{operand_assignable}
use Rattle.type_rules.specs.declared.types.FieldType.{FieldType}
use Rattle.type_rules.specs.Types.{type_of, field_type_of, IsKnownElement}
use Rattle.instruction_types.proofs.Tests.{component-known, array_of_kind, is_booleans, not_booleans}
use Rattle.instruction_types.proofs.operands.is_array_of.Goals as goal

pub operand_assignable-requires-clause-to : goal.operand_assignable-requires-clause-to
operand_assignable-requires-clause-to g c =
    subst (λ (t : FieldType). IsKnownElement c.args.world.now t.element) (sym c.component.ensures)
    (component-known c.args.world.now c.args.here.now c.requires.here.object c.args.kind)

pub returns-then-operand_assignable : goal.returns-then-operand_assignable
returns-then-operand_assignable g c = λ e same.
    let w = c.args.world.now in
    let type = type_of w c.args.operand in
    let takes = sym c.if-operand_assignable.true ∙ c.operand_assignable.ensures
    ∙ ap (λ (k : FieldType). operand_assignable w type (array (field_type_of w k))) c.component.ensures in
    (λ i. takes i || is_booleans w c.args.kind type) ∙ array_of_kind w c.args.here.now c.requires.here.object e same c.args.kind type

pub returns-in_default : goal.returns-in_default
returns-in_default g c = λ e same.
    let w = c.args.world.now in
    let type = type_of w c.args.operand in
    let takes = sym c.if-operand_assignable.false ∙ c.operand_assignable.ensures
    ∙ ap (λ (k : FieldType). operand_assignable w type (array (field_type_of w k))) c.component.ensures in
    let none = sym (not_booleans w c.args.kind type c.in_default.not-Byte) in
    (λ i. takes i || none i) ∙ array_of_kind w c.args.here.now c.requires.here.object e same c.args.kind type
