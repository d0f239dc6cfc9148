use Rattle.std.proofs.Common.{◌&&◌, sym, ◌∙◌}
use Rattle.typing_model.specs.MemberTypes.{is_own_field}
use Rattle.member_types.proofs.fields.goes_into_this.Goals as goal

pub returns-then-here : goal.returns-then-here
returns-then-here g c = λ e is operand isf.
    c.is_own_field.ensures e is operand isf
    ∙ (λ i. sym (is.constructor ∙ c.if-here.true) i && is_own_field e isf.member)
