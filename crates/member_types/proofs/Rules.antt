-- Rules that begin with the member that an operand names.
use Rattle.std.proofs.Common.{◌≡◌, Option, Some, None, ap, ◌∙◌}
use Rattle.jv_model.specs.Partial.{◌>>=◌}
use Rattle.jv_model.specs.Operand.{Operand, MemberReference}
use Rattle.typing_model.specs.VerificationType.{VerificationType, TypeFrame}
use Rattle.typing_model.specs.Environment.{member_of}
use Rattle.typing_model.specs.MemberTypes.{type_of_field}

module _ (rule : MemberReference → VerificationType → Option TypeFrame) where
  of_field : Option MemberReference → Option TypeFrame
  of_field member = member >>= λ field. (type_of_field field >>= rule field)

  of_type : MemberReference → Option VerificationType → Option TypeFrame
  of_type field type = type >>= rule field

  pub field-none : (operand : Operand) → member_of operand ≡ None
      → (member_of operand >>= λ field. (type_of_field field >>= rule field)) ≡ None
  unfolding of_field
  field-none operand none = ap of_field none

  pub field-rule : (operand : Operand) (field : MemberReference) (type : VerificationType) → member_of operand ≡ Some field
      → type_of_field field ≡ Some type
      → (member_of operand >>= λ field. (type_of_field field >>= rule field)) ≡ rule field type
  unfolding of_field of_type
  field-rule operand field type is typed = ap of_field is ∙ ap (of_type field) typed

module _ (rule : MemberReference → Option TypeFrame) where
  of_member : Option MemberReference → Option TypeFrame
  of_member member = member >>= rule

  pub member-rule : (operand : Operand) (member : MemberReference) → member_of operand ≡ Some member
      → (member_of operand >>= rule) ≡ rule member
  unfolding of_member
  member-rule operand member is = ap of_member is
