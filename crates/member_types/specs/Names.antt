-- Which reference of the definitions a `MemberName` is.
use Rattle.jv_model.specs.Operand.{MemberReference}
use Rattle.member_types.specs.declared.names.MemberName.{MemberName}

abbrev pub reference_of : MemberName → MemberReference
reference_of member = record { class = member.class.now; name = member.name.now; descriptor = member.descriptor.now }
