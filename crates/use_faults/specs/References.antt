-- Which member reference of the definitions a `MemberReference` is.
use Rattle.jv_model.specs.Operand as model
use Rattle.use_faults.specs.declared.references.MemberReference.{MemberReference}

abbrev pub reference_of : MemberReference → model.MemberReference
reference_of reference = record {
  class = reference.class.now;
  name = reference.name.now;
  descriptor = reference.descriptor.now;
}
