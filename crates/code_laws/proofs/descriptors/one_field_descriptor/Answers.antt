use Rattle.code_laws.proofs.FieldDescriptors as laws
use Rattle.code_laws.proofs.descriptors.one_field_descriptor.Goals as goal

pub returns : goal.returns
returns c = laws.one_field_descriptor
