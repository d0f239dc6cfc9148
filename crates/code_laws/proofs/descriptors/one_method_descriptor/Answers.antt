use Rattle.code_laws.proofs.MethodDescriptors as laws
use Rattle.code_laws.proofs.descriptors.one_method_descriptor.Goals as goal

pub returns : goal.returns
returns c = laws.one_method_descriptor
