use Rattle.code_laws.proofs.OneOpcode as laws
use Rattle.code_laws.proofs.code.one_opcode.Goals as goal

pub returns : goal.returns
returns c = laws.one_opcode
