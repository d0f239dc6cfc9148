use Rattle.std.proofs.Common.{◌∙◌, ap, option_map}
use Rattle.code_reader.specs.Format.{format_of}
use Rattle.code_reader.proofs.Table.{in_table}
use Rattle.code_reader.proofs.opcode.format_of.Goals as goal

pub returns : goal.returns
returns c = ap (option_map format_of) c.row.ensures ∙ in_table c.args.opcode
