use Rattle.std.proofs.Common.{arith}
use Rattle.class_reader.proofs.Clauses.{is_found, is_read, is_early}
use Rattle.class_reader.proofs.class_file.read_class.Goals as goal

pub returns-clause-found : goal.returns-clause-found
returns-clause-found c = is_found c.args.bytes.now c.read_whole.result
    (λ i. omega (arith, c.type_inv.bytes i)) c.read_whole.ensures.file

pub returns-clause-only : goal.returns-clause-only
returns-clause-only c = λ file spells short.
    is_read c.args.bytes.now c.read_whole.result file spells short c.read_whole.ensures.file

pub returns-clause-early : goal.returns-clause-early
returns-clause-early c = λ cause refused.
    is_early c.args.bytes.now c.read_whole.result cause c.read_whole.ensures.file
    (c.read_whole.ensures.early cause) refused
