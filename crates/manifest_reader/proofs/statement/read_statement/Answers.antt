-- A statement, or its first fault.
use Rattle.std.proofs.Common.{◌≡◌, ◌+◌, length, refl, sym, arith}
use Rattle.jv_model.specs.Lines.{lines_of}
use Rattle.jv_types.specs.Lines.{line_view}
use Rattle.manifest_reader.proofs.StatementLemmas.{admit_error, block_error, read_is}
use Rattle.manifest_reader.proofs.statement.read_statement.Goals as goal

pub returns-in_err-block-clause-statement : goal.returns-in_err-block-clause-statement
returns-in_err-block-clause-statement c = λ before seen.
    block_error (c.args.last + length (lines_of c.args.text.now)) before c.args.seen.now c.args.last c.args.text.now
    (line_view c.split_line.result.0) c.split_line.result.1.now c.in-Ok.admitted c.in_err-block.field-0.0 c.from_residual.result
    c.from_residual.ensures.1 refl c.split_line.ensures.line (c.in-Ok.ensures before seen) c.in_err-block.ensures.block

pub returns-clause-statement : goal.returns-clause-statement
returns-clause-statement c = λ before seen.
    read_is (c.args.last + length (lines_of c.args.text.now)) before c.args.seen.now c.args.last c.args.text.now
    (line_view c.split_line.result.0) c.split_line.result.1.now c.in-Ok.admitted c.in_ok-block.block
    (record { seen = c.in-Ok.admitted.seen; item = c.item_of.result; last = c.in_ok-block.block.last; left = c.in_ok-block.block.left })
    refl c.split_line.ensures.line (c.in-Ok.ensures before seen) c.in_ok-block.ensures.block refl refl refl c.item_of.ensures
