-- A line that is no text, one that is faulty by itself, and one that is faulty behind the others.
use Rattle.std.proofs.Common.{◌≡◌, true, sym}
use Rattle.text_model.specs.LineFaults.{is_text}
use Rattle.jv_types.specs.Lines.{line_view}
use Rattle.jv_types.specs.Refusal.{line_kind_of}
use Rattle.manifest_reader.specs.Items.{line_of}
use Rattle.manifest_reader.proofs.StatementLemmas.{alone_told, behind_at, no_text_at}
use Rattle.manifest_reader.proofs.statement.admit.Goals as goal

pub returns-in_default : goal.returns-in_default
returns-in_default c = λ before seen. no_text_at before (line_view c.args.line) c.in_default.ensures

pub returns-in_err-said : goal.returns-in_err-said
returns-in_err-said c = λ before seen.
    alone_told before c.args.seen (line_view c.args.line) c.in_err-said.field-0.0 c.from_residual.result
    c.from_residual.ensures.1 c.in-Some.ensures.0 (rw c.in-Some.ensures.1 at c.in_err-said.ensures)

pub returns-in-Err : goal.returns-in-Err
returns-in-Err c = λ before seen.
    behind_at before (line_view c.args.line) (line_of c.in_ok-said.said) (line_kind_of c.in-Err.kind) c.in-Some.ensures.0
    (rw c.in-Some.ensures.1 at c.in_ok-said.ensures) (c.in-Err.ensures before seen)
