-- What is wrong with the first line.
use Rattle.std.proofs.Common.{ap, sym, ◌∙◌}
use Rattle.jv_model.specs.Lines.{lines_of, words_of}
use Rattle.jv_types.specs.Lines.{line_view}
use Rattle.assembler_model.specs.AssembledClass.{is_head}
use Rattle.class_asm.specs.Assembles.{head_fault}
use Rattle.class_asm.proofs.HeadLemmas.{head_no_head, head_no_text}
use Rattle.class_asm.proofs.head.read_head.Goals as goal

pub returns-in_default : goal.returns-in_default
returns-in_default c =
    ap head_fault c.split_line.ensures.line
    ∙ head_no_text (line_view c.split_line.result.0) (lines_of c.split_line.result.1.now) c.in_default.ensures

pub returns-in-None : goal.returns-in-None
returns-in-None c =
    ap head_fault c.split_line.ensures.line
    ∙ head_no_head (line_view c.split_line.result.0) (lines_of c.split_line.result.1.now) c.in-Some.ensures.0
    (ap (λ head. is_head (words_of head)) (sym c.in-Some.ensures.1) ∙ c.in-None.ensures)
