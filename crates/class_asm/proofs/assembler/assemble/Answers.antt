-- A first line that is wrong, and one that is right.
use Rattle.std.proofs.Common.{Result, subst}
use Rattle.jv_model.specs.ClassData.{ClassData}
use Rattle.text_model.specs.LineFaults.{Fault}
use Rattle.class_asm.specs.Assembles.{Assembles}
use Rattle.class_asm.proofs.ClassLemmas.{is_in_profile}
use Rattle.class_asm.proofs.HeadLemmas.{none_early, right_is, tells_head}
use Rattle.class_asm.proofs.assembler.assemble.Goals as goal

pub returns-in_err-head-clause-class : goal.returns-in_err-head-clause-class
returns-in_err-head-clause-class c =
    tells_head c.args.text.now c.in_err-head.field-0.0 c.from_residual.result c.from_residual.ensures.1 c.in_err-head.ensures

pub returns-clause-class : goal.returns-clause-class
returns-clause-class c =
    subst (λ (said : Result ClassData Fault). Assembles c.assemble_behind.result said)
    (right_is c.args.text.now c.in_ok-head.head c.in_ok-head.ensures) c.assemble_behind.ensures

pub returns-clause-profile : goal.returns-clause-profile
returns-clause-profile c =
    is_in_profile c.args.text.now c.assemble_behind.result
    (subst (λ (said : Result ClassData Fault). Assembles c.assemble_behind.result said)
    (right_is c.args.text.now c.in_ok-head.head c.in_ok-head.ensures) c.assemble_behind.ensures)

pub returns-clause-early : goal.returns-clause-early
returns-clause-early c = λ fault told. absurd (none_early c.args.text.now c.in_ok-head.head fault c.in_ok-head.ensures told)
