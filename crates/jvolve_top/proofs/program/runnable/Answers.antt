use Rattle.std.proofs.Common.{sym, ap, ◌∙◌}
use Rattle.run_model.specs.Later.{unless_later}
use Rattle.class_loader.specs.Items.{classes_in}
use Rattle.straight_line.specs.Programs.{body_found}
use Rattle.jvolve_top.proofs.ProgramLemmas.{are_verified, program_found}
use Rattle.jvolve_top.proofs.program.runnable.Goals as goal

pub main_body-requires : goal.main_body-requires
main_body-requires c =
    rw c.as_slice.ensures (are_verified (classes_in c.args.verified.now.classes) c.requires)

pub returns-in-Some-clause-program : goal.returns-in-Some-clause-program
returns-in-Some-clause-program c =
    ap unless_later
    (program_found (classes_in c.args.verified.now.classes) c.args.verified.now.has_updates _
    c.if-verified.false
    (ap body_found (sym c.in-Some.is) ∙ rw c.as_slice.ensures at c.in_ok-body.ensures.body))

pub returns-in-None-clause-program : goal.returns-in-None-clause-program
returns-in-None-clause-program c =
    rw c.refused-in-None.ensures
    (ap unless_later
    (program_found (classes_in c.args.verified.now.classes) c.args.verified.now.has_updates _
    c.if-verified.false
    (ap body_found (sym c.in-None.is) ∙ rw c.as_slice.ensures at c.in_ok-body.ensures.body)))
