use Rattle.std.proofs.Common.{length, ap, sym, ◌∙◌}
use Rattle.code_marks.specs.Marks.{methods_in}
use Rattle.code_marks.proofs.Codes.{count_boot, count_read}
use Rattle.code_marks.proofs.class_codes.method_count.Goals as goal

pub returns-in-Boot : goal.returns-in-Boot
returns-in-Boot c = c.len.ensures ∙ count_boot c.in-Boot.class ∙ ap (λ o. length (methods_in o)) (sym c.in-Boot.is)

pub returns-in-Program : goal.returns-in-Program
returns-in-Program c =
    c.len-in-Program.ensures ∙ count_read c.in-Program.loaded ∙ ap (λ o. length (methods_in o)) (sym c.in-Program.is)
