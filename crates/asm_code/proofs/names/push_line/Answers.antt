-- The labels of both lists of a frame.
use Rattle.std.proofs.Common.{◌≡◌, ◌++◌, Ok, map, refl, ap, sym, ◌∙◌, append_assoc}
use Rattle.std.proofs.lemmas.Result.{IfOk-equal}
use Rattle.assembler_model.specs.CodeFaults.{named_labels}
use Rattle.asm_lines.specs.Terms.{line_of, type_of}
use Rattle.asm_lines.specs.Words.{texts}
use Rattle.asm_code.specs.Names.{type_labels}
use Rattle.asm_code.proofs.NameLemmas.{both_lists}
use Rattle.asm_code.proofs.names.push_line.Goals as goal

pub returns-in_ok-push_types-in-Frame : goal.returns-in_ok-push_types-in-Frame
returns-in_ok-push_types-in-Frame c =
    let old = texts c.args.names.now.items in
    let locals = c.in-Frame.locals.items in
    let stack = c.in-Frame.stack.items in
    IfOk-equal c.push_types-in-Frame.result _ _ _ c.push_types-in-Frame.ensures
    (ap (λ names. names ++ type_labels c.as_slice-in-Frame.result.now) c.in_ok-push_types-in-Frame.ensures
    ∙ append_assoc old (type_labels c.as_slice.result.now) (type_labels c.as_slice-in-Frame.result.now)
    ∙ ap (λ types. old ++ (type_labels types ++ type_labels c.as_slice-in-Frame.result.now)) c.as_slice.ensures
    ∙ ap (λ types. old ++ (type_labels locals ++ type_labels types)) c.as_slice-in-Frame.ensures
    ∙ ap (λ labels. old ++ labels) (both_lists (map type_of locals) (map type_of stack))
    ∙ ap (λ said. old ++ named_labels (Ok (line_of said))) (sym c.in-Frame.is))
