use Rattle.std.proofs.Common.{◌≡◌, length, slice_get, option_and_then, ap, sym, ◌∙◌, arith}
use Rattle.std.proofs.lemmas.List.Quantifiers.{position-Some}
use Rattle.class_names.specs.Distinct.{same_signature}
use Rattle.selection_table.specs.Selection.{Selection, selected_in}
use Rattle.selection_table.proofs.Firsts.{at_place}
use Rattle.selection_table.proofs.table.SelectionTable.find.Goals as goal

pub get-requires : goal.get-requires
get-requires c =
    let inside = position-Some (same_signature c.args.signature) c.self.inside.signatures c.in_ok-number.number c.args.signature (sym c.in_ok-number.ensures.number) in
    omega (arith, inside.0, c.self.invariant)

pub returns : goal.returns
returns c =
    let it = c.self.inside in
    sym c.get.ensures ∙ ap (option_and_then (slice_get it.methods.items)) c.in_ok-number.ensures.number
    ∙ at_place it.signatures it.methods.items c.args.signature c.self.invariant
    ∙ ap (λ (t : Selection). selected_in t c.args.signature) c.self.view_is

pub returns-in_err-number : goal.returns-in_err-number
returns-in_err-number c =
    let it = c.self.inside in
    c.from_residual.ensures ∙ ap (option_and_then (slice_get it.methods.items)) c.in_err-number.ensures.number
    ∙ at_place it.signatures it.methods.items c.args.signature c.self.invariant
    ∙ ap (λ (t : Selection). selected_in t c.args.signature) c.self.view_is
