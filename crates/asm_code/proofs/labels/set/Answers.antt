-- It is set already, or comes behind the others.
use Rattle.std.proofs.Common.{◌≡◌, ◌∷◌, ◌++◌, [], true, false, None, Some, ap, sym, ◌∙◌, Option, ℕ, refl}
use Rattle.std.specs.Prelude.{is_some}
use Rattle.std.specs.Map.{lookup}
use Rattle.std.proofs.lemmas.List.{map-append}
use Rattle.indexmap.proofs.CallerLemmas.{insert_entry-new}
use Rattle.assembler_model.specs.CodeFaults.{LabelPlace, label_in}
use Rattle.asm_code.specs.Labels.{labels_in}
use Rattle.asm_code.proofs.LabelLemmas.{is_key, is_there, label_comes, label_stays, none_found}
use Rattle.asm_code.proofs.labels.set.Goals as goal

pub returns-then-contains_key : goal.returns-then-contains_key
returns-then-contains_key c =
    let entries = c.args.labels.now.entries in
    label_stays (labels_in entries) (record { label = c.args.label.now; pc = c.args.pc })
    (sym (is_there c.args.label.now entries) ∙ sym c.if-contains_key.ensures)

pub returns : goal.returns
returns c =
    let entries = c.args.labels.now.entries in
    let place : LabelPlace = record { label = c.args.label.now; pc = c.args.pc } in
    let none : lookup (is_key c.args.label.now) entries ≡ None = none_found c.args.label.now entries (sym c.if-contains_key.ensures) in
    ap labels_in (c.in_ok-insert.ensures.entries ∙ insert_entry-new _ c.args.labels.now c.args.label c.args.pc none)
    ∙ map-append _ entries ((c.args.label, c.args.pc) ∷ [])
    ∙ label_comes (labels_in entries) place (sym (is_there c.args.label.now entries) ∙ sym c.if-contains_key.ensures)
