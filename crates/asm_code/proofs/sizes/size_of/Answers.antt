-- The switches.
use Rattle.std.proofs.Common.{◌≡◌, ◌+◌, ◌*◌, ◌-◌, ◌%◌, length, ap, sym, ◌∙◌}
use Rattle.std.proofs.lemmas.List.{length-map}
use Rattle.assembler_model.specs.InstructionBytes.{operation_bytes}
use Rattle.asm_lines.specs.Terms.{operation_of, row_of}
use Rattle.asm_lines.specs.Words.{texts}
use Rattle.asm_parts.specs.Pools.{entries_in}
use Rattle.asm_code.specs.Labels.{no_target}
use Rattle.asm_code.proofs.SizeLemmas.{table_length, lookup_length}
use Rattle.asm_code.proofs.sizes.size_of.Goals as goal

pub returns-in-TableSwitch-clause-size : goal.returns-in-TableSwitch-clause-size
returns-in-TableSwitch-clause-size c =
    let entries = entries_in c.args.pool.now in
    let pc = c.args.pc in
    let labels = c.in-TableSwitch.labels.items in
    c.table_size.ensures
    ∙ ap (λ count. 13 + (3 - pc % 4) + 4 * count) (c.len.ensures ∙ sym (length-map labels _))
    ∙ sym (table_length entries no_target pc _ (texts labels) _)
    ∙ ap (λ operation. length (operation_bytes entries no_target pc (operation_of operation))) (sym c.in-TableSwitch.is)

pub returns-in-LookupSwitch-clause-size : goal.returns-in-LookupSwitch-clause-size
returns-in-LookupSwitch-clause-size c =
    let entries = entries_in c.args.pool.now in
    let pc = c.args.pc in
    let rows = c.in-LookupSwitch.rows.items in
    c.lookup_size.ensures
    ∙ ap (λ count. 9 + (3 - pc % 4) + 8 * count) (c.len-in-LookupSwitch.ensures ∙ sym (length-map rows row_of))
    ∙ sym (lookup_length entries no_target pc _ _)
    ∙ ap (λ operation. length (operation_bytes entries no_target pc (operation_of operation))) (sym c.in-LookupSwitch.is)
