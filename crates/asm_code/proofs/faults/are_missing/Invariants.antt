use Rattle.std.proofs.Common.{◌≡◌, drop}
use Rattle.std.specs.Prelude.{is_none}
use Rattle.std.specs.List.{list_any}
use Rattle.assembler_model.specs.CodeFaults.{label_in}
use Rattle.asm_lines.specs.Words.{texts}
use Rattle.asm_code.specs.Labels.{labels_in}
use Rattle.asm_code.proofs.faults.are_missing.Given as goal

-- one of those that are left isn't set
abbrev pub invariant-loop-name : goal.invariant-loop-name
invariant-loop-name l =
    list_any (λ label. is_none (label_in (labels_in l.labels.entries) label)) (texts (drop l.name-index l.names))
    ≡ list_any (λ label. is_none (label_in (labels_in l.labels.entries) label)) (texts l.names)
