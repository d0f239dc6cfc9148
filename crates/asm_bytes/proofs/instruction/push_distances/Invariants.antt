use Rattle.std.proofs.Common.{◌≡◌, ◌++◌, take}
use Rattle.std.specs.Prelude.{flat_map}
use Rattle.assembler_model.specs.CodeFaults.{target_in}
use Rattle.assembler_model.specs.InstructionBytes.{distance, s4}
use Rattle.asm_lines.specs.Words.{texts}
use Rattle.asm_code.specs.Labels.{labels_in}
use Rattle.asm_bytes.proofs.instruction.push_distances.Given as goal

-- the distances so far
abbrev pub invariant-loop-name : goal.invariant-loop-name
invariant-loop-name l = l.bytes.items ≡ l.fn.bytes.items
    ++ flat_map (λ label. s4 (distance l.pc (target_in (labels_in l.labels.entries) label))) (texts (take l.name-index l.names))
