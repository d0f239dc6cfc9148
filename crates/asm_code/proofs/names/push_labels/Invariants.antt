use Rattle.std.proofs.Common.{◌≡◌, ◌++◌, take}
use Rattle.asm_lines.specs.Words.{texts}
use Rattle.asm_code.proofs.names.push_labels.Given as goal

-- the labels so far
abbrev pub invariant-loop-label : goal.invariant-loop-label
invariant-loop-label l = texts l.names.items ≡ texts l.fn.names.items ++ texts (take l.label-index l.labels)
