use Rattle.std.proofs.Common.{◌≡◌, ◌++◌, take}
use Rattle.asm_lines.specs.Words.{texts}
use Rattle.asm_code.specs.Names.{type_labels}
use Rattle.asm_code.proofs.names.push_types.Given as goal

-- the types so far
abbrev pub invariant-loop-kind : goal.invariant-loop-kind
invariant-loop-kind l = texts l.names.items ≡ texts l.fn.names.items ++ type_labels (take l.kind-index l.types)
