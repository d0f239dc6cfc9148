use Rattle.std.proofs.Common.{◌≡◌, ◌++◌, length}
use Rattle.std.specs.Prelude.{option_map}
use Rattle.text_model.specs.Numerals.{hex_bytes}
use Rattle.asm_lines.proofs.hexadecimal.hex_bytes.Given as goal

-- the bytes so far, and the digits that are left
abbrev pub invariant-loop-left : goal.invariant-loop-left
invariant-loop-left l = option_map (λ more. l.bytes.items ++ more) (hex_bytes l.left) ≡ hex_bytes l.word

abbrev pub decreases-loop-left : goal.decreases-loop-left
decreases-loop-left l = length l.left
