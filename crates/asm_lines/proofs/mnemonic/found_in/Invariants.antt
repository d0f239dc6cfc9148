use Rattle.std.proofs.Common.{◌≡◌, drop, map}
use Rattle.std.specs.Prelude.{find, bytes_eq}
use Rattle.asm_lines.specs.Forms.{mnemonic_of as view}
use Rattle.asm_lines.proofs.mnemonic.found_in.Given as goal

-- it is found among those that are left
abbrev pub invariant-loop-mnemonic : goal.invariant-loop-mnemonic
invariant-loop-mnemonic l =
    find (λ mnemonic. bytes_eq mnemonic.word l.word) (map view (drop l.mnemonic-index l.mnemonics))
    ≡ find (λ mnemonic. bytes_eq mnemonic.word l.word) (map view l.mnemonics)
