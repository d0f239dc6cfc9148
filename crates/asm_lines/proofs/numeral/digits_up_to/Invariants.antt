use Rattle.std.proofs.Common.{◌≡◌, ◌≤◌, ℕ, List, drop}
use Rattle.asm_lines.specs.Digits.{digits_from}
use Rattle.asm_lines.proofs.numeral.digits_up_to.Given as goal

-- the digits so far, and those that are left
pub record SoFar (most value : ℕ) (left word : List ℕ) : Type 0 where
  pub small : value ≤ most
  pub same : digits_from most value left ≡ digits_from most 0 word

abbrev pub invariant-loop-byte : goal.invariant-loop-byte
invariant-loop-byte l = SoFar l.most l.value (drop l.byte-index l.word) l.word
