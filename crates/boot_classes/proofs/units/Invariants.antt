use Rattle.std.proofs.Common.{◌≡◌, ◌++◌, drop}
use Rattle.boot_classes.proofs.units.Given as goal

-- the units so far, and the bytes that are left
abbrev pub invariant-loop-byte : goal.invariant-loop-byte
invariant-loop-byte l = l.units.items ++ drop l.byte-index l.text ≡ l.text
