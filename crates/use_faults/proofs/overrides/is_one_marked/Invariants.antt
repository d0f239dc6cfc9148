use Rattle.std.proofs.Common.{◌≡◌, drop}
use Rattle.std.specs.List.{list_any}
use Rattle.use_faults.specs.Finals.{is_marked}
use Rattle.use_faults.proofs.overrides.is_one_marked.Given as goal

-- it's decided by the numbers that are left
abbrev pub invariant-loop-number : goal.invariant-loop-number
invariant-loop-number l = list_any (is_marked l.marks) (drop l.number-index l.numbers) ≡ list_any (is_marked l.marks) l.numbers
