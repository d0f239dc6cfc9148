use Rattle.std.proofs.Common.{◌≡◌, ◌++◌, length}
use Rattle.jv_model.specs.Utf16.{printed_units}
use Rattle.run_text.proofs.printed.push_units.Given as goal

-- what is written, and the units that are left
abbrev pub invariant-loop-left : goal.invariant-loop-left
invariant-loop-left l = l.text.items ++ printed_units l.left ≡ l.fn.text.items ++ printed_units l.units

abbrev pub decreases-loop-left : goal.decreases-loop-left
decreases-loop-left l = length l.left
