use Rattle.std.proofs.Common.{◌≡◌, ◌++◌, map, drop}
use Rattle.class_names.proofs.names.Names.copy.Given as goal

-- the texts so far, and those that are left
abbrev pub invariant-loop-text : goal.invariant-loop-text
invariant-loop-text l = l.copy ++ map (λ text. text.items) (drop l.text-index l.text-items) ≡ l.self
