use Rattle.std.proofs.Common.{◌≡◌, drop}
use Rattle.std.specs.List.{list_any}
use Rattle.type_rules.specs.Frames.{is_uninitialized_this}
use Rattle.type_rules.proofs.frame_assignment.has_this.Given as goal

-- none so far is
abbrev pub invariant-loop-type_there : goal.invariant-loop-type_there
invariant-loop-type_there l = list_any is_uninitialized_this (drop l.type_there-index l.types) ≡ list_any is_uninitialized_this l.types
