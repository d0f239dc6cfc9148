use Rattle.std.proofs.Common.{ℕ, ◌-◌, ◌≤◌, Bool, length}
use Rattle.jv_types.specs.declared.code.Handler.{Handler}
use Rattle.stackmap_verify.specs.Cover.{AreLeft}
use Rattle.stackmap_verify.proofs.cover.take_begun.Given as goal

-- the rows so far are taken
abbrev pub invariant-loop-begun : goal.invariant-loop-begun
invariant-loop-begun l = record {
  within : l.begun ≤ length l.rows;
  active : (test : Handler → Bool) → (place : ℕ) → AreLeft test l.rows l.fn.begun l.fn.active.items place
      → AreLeft test l.rows l.begun l.active.items place;
  unseen : (test : Handler → Bool) → (place : ℕ) → AreLeft test l.rows l.fn.begun l.fn.unseen.items place
      → AreLeft test l.rows l.begun l.unseen.items place;
}

abbrev pub decreases-loop-begun : goal.decreases-loop-begun
decreases-loop-begun l = length l.rows - l.begun
