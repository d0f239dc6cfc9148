use Rattle.std.proofs.Common.{◌≡◌, ◌+◌, ◌-◌, ◌≤◌, ◌∷◌, ◌++◌, length}
use Rattle.std.specs.Prelude.{replicate}
use Rattle.jv_types.specs.Instructions.{no_number}
use Rattle.jv_types.proofs.instructions.add_number.Given as goal

-- the number and what follows it so far, and the room that is left
abbrev pub invariant-loop : goal.invariant-loop
invariant-loop l = record {
  filled : l.numbers.items
      ≡ l.fn.numbers.items ++ l.fn.number ∷ replicate (l.counter - 1) no_number;
  room : l.bytes ≤ l.numbers.spare + l.counter;
}
