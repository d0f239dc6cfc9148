-- What contracts see of a `List`: its items in order, and for how many more there is room.
use Rattle.std.specs.Prelude.{ℕ, ◌-◌, ◌^◌, List}

pub record Sequence (A : Type 0) : Type 0 where
  pub items : List A
  -- so many items can be added without taking memory
  pub spare : ℕ

-- the most items that a list holds, so that each has an index of 32 bits
abbrev pub most_items : ℕ
most_items = 2 ^ 32 - 1
