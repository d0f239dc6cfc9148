-- How many methods a thread has still to start.
use Rattle.std.specs.Prelude.{ℕ}

-- at the most: one for each class that a program may begin with, and its `main`
abbrev pub most_starts : ℕ
most_starts = 1025
