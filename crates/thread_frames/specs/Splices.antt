-- Words of which some are replaced.
use Rattle.std.specs.Prelude.{ℕ, ◌+◌, List, ◌++◌, take, drop, length}

-- the words with a group in place of as many from a place on
abbrev pub spliced : {A : Type 0} → ℕ → List A → List A → List A
spliced at group words = take at words ++ (group ++ drop (at + length group) words)
