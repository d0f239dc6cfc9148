-- The words of a line behind its first one.
use Rattle.std.specs.Prelude.{ℕ, List, ◌∷◌, flat_map}

-- words, each behind a space
abbrev pub following : List (List ℕ) → List ℕ
following words = flat_map (λ word. 32 ∷ word) words
