-- Signs of numbers.
use Rattle.std.specs.Prelude.{ℕ, List, [], ◌∷◌, Bool, false, ◌==◌}

-- a word begins with a minus sign
abbrev pub has_sign : List ℕ → Bool
has_sign [] = false
has_sign (byte ∷ word) = byte == 45
