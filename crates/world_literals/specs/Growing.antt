-- Texts of which each is added where it isn't there.
use Rattle.std.specs.Prelude.{ℕ, List, [], ◌∷◌, bytes_eq}
use Rattle.class_names.specs.Distinct.{with_item}

abbrev pub with_all : List (List ℕ) → List (List ℕ) → List (List ℕ)
with_all texts [] = texts
with_all texts (text ∷ more) = with_all (with_item bytes_eq texts text) more
