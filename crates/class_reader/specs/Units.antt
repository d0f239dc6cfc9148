-- The first unit that bytes of modified UTF-8 spell.
use Rattle.std.specs.Prelude.{ℕ, List, [], ◌∷◌, if◌then◌else◌, Option, Some, None}
use Rattle.jv_model.specs.ModifiedUtf8.{is_single, is_double, is_triple, unit_of_two, unit_of_three}

-- it, and the bytes behind it
abbrev pub first_unit : List ℕ → Option (ℕ × List ℕ)
first_unit [] = None
first_unit (a ∷ []) = if is_single a then Some (a, []) else None
first_unit (a ∷ b ∷ []) =
    if is_single a then Some (a, b ∷ [])
    else (if is_double a b then Some (unit_of_two a b, []) else None)
first_unit (a ∷ b ∷ c ∷ rest) =
    if is_single a then Some (a, b ∷ c ∷ rest)
    else (if is_double a b then Some (unit_of_two a b, c ∷ rest)
    else (if is_triple a b c then Some (unit_of_three a b c, rest) else None))
