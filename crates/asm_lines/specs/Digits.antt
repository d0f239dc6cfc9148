-- A number, read digit by digit.
use Rattle.std.specs.Prelude.{ℕ, ◌+◌, ◌-◌, ◌*◌, List, Bool, ◌&&◌, ◌||◌, not, ◌==◌, if◌then◌else◌, nat_le, Option, Some, None, length, fold, slice_get, unwrap_or}
use Rattle.std.specs.List.{list_all}
use Rattle.text_model.specs.Words.{is_whole}
use Rattle.text_model.specs.Numerals.{is_digit}

-- the number that digits spell behind this one
abbrev pub value_from : ℕ → List ℕ → ℕ
value_from value word = fold (λ value digit. value * 10 + (digit - 48)) value word

-- the same, where they are digits and it is at most the first one
abbrev pub digits_from : ℕ → ℕ → List ℕ → Option ℕ
digits_from most value word =
    if list_all is_digit word && nat_le (value_from value word) most then Some (value_from value word) else None

-- a word isn't empty, and begins with `0` only where nothing follows
abbrev pub is_plain : List ℕ → Bool
is_plain word = is_whole word && ((length word == 1) || not (unwrap_or (slice_get word 0) 0 == 48))
