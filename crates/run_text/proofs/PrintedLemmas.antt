-- The units that a character is made of.
use Rattle.std.proofs.Common.{◌≡◌, ℕ, ◌-◌, ◌≤◌, List, [], ◌∷◌, ◌++◌, length, take, drop, slice_index_or, true, false, encode_utf8, ap, sym, ◌∙◌, arith}
use Rattle.std.specs.Prelude.{◌&&◌}
use Rattle.std.proofs.lemmas.List.{take_all, append-nil}
use Rattle.jv_model.specs.Utf16.{is_high_surrogate, is_low_surrogate, joined, printed_alone, printed_units}

-- no unit
pub printed_none : (text units : List ℕ) → length units ≤ 0 → text ++ printed_units units ≡ text
unfolding printed_units
printed_none text [] none = append-nil text
printed_none text (unit ∷ rest) none = absurd (omega arith)

-- a last unit
pub printed_last : (unit : ℕ) (rest : List ℕ) (character : ℕ) → length rest ≤ 0 → encode_utf8 character ≡ printed_alone unit
    → printed_units (unit ∷ rest) ≡ encode_utf8 character ++ printed_units rest
unfolding printed_units
printed_last unit [] character none is = sym is ∙ sym (append-nil (encode_utf8 character))
printed_last unit (next ∷ rest) character none is = absurd (omega arith)

-- a pair of surrogates stands first
pub printed_pair : (unit : ℕ) (rest : List ℕ) → 1 ≤ length rest → (is_high_surrogate unit && is_low_surrogate (slice_index_or rest 0 0)) ≡ true
    → printed_units (unit ∷ rest) ≡ encode_utf8 (joined unit (slice_index_or rest 0 0)) ++ printed_units (take (length rest - 1) (drop 1 rest))
unfolding printed_units
printed_pair unit [] some pair = absurd (omega arith)
printed_pair unit (next ∷ rest) some pair =
    let all : take (length (next ∷ rest) - 1) rest ≡ rest = take_all (length (next ∷ rest) - 1) rest (omega arith) in
    rw (pair, all)

-- no pair of surrogates stands first
pub printed_single : (unit : ℕ) (rest : List ℕ) (character : ℕ) → 1 ≤ length rest → (is_high_surrogate unit && is_low_surrogate (slice_index_or rest 0 0)) ≡ false
    → encode_utf8 character ≡ printed_alone unit → printed_units (unit ∷ rest) ≡ encode_utf8 character ++ printed_units rest
unfolding printed_units
printed_single unit [] character some single is = absurd (omega arith)
printed_single unit (next ∷ rest) character some single is = rw single (ap (λ bytes. bytes ++ printed_units (next ∷ rest)) (sym is))
