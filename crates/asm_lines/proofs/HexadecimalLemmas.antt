-- Bytes, read digit by digit.
use Rattle.std.proofs.Common.{◌≡◌, ℕ, ◌-◌, ◌<◌, ◌≤◌, List, [], ◌∷◌, ◌++◌, true, false, Option, Some, None, length, take, drop, slice_index_or, refl, ap, sym, ◌∙◌, append_assoc, arith}
use Rattle.std.specs.Prelude.{◌==◌, option_map, option_and_then}
use Rattle.std.proofs.lemmas.Bool.{eqb-true}
use Rattle.std.proofs.lemmas.List.{append-nil, take_all}
use Rattle.text_model.specs.Numerals.{hex_bytes, hex_pair}

-- bytes behind these
abbrev pub onto : List ℕ → Option (List ℕ) → Option (List ℕ)
onto bytes found = option_map (λ more. bytes ++ more) found

onto-onto : (bytes : List ℕ) (byte : ℕ) (found : Option (List ℕ))
    → onto bytes (option_map (λ more. byte ∷ more) found) ≡ onto (bytes ++ byte ∷ []) found
onto-onto bytes byte None = refl
onto-onto bytes byte (Some more) = ap Some (sym (append_assoc bytes (byte ∷ []) more))

pub hex_bytes-next : (bytes left : List ℕ) (byte : ℕ) → 2 ≤ length left
    → Some byte ≡ hex_pair (slice_index_or left 0 0) (slice_index_or left 1 0)
    → onto bytes (hex_bytes left) ≡ onto (bytes ++ byte ∷ []) (hex_bytes (take (length left - 2) (drop 2 left)))
unfolding hex_bytes
hex_bytes-next bytes [] byte some is = absurd (omega arith)
hex_bytes-next bytes (high ∷ []) byte some is = absurd (omega arith)
hex_bytes-next bytes (high ∷ low ∷ rest) byte some is =
    let all : take (length (high ∷ low ∷ rest) - 2) rest ≡ rest = take_all (length (high ∷ low ∷ rest) - 2) rest (omega arith) in
    rw (← is, all) (onto-onto bytes byte (hex_bytes rest))

pub hex_bytes-faulty : (bytes left : List ℕ) → 2 ≤ length left
    → None ≡ hex_pair (slice_index_or left 0 0) (slice_index_or left 1 0) → onto bytes (hex_bytes left) ≡ None
unfolding hex_bytes
hex_bytes-faulty bytes [] some is = absurd (omega arith)
hex_bytes-faulty bytes (high ∷ []) some is = absurd (omega arith)
hex_bytes-faulty bytes (high ∷ low ∷ rest) some is = rw (← is)

pub hex_bytes-half : (bytes left : List ℕ) → length left < 2 → false ≡ (length left == 0) → onto bytes (hex_bytes left) ≡ None
unfolding hex_bytes
hex_bytes-half bytes [] short some = absurd cc
hex_bytes-half bytes (high ∷ []) short some = refl
hex_bytes-half bytes (high ∷ low ∷ rest) short some = absurd (omega arith)

pub hex_bytes-none : (bytes left : List ℕ) → true ≡ (length left == 0) → onto bytes (hex_bytes left) ≡ Some bytes
unfolding hex_bytes
hex_bytes-none bytes [] none = ap Some (append-nil bytes)
hex_bytes-none bytes (high ∷ rest) none =
    let empty : length (high ∷ rest) ≡ 0 = eqb-true (length (high ∷ rest)) 0 (sym none) in absurd (omega arith)
