-- An item that is replaced, from the other end.
use Rattle.std.proofs.Common.{◌≡◌, ℕ, zero, suc, ◌-◌, ◌<◌, List, [], ◌∷◌, ◌++◌, length, reverse, slice_set, ap, sym, ◌∙◌, refl, arith}
use Rattle.std.proofs.lemmas.List.{length-reverse, reverse-append, set-append_left}
use Rattle.std.proofs.Math.Seq.{set-append_seam}

pub reverse-set : {A : Type 0} (xs : List A) (n : ℕ) (y : A) → n < length xs
    → reverse (slice_set xs (length xs - 1 - n) y) ≡ slice_set (reverse xs) n y
reverse-set [] n y inside = absurd (omega arith)
reverse-set {A} (x ∷ xs) n y inside = by (length xs - n) refl (λ few. reverse-set xs n y few)
  where
    place : length (x ∷ xs) - 1 - n ≡ length xs - n
    place = omega arith

    push : (z : A) (zs : List A) → reverse (z ∷ zs) ≡ (reverse zs ++ z ∷ [])
    push z zs = reverse-append (z ∷ []) zs

    by : (j : ℕ) → length xs - n ≡ j
        → (n < length xs → reverse (slice_set xs (length xs - 1 - n) y) ≡ slice_set (reverse xs) n y)
        → reverse (slice_set (x ∷ xs) (length (x ∷ xs) - 1 - n) y) ≡ slice_set (reverse (x ∷ xs)) n y
    by zero is rest =
        let last : n ≡ length (reverse xs) = omega (arith, length-reverse xs) in
        ap (λ (k : ℕ). reverse (slice_set (x ∷ xs) k y)) (place ∙ is) ∙ push y xs
        ∙ sym (ap (λ (l : List A). slice_set l n y) (push x xs)
        ∙ ap (λ (k : ℕ). slice_set (reverse xs ++ x ∷ []) k y) last ∙ set-append_seam (reverse xs) x [] y)
    by (suc j) is rest =
        let before : j ≡ length xs - 1 - n = omega arith in
        let few : n < length (reverse xs) = omega (arith, length-reverse xs) in
        ap (λ (k : ℕ). reverse (slice_set (x ∷ xs) k y)) (place ∙ is) ∙ push x (slice_set xs j y)
        ∙ ap (λ (l : List A). l ++ x ∷ [])
        (ap (λ (k : ℕ). reverse (slice_set xs k y)) before ∙ rest (omega arith))
        ∙ sym (ap (λ (l : List A). slice_set l n y) (push x xs) ∙ set-append_left (reverse xs) (x ∷ []) n y few)
