-- A word that is cut at its last dot.
use Rattle.std.proofs.Common.{◌≡◌, ◌≢◌, ℕ, ◌+◌, ◌-◌, ◌<◌, ◌≤◌, List, [], ◌∷◌, Bool, true, false, not, length, get_or, take, drop, eqb, refl, ap, sym, ◌∙◌, arith, lit<, Some}
use Rattle.std.specs.List.{suffix_len, before_last, after_last}
use Rattle.std.specs.Str.{NoCharPasses}
use Rattle.std.specs.Str.Pattern.{RFindsChar, SplitsAroundMatch}
use Rattle.std.proofs.lemmas.Bool.{ne_eqb}
use Rattle.std.proofs.lemmas.List.{get_or-drop, length-drop}
use Rattle.std.proofs.lemmas.List.Sums.{suffix_len_is}
use Rattle.std.proofs.lemmas.Str.Pattern.{NoCharPasses-char}
use Rattle.assembler_model.specs.OperationLines.{is_dot}

-- it isn't a dot
abbrev is_other : ℕ → Bool
is_other byte = not (eqb byte 46)

other : (byte : ℕ) → byte ≢ 46 → is_other byte ≡ true
other byte is = rw (ne_eqb byte 46 is)

-- no dot stands there
none_behind : (word : List ℕ) (n : ℕ) → n ≤ length word → NoCharPasses (λ d. eqb d 46) (drop n word)
    → (k : ℕ) → n ≤ k → k < length word → is_other (get_or word k 0) ≡ true
none_behind word n short none k from within =
    let place : n + (k - n) ≡ k = omega arith in
    let at : get_or (drop n word) (k - n) 0 ≡ get_or word k 0 = get_or-drop n word (k - n) 0 ∙ ap (λ k. get_or word k 0) place in
    other (get_or word k 0) (λ is. NoCharPasses-char 46 (drop n word) (k - n) none (lit< tt) (omega (arith, length-drop n word)) (at ∙ is))

-- behind the last dot
last_dot : (word : List ℕ) (i j : ℕ) → RFindsChar 46 word (Some (i, j)) → j ≤ length word → suffix_len is_other word ≡ length word - j
last_dot word i j finds short =
    let dot : get_or word i 0 ≡ 46 = finds.1.byte (lit< tt) in
    let ends : j ≡ i + 1 = finds.1.ends in
    let before : get_or word (j - 1) 0 ≡ 46 = ap (λ k. get_or word k 0) (omega arith) ∙ dot in
    suffix_len_is is_other word j 0 short (none_behind word j short finds.0) (λ some. rw before)

pub cut_at_dot : (word front back : List ℕ) → SplitsAroundMatch (RFindsChar 46) word front back
    → (front ≡ before_last is_dot word) × (back ≡ after_last is_dot word)
cut_at_dot word front back cut =
    let ends : cut.1 ≡ cut.0 + 1 = cut.2.1.ends in
    let short : cut.1 ≤ length word = omega arith in
    let suffix = last_dot word cut.0 cut.1 cut.2 short in
    let before : cut.0 ≡ length word - suffix_len is_other word - 1 = omega (arith, suffix) in
    let behind : cut.1 ≡ length word - suffix_len is_other word = omega (arith, suffix) in
    (cut.3 ∙ ap (λ n. take n word) before, cut.4 ∙ ap (λ n. drop n word) behind)

pub without_dot : (word : List ℕ) → NoCharPasses (λ d. eqb d 46) word
    → ([] ≡ before_last is_dot word) × (word ≡ after_last is_dot word)
without_dot word none =
    let suffix : suffix_len is_other word ≡ length word - 0 =
    suffix_len_is is_other word 0 0 (omega arith) (none_behind word 0 (omega arith) none) (λ some. absurd (omega arith)) in
    let before : 0 ≡ length word - suffix_len is_other word - 1 = omega (arith, suffix) in
    let behind : 0 ≡ length word - suffix_len is_other word = omega (arith, suffix) in
    (ap (λ n. take n word) before, ap (λ n. drop n word) behind)
