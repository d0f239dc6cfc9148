-- Sums of the first counts.
use Rattle.std.proofs.Common.{◌≡◌, ℕ, zero, suc, ◌+◌, ◌^◌, ◌<◌, ◌≤◌, ◌⊎◌, List, [], ◌∷◌, ◌++◌, length, slice_index, slice_get, Some, get_or, take, sum, inl, inr, ap, sym, subst, ◌∙◌, refl, arith}
use Rattle.std.proofs.lemmas.List.{take-append-le, length-append, take_all, get_or_append_left, get_or_push}
use Rattle.std.proofs.lemmas.List.Sums.{sum_by-append, sum_by-cons}
use Rattle.std.proofs.lemmas.Option.{get_or_from_slice_get}
use Rattle.std.proofs.lemmas.Bool.{cases_lt}
use Rattle.member_numbers.specs.Numbers.{number_of, IsMember, HasStarts, NumbersAreApart}

sum-append : (xs ys : List ℕ) → sum (xs ++ ys) ≡ sum xs + sum ys
sum-append xs ys = sum_by-append (λ (x : ℕ). x) xs ys

pub sum-cons : (x : ℕ) (xs : List ℕ) → sum (x ∷ xs) ≡ x + sum xs
sum-cons x xs = sum_by-cons (λ (x : ℕ). x) x xs

sum-one : (x : ℕ) → sum (x ∷ []) ≡ x
sum-one x = omega (arith, sum-cons x [])

-- the first counts, with one more, are together no more than with all that follow
sum-take : (counts : List ℕ) (class most : ℕ) → class < most → most ≤ length counts
    → sum (take class counts) + slice_index counts class ≤ sum (take most counts)
sum-take [] class most before inside = absurd (omega arith)
sum-take (count ∷ counts) class zero before inside = absurd (omega arith)
sum-take (count ∷ counts) zero (suc most) before inside = omega (arith, sum-cons count (take most counts))
sum-take (count ∷ counts) (suc class) (suc most) before inside =
    omega (arith, sum-take counts class most (omega arith) (omega arith), sum-cons count (take most counts), sum-cons count (take class counts))

pub number_inside : (counts : List ℕ) (class index : ℕ) → IsMember counts class index → number_of counts class index < sum counts
number_inside counts class index member =
    let most = sum-take counts class (length counts) member.0 (omega arith) in
    let all = ap sum (take_all (length counts) counts (omega arith)) in
    omega (arith, most, all, member.1)

pub apart : NumbersAreApart
apart counts class index other at member there same = elim (cases_lt class other) [
  | inl before ↦ absurd (let most = sum-take counts class other before (omega (arith, there.0)) in omega (arith, most, member.1, same))
  | inr behind ↦ by behind
]
  where
    by : other ≤ class → (class ≡ other) × (index ≡ at)
    by behind = elim (cases_lt other class) [
      | inl before ↦ absurd (let most = sum-take counts other class before (omega (arith, member.0)) in omega (arith, most, there.1, same))
      | inr even ↦
          let equal : class ≡ other = omega arith in
          (equal, omega (arith, same, ap (λ k. sum (take k counts)) equal))
    ]

pub starts_more : (counts starts : List ℕ) (total count : ℕ) → HasStarts counts starts total → total + count < 2 ^ 32
    → HasStarts (counts ++ count ∷ []) (starts ++ total ∷ []) (total + count)
starts_more counts starts total count is fits = record {
  each = omega (arith, is.each, length-append starts (total ∷ []), length-append counts (count ∷ []));
  starts_are = λ class inside. by class inside;
  total_is = omega (arith, is.total_is, sum-append counts (count ∷ []), sum-one count);
  fits = omega (arith, is.total_is, sum-append counts (count ∷ []), sum-one count);
}
  where
    by : (class : ℕ) → class < length (counts ++ count ∷ []) → slice_index (starts ++ total ∷ []) class ≡ sum (take class (counts ++ count ∷ []))
    by class inside = elim (cases_lt class (length counts)) [
      | inl before ↦
          get_or_append_left starts (total ∷ []) 0 class (omega (arith, is.each))
          ∙ is.starts_are class before
          ∙ ap sum (sym (take-append-le class counts (count ∷ []) (omega arith)))
      | inr behind ↦
          let last : class ≡ length counts = omega (arith, length-append counts (count ∷ [])) in
          get_or_push starts total 0 class (omega (arith, is.each))
          ∙ is.total_is
          ∙ ap sum (sym (take_all class counts (omega arith)))
          ∙ ap sum (sym (take-append-le class counts (count ∷ []) (omega arith)))
    ]

pub starts_none : HasStarts [] [] 0
starts_none = record {
  each = refl;
  starts_are = λ class inside. absurd (omega arith);
  total_is = refl;
  fits = omega arith;
}

-- what the number of a member is made of
pub start_is : (counts starts now : List ℕ) (total class index start : ℕ) → counts ≡ now → HasStarts counts starts total
    → IsMember now class index → slice_get starts class ≡ Some start
    → (start ≡ sum (take class now)) × (start + index < sum now) × (sum now < 2 ^ 32)
start_is counts starts now total class index start same is member at =
    let here : class < length counts = omega (arith, ap length same, member.0) in
    let told : start ≡ sum (take class now) =
    sym (get_or_from_slice_get starts class start 0 at) ∙ is.starts_are class here ∙ ap (λ (l : List ℕ). sum (take class l)) same in
    (told, omega (arith, told, number_inside now class index member), omega (arith, is.fits, ap (λ (l : List ℕ). sum l) same))
