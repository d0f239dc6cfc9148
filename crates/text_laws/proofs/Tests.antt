-- Tests that pass, by their parts.
use Rattle.std.proofs.Common.{◌≡◌, ℕ, List, [], ◌∷◌, Bool, true, false, get_or, refl}
use Rattle.std.specs.Prelude.{◌&&◌, not}
use Rattle.std.specs.List.{list_all, All}
use Rattle.std.proofs.lemmas.List.Sums.{AllPass-from_list_all}

pub both : (a b : Bool) → (a && b) ≡ true → (a ≡ true) × (b ≡ true)
both true true is = (refl, refl)
both true false is = absurd cc
both false b is = absurd cc

pub not-true : (test : Bool) → not test ≡ true → test ≡ false
not-true true is = absurd cc
not-true false is = refl

-- where each item passes one test, each passes a weaker one
pub list_all-weaker : (strong weak : ℕ → Bool) → ((x : ℕ) → strong x ≡ true → weak x ≡ true) → (xs : List ℕ) → list_all strong xs ≡ true
    → list_all weak xs ≡ true
list_all-weaker strong weak weaker [] all = refl
list_all-weaker strong weak weaker (x ∷ xs) all =
    let parts = both (strong x) (list_all strong xs) all in
    rw (weaker x parts.0, list_all-weaker strong weak weaker xs parts.1)

-- no item passes
pub none_passes : (test : ℕ → Bool) (xs : List ℕ) → list_all (λ x. not (test x)) xs ≡ true → All (λ x. test x ≡ false) xs
none_passes test xs all = λ k d below. not-true (test (get_or xs k d)) (AllPass-from_list_all (λ x. not (test x)) xs all k d below)
