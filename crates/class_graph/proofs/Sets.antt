-- Which numbers are in a list.
use Rattle.std.proofs.Common.{◌≡◌, ℕ, Bool, true, false, cond, List, [], ◌∷◌, ◌++◌, ◌==◌, filter, IsTrue, ◌⊎◌, inl, inr, sym, subst, ◌∙◌, refl}
use Rattle.std.proofs.lemmas.Bool.{false≢true, or_cases, or_left, or_right}
use Rattle.std.proofs.lemmas.Bool.Decides.{Decides-eqb}
use Rattle.std.proofs.lemmas.List.Folds.{list_any-append}
use Rattle.class_graph.specs.Graph.{is_in}

pub in_none : (z : ℕ) → IsTrue (is_in [] z) → ⊥
in_none z h = false≢true h

pub in_head : (x : ℕ) (xs : List ℕ) → IsTrue (is_in (x ∷ xs) x)
in_head x xs = or_left (x == x) (is_in xs x) ((Decides-eqb x x).1 refl)

pub in_tail : (x : ℕ) (xs : List ℕ) (z : ℕ) → IsTrue (is_in xs z) → IsTrue (is_in (x ∷ xs) z)
in_tail x xs z h = or_right (z == x) (is_in xs z) h

pub in_cons : (x : ℕ) (xs : List ℕ) (z : ℕ) → IsTrue (is_in (x ∷ xs) z) → (z ≡ x) ⊎ IsTrue (is_in xs z)
in_cons x xs z h = elim (or_cases (z == x) (is_in xs z) h) [
  | inl same ↦ inl ((Decides-eqb z x).0 same)
  | inr rest ↦ inr rest
]

pub in_cases : (xs ys : List ℕ) (z : ℕ) → IsTrue (is_in (xs ++ ys) z) → IsTrue (is_in xs z) ⊎ IsTrue (is_in ys z)
in_cases xs ys z h = or_cases (is_in xs z) (is_in ys z) (sym (list_any-append (λ n. z == n) xs ys) ∙ h)

pub in_left : (xs ys : List ℕ) (z : ℕ) → IsTrue (is_in xs z) → IsTrue (is_in (xs ++ ys) z)
in_left xs ys z h = list_any-append (λ n. z == n) xs ys ∙ or_left (is_in xs z) (is_in ys z) h

pub in_right : (xs ys : List ℕ) (z : ℕ) → IsTrue (is_in ys z) → IsTrue (is_in (xs ++ ys) z)
in_right xs ys z h = list_any-append (λ n. z == n) xs ys ∙ or_right (is_in xs z) (is_in ys z) h

-- what a filter keeps was there
pub in_filter : (p : ℕ → Bool) (xs : List ℕ) (z : ℕ) → IsTrue (is_in (filter p xs) z) → IsTrue (is_in xs z)
in_filter p [] z h = h
in_filter p (x ∷ xs) z h = by (p x) (in_filter p xs z) h
  where
    by : (b : Bool) → (IsTrue (is_in (filter p xs) z) → IsTrue (is_in xs z))
        → IsTrue (is_in (cond b (x ∷ filter p xs) (filter p xs)) z) → IsTrue (is_in (x ∷ xs) z)
    by false rest h = in_tail x xs z (rest h)
    by true rest h = elim (in_cons x (filter p xs) z h) [
      | inl same ↦ subst (λ (n : ℕ). IsTrue (is_in (x ∷ xs) n)) (sym same) (in_head x xs)
      | inr kept ↦ in_tail x xs z (rest kept)
    ]

pub not_in : (xs : List ℕ) (z : ℕ) → (IsTrue (is_in xs z) → ⊥) → is_in xs z ≡ false
not_in xs z never = by (is_in xs z) refl
  where
    by : (b : Bool) → is_in xs z ≡ b → is_in xs z ≡ false
    by true there = absurd (never there)
    by false is = is
