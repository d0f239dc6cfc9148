-- What a table keeps where a string is interned, and where one is moved.
use Rattle.std.proofs.Common.{◌≡◌, ◌≢◌, ℕ, ◌<◌, ◌==◌, Bool, true, false, ◌||◌, List, [], ◌∷◌, ◌++◌, Option, Some, None, length, get_or, is_some, replicate, nat_lt, subst, ap, sym, ◌∙◌, refl, true≢false, arith}
use Rattle.std.proofs.Math.ListN.{set, length-set}
use Rattle.std.specs.List.{list_any, IsDistinct}
use Rattle.std.proofs.lemmas.List.{get_or-set_other, get_or-replicate, length-replicate}
use Rattle.std.proofs.lemmas.List.Folds.{list_any-append}
use Rattle.std.proofs.lemmas.Grind.{get_or-set_at}
use Rattle.std.proofs.lemmas.Bool.Decides.{Decides-eqb, Decides-ltb}
use Rattle.std.proofs.lemmas.Map.Keys.{IsDistinct-push}
use Rattle.std.proofs.lemmas.Cmp.{nat_eq_equiv}
use Rattle.std.proofs.Math.ListN.{get_or-eq_default}
use Rattle.heap_face.specs.declared.address.Addr.{Addr}
use Rattle.literal_table.specs.Literals.{address_at, is_interned, IsKept}

or_true : (b : Bool) → (b || (true || false)) ≡ true
or_true true = refl
or_true false = refl

or_false : (b : Bool) → (b || (false || false)) ≡ b
or_false true = refl
or_false false = refl

module _ (texts : List (List ℕ)) (addresses : List (Option Addr)) (order : List ℕ) (n : ℕ) (a : Addr)
    (kept : IsKept texts addresses order) (inside : n < length texts) where
  here : n < length addresses
  here = omega (arith, kept.each)

  abbrev after : List (Option Addr)
  after = set addresses n (Some a)

  at_other : (m : ℕ) → (m == n) ≡ false → address_at after m ≡ address_at addresses m
  at_other m differs =
      let other : m ≢ n = λ same. true≢false (sym ((Decides-eqb m n).1 same) ∙ differs) in
      get_or-set_other addresses n m (Some a) None other

  at_same : (m : ℕ) → (m == n) ≡ true → address_at after m ≡ Some a
  at_same m same = get_or-set_at addresses n m (Some a) None ((Decides-eqb m n).0 same) here

  -- a string more is interned
  pub kept_added : address_at addresses n ≡ None → IsKept texts after (order ++ n ∷ [])
  kept_added fresh = record {
    each = length-set addresses n (Some a) ∙ kept.each;
    interned = λ m. list_any-append (λ k. m == k) order (n ∷ []) ∙ by m (m == n) refl;
    once = IsDistinct-push nat_eq_equiv order n kept.once (kept.interned n ∙ ap is_some fresh);
  }
    where
      by : (m : ℕ) (b : Bool) → (m == n) ≡ b
          → (is_interned order m || ((m == n) || false)) ≡ is_some (address_at after m)
      by m true same =
          ap (λ (b : Bool). is_interned order m || (b || false)) same ∙ or_true (is_interned order m)
          ∙ sym (ap is_some (at_same m same))
      by m false differs =
          ap (λ (b : Bool). is_interned order m || (b || false)) differs ∙ or_false (is_interned order m)
          ∙ kept.interned m ∙ sym (ap is_some (at_other m differs))

  -- the string of a literal that has one lies elsewhere
  pub kept_moved : is_some (address_at addresses n) ≡ true → IsKept texts after order
  kept_moved there = record {
    each = length-set addresses n (Some a) ∙ kept.each;
    interned = λ m. by m (m == n) refl;
    once = kept.once;
  }
    where
      by : (m : ℕ) (b : Bool) → (m == n) ≡ b → is_interned order m ≡ is_some (address_at after m)
      by m true same =
          kept.interned m ∙ ap (λ k. is_some (address_at addresses k)) ((Decides-eqb m n).0 same) ∙ there
          ∙ sym (ap is_some (at_same m same))
      by m false differs = kept.interned m ∙ sym (ap is_some (at_other m differs))

distinct_none : IsDistinct {K = ℕ} ◌==◌ []
unfolding IsDistinct
distinct_none = tt

none_at : (count n : ℕ) → false ≡ is_some (address_at (replicate count None) n)
none_at count n = by (nat_lt n count) refl
  where
    by : (b : Bool) → nat_lt n count ≡ b → false ≡ is_some (address_at (replicate count None) n)
    by true inside = sym (ap is_some (get_or-replicate count n None None ((Decides-ltb n count).0 inside)))
    by false past =
        let length_is = length-replicate {A = Option Addr} count None in
        let no : n < count → ⊥ = λ lt. true≢false (sym ((Decides-ltb n count).1 lt) ∙ past) in
        sym (ap is_some (get_or-eq_default (replicate count None) None (omega arith)))

-- no string yet
pub kept_none : (texts : List (List ℕ)) (addresses : List (Option Addr)) (order : List ℕ)
    → addresses ≡ replicate (length texts) None → order ≡ [] → IsKept texts addresses order
kept_none texts addresses order none empty =
    subst (λ (a : List (Option Addr)). IsKept texts a order) (sym none)
    (subst (IsKept texts (replicate (length texts) None)) (sym empty) (record {
      each = length-replicate (length texts) None;
      interned = λ n. none_at (length texts) n;
      once = distinct_none;
    }))
