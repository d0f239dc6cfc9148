-- The number of a name and a descriptor.
use Rattle.std.proofs.Common.{◌≡◌, ℕ, zero, suc, ◌==◌, ◌&&◌, ◌||◌, ◌⊎◌, Bool, true, false, not, if◌then◌else◌, List, [], ◌∷◌, ◌++◌, Some, inl, inr, length, position, slice_get, get_or, bytes_eq, option_map, ap, sym, ◌∙◌, refl, true≢false}
use Rattle.std.specs.List.{list_any}
use Rattle.std.proofs.lemmas.Bool.Decides.{Decides-eqb}
use Rattle.std.proofs.lemmas.Cmp.{nat_list_eq_equiv}
use Rattle.std.proofs.lemmas.List.Folds.{list_any-append, list_any_at}
use Rattle.std.proofs.lemmas.List.Quantifiers.{position-Some}
use Rattle.std.proofs.lemmas.Option.{slice_get-map, slice_get-get_or, slice_get_within, get_or_from_slice_get}
use Rattle.class_graph.proofs.Passing.{and_left, and_right}
use Rattle.class_names.specs.Distinct.{with_item, same_signature}
use Rattle.class_names.specs.declared.signatures.Signature.{Signature}
use Rattle.class_world.specs.World.{spelled}
use Rattle.class_world.specs.Signatures.{Pair, same_pair}
use Rattle.class_world.proofs.Spelling.{adds_signature}
use Rattle.class_methods.specs.Signatures.{AreApart}
use Rattle.class_methods.specs.Filling.{GivesNumber}

-- ---- one item more

pub still_there : {A : Type 0} (xs ys : List A) (i : ℕ) (x : A) → slice_get xs i ≡ Some x → slice_get (xs ++ ys) i ≡ Some x
still_there [] ys i x at = absurd cc
still_there (y ∷ xs) ys zero x at = at
still_there (y ∷ xs) ys (suc i) x at = still_there xs ys i x at

-- what stands there stood there before, or is the last one
pub there_before : {A : Type 0} (xs : List A) (x : A) (i : ℕ) (y : A) → slice_get (xs ++ x ∷ []) i ≡ Some y
    → (slice_get xs i ≡ Some y) ⊎ ((i ≡ length xs) × (y ≡ x))
there_before [] x zero y at = inr (refl, cc)
there_before [] x (suc i) y at = absurd cc
there_before (z ∷ xs) x zero y at = inl at
there_before (z ∷ xs) x (suc i) y at = elim (there_before xs x i y at) [
  | inl before ↦ inl before
  | inr last ↦ inr (ap suc last.0, last.1)
]

still_text : (texts : List (List ℕ)) (text name : List ℕ) (n : ℕ) → slice_get texts n ≡ Some name
    → slice_get (with_item bytes_eq texts text) n ≡ Some name
still_text texts text name n at = by (list_any (bytes_eq text) texts)
  where
    by : (b : Bool) → slice_get (if b then texts else texts ++ text ∷ []) n ≡ Some name
    by true = at
    by false = still_there texts (text ∷ []) n name at

-- ---- signatures

same_itself : (s : Signature) → same_signature s s ≡ true
same_itself s =
    let name = (Decides-eqb s.name s.name).1 refl in
    let descriptor = (Decides-eqb s.descriptor s.descriptor).1 refl in
    λ i. name i && descriptor i

same_is : (s t : Signature) → same_signature s t ≡ true → s ≡ t
same_is s t same =
    let name = (Decides-eqb s.name t.name).0 (and_left (s.name == t.name) (s.descriptor == t.descriptor) same) in
    let descriptor = (Decides-eqb s.descriptor t.descriptor).0 (and_right (s.name == t.name) (s.descriptor == t.descriptor) same) in
    λ i. record { name = name i; descriptor = descriptor i }

or_last : (a : Bool) → (a || (true || false)) ≡ true
or_last true = refl
or_last false = refl

-- one that was added is there
pub known_after : (rows : List Signature) (s : Signature) → list_any (same_signature s) (with_item same_signature rows s) ≡ true
known_after rows s = by (list_any (same_signature s) rows) refl
  where
    by : (b : Bool) → list_any (same_signature s) rows ≡ b → list_any (same_signature s) (if b then rows else rows ++ s ∷ []) ≡ true
    by true known = known
    by false unknown =
        list_any-append (same_signature s) rows (s ∷ [])
        ∙ ap (λ (b : Bool). list_any (same_signature s) rows || (b || false)) (same_itself s)
        ∙ or_last (list_any (same_signature s) rows)

stands_at : (rows : List Signature) (s : Signature) (n : ℕ) → Some n ≡ position (same_signature s) rows → slice_get rows n ≡ Some s
stands_at rows s n found =
    let at = position-Some (same_signature s) rows n s (sym found) in
    slice_get-get_or rows n s at.0 ∙ ap Some (sym (same_is s (get_or rows n s) at.1))

pub gives_number : (texts named more : List (List ℕ)) (rows added : List Signature) (name descriptor : List ℕ) (n d number : ℕ) (is_new : Bool)
    → named ≡ with_item bytes_eq texts name → slice_get named n ≡ Some name
    → more ≡ with_item bytes_eq named descriptor → slice_get more d ≡ Some descriptor
    → added ≡ with_item same_signature rows (record { name = n; descriptor = d })
    → is_new ≡ not (list_any (same_signature (record { name = n; descriptor = d })) rows)
    → Some number ≡ position (same_signature (record { name = n; descriptor = d })) added
    → GivesNumber texts more rows added (name, descriptor) number
gives_number texts named more rows added name descriptor n d number is_new adds_name name_at adds_descriptor descriptor_at adds news found =
    let row : Signature = record { name = n; descriptor = d } in
    let adds_it = adds_signature texts named more rows added name descriptor n d is_new adds_name name_at adds_descriptor descriptor_at adds news in
    let name_still : slice_get more n ≡ Some name =
    ap (λ (l : List (List ℕ)). slice_get l n) adds_descriptor ∙ still_text named descriptor name n name_at in
    let first = get_or_from_slice_get more n name [] name_still in
    let second = get_or_from_slice_get more d descriptor [] descriptor_at in
    let spells_it : spelled more row ≡ (name, descriptor) = λ i. (first i, second i) in
    record {
      is_new = is_new;
      adds = adds_it;
      at = λ pairs is.
          ap (λ (l : List Pair). slice_get l number) (sym ((adds_it.spells pairs is).are))
          ∙ slice_get-map (spelled more) added number
          ∙ ap (option_map (spelled more)) (stands_at added row number found)
          ∙ ap Some spells_it;
    }

-- ---- pairs

same_pair_itself : (p : Pair) → same_pair p p ≡ true
same_pair_itself p =
    let name = nat_list_eq_equiv.refl (p.0) in
    let descriptor = nat_list_eq_equiv.refl (p.1) in
    λ i. name i && descriptor i

-- where a pair stands it is found
stands_known : (pairs : List Pair) (pair : Pair) (s : ℕ) → slice_get pairs s ≡ Some pair → list_any (λ p. same_pair p pair) pairs ≡ true
stands_known pairs pair s at =
    list_any_at (λ p. same_pair p pair) pairs s pair (slice_get_within pairs s pair at)
    (ap (λ (p : Pair). same_pair p pair) (get_or_from_slice_get pairs s pair pair at) ∙ same_pair_itself pair)

pub apart_more : (pairs : List Pair) (pair : Pair) → AreApart pairs → list_any (λ p. same_pair p pair) pairs ≡ false
    → AreApart (pairs ++ pair ∷ [])
apart_more pairs pair apart none s t p at_s at_t = elim (there_before pairs pair s p at_s) [
  | inl first ↦ (elim (there_before pairs pair t p at_t) [
    | inl second ↦ apart s t p first second
    | inr last ↦ absurd (never s p first last.1)
  ])
  | inr last ↦ (elim (there_before pairs pair t p at_t) [
    | inl second ↦ absurd (never t p second last.1)
    | inr other ↦ last.0 ∙ sym other.0
  ])
]
  where
    never : (k : ℕ) (q : Pair) → slice_get pairs k ≡ Some q → q ≡ pair → ⊥
    never k q at same = true≢false (sym (stands_known pairs pair k (at ∙ ap Some same)) ∙ none)
