-- The last of several, and the newest of a list that is turned.
use Rattle.std.proofs.Common.{◌≡◌, ℕ, zero, suc, List, [], ◌∷◌, ◌++◌, length, take, set, refl, ap, ◌∙◌, arith}
use Rattle.std.specs.Prelude.{Some, slice_get, reverse}
use Rattle.std.specs.List.{sum_by}
use Rattle.std.proofs.lemmas.List.{reverse-append}
use Rattle.std.proofs.lemmas.List.Sums.{sum_by-append, sum_by-cons}
use Rattle.machine_model.specs.Heap.{replace_at}

-- A list ends with this.
pub record Ends {A : Type 0} (list : List A) (count : ℕ) (last : A) : Type 0 where
  pub parts : list ≡ take count list ++ last ∷ []
  pub replaced : (a : A) → set list count a ≡ take count list ++ a ∷ []
  pub changed : (change : A → A) → replace_at change list count ≡ take count list ++ change last ∷ []

pub ends : {A : Type 0} (list : List A) (count : ℕ) (last : A) → length list ≡ suc count → slice_get list count ≡ Some last → Ends list count last
ends [] count last long e = absurd (omega arith)
ends (x ∷ []) zero last long e =
    let same : x ≡ last = cc in
    record {
      parts = ap (λ y. y ∷ []) same;
      replaced = λ a. refl;
      changed = λ change. ap (λ y. change y ∷ []) same;
    }
ends (x ∷ []) (suc count) last long e = absurd (omega arith)
ends (x ∷ y ∷ list) zero last long e = absurd (omega arith)
ends (x ∷ y ∷ list) (suc count) last long e =
    let rest = ends (y ∷ list) count last (omega arith) e in
    record {
      parts = ap (λ others. x ∷ others) rest.parts;
      replaced = λ a. ap (λ others. x ∷ others) (rest.replaced a);
      changed = λ change. ap (λ others. x ∷ others) (rest.changed change);
    }

-- what is replaced by itself
pub set_same : {A : Type 0} (list : List A) (n : ℕ) (a : A) → slice_get list n ≡ Some a → set list n a ≡ list
set_same [] n a e = refl
set_same (x ∷ list) zero a e = let same : a ≡ x = cc in ap (λ y. y ∷ list) same
set_same (x ∷ list) (suc n) a e = ap (λ others. x ∷ others) (set_same list n a e)

pub sum_by-reverse : {A : Type 0} (f : A → ℕ) (list : List A) → sum_by f (reverse list) ≡ sum_by f list
sum_by-reverse f [] = refl
sum_by-reverse f (x ∷ list) =
    ap (sum_by f) (reverse-append (x ∷ []) list)
    ∙ omega (arith, sum_by-append f (reverse list) (x ∷ []), sum_by-cons f x list, sum_by-cons f x [], sum_by-reverse f list)
