-- What holds of all elements of a list, of those that lists made of it have, and of what is found in it.
use Rattle.std.proofs.Common.{ℕ, zero, suc, Bool, true, false, cond, eqb, List, [], ◌∷◌, ◌++◌, Option, Some, None, refl, sym, subst, inl, inr, take, drop, reverse, map}
use Rattle.std.specs.Prelude.{IsTrue, IfSome, find, flat_map, option_map, option_and_then, replicate, slice_get, slice_set}
use Rattle.std.specs.List.{AllByRecursion}
use Rattle.std.proofs.lemmas.Bool.{or_cases, or_left, or_right, eqb-true, eq-eqb}
use Rattle.std.proofs.lemmas.List.{reverse-append, take-append-drop}
use Rattle.link_laws.proofs.Lists.{all_left, all_right}
use Rattle.machine_model.specs.Heap.{replace_at}
use Rattle.machine_model.specs.State.{change_where}
use Rattle.run_laws.specs.Reached.{has}

module _ {A : Type 0} (P : A → Type 0) where
  pub all_append : (xs ys : List A) → AllByRecursion P xs → AllByRecursion P ys → AllByRecursion P (xs ++ ys)
  all_append [] ys one other = other
  all_append (x ∷ xs) ys one other = (one.0, all_append xs ys one.1 other)

  pub all_take : (n : ℕ) (xs : List A) → AllByRecursion P xs → AllByRecursion P (take n xs)
  all_take n xs all = all_left P (take n xs) (drop n xs) (subst (AllByRecursion P) (sym (take-append-drop n xs)) all)

  pub all_drop : (n : ℕ) (xs : List A) → AllByRecursion P xs → AllByRecursion P (drop n xs)
  all_drop n xs all = all_right P (take n xs) (drop n xs) (subst (AllByRecursion P) (sym (take-append-drop n xs)) all)

  pub all_reversed : (xs : List A) → AllByRecursion P xs → AllByRecursion P (reverse xs)
  all_reversed [] all = tt
  all_reversed (x ∷ xs) all =
      subst (AllByRecursion P) (sym (reverse-append (x ∷ []) xs)) (all_append (reverse xs) (x ∷ []) (all_reversed xs all.1) (all.0, tt))

  pub all_replicate : (n : ℕ) (x : A) → P x → AllByRecursion P (replicate n x)
  all_replicate zero x here = tt
  all_replicate (suc n) x here = (here, all_replicate n x here)

  pub all_get : (xs : List A) (n : ℕ) → AllByRecursion P xs → IfSome (slice_get xs n) P
  all_get [] n all = tt
  all_get (x ∷ xs) zero all = all.0
  all_get (x ∷ xs) (suc n) all = all_get xs n all.1

  pub all_set : (xs : List A) (n : ℕ) (x : A) → AllByRecursion P xs → P x → AllByRecursion P (slice_set xs n x)
  all_set [] n x all here = tt
  all_set (y ∷ xs) zero x all here = (here, all.1)
  all_set (y ∷ xs) (suc n) x all here = (all.0, all_set xs n x all.1 here)

  pub all_find : (test : A → Bool) (xs : List A) → AllByRecursion P xs → IfSome (find test xs) P
  all_find test [] all = tt
  all_find test (x ∷ xs) all = go (test x) (all_find test xs all.1)
    where
      go : (b : Bool) → IfSome (find test xs) P → IfSome (cond b (Some x) (find test xs)) P
      go true rest = all.0
      go false rest = rest

  pub all_replaced : (change : A → A) → ((x : A) → P x → P (change x)) → (xs : List A) (n : ℕ) → AllByRecursion P xs
      → AllByRecursion P (replace_at change xs n)
  all_replaced change each [] n all = tt
  all_replaced change each (x ∷ xs) zero all = (each x all.0, all.1)
  all_replaced change each (x ∷ xs) (suc n) all = (all.0, all_replaced change each xs n all.1)

  pub all_where : (picked : A → Bool) (change : A → A) → ((x : A) → P x → P (change x)) → (xs : List A) → AllByRecursion P xs
      → AllByRecursion P (change_where picked change xs)
  all_where picked change each [] all = tt
  all_where picked change each (x ∷ xs) all = (go (picked x), all_where picked change each xs all.1)
    where
      go : (b : Bool) → P (cond b (change x) x)
      go true = each x all.0
      go false = all.0

  -- ---- what is given, if anything

  pub if_test : (test : Bool) (x : A) → P x → IfSome (cond test (Some x) None) P
  if_test true x here = here
  if_test false x here = tt

  pub if_map : {B : Type 0} (Q : B → Type 0) (f : A → B) (o : Option A) → IfSome o P → ((x : A) → P x → Q (f x)) → IfSome (option_map f o) Q
  if_map Q f None given each = tt
  if_map Q f (Some x) given each = each x given

  pub if_then : {B : Type 0} (Q : B → Type 0) (f : A → Option B) (o : Option A) → IfSome o P → ((x : A) → P x → IfSome (f x) Q)
      → IfSome (option_and_then f o) Q
  if_then Q f None given each = tt
  if_then Q f (Some x) given each = each x given

-- ---- numbers in lists

pub all_has : (P : ℕ → Type 0) (ns : List ℕ) (n : ℕ) → AllByRecursion P ns → IsTrue (has ns n) → P n
all_has P [] n all h = absurd cc
all_has P (m ∷ ns) n all h =
    elim (or_cases (eqb n m) (has ns n) h) [ inl same ↦ subst P (sym (eqb-true n m same)) all.0 | inr other ↦ all_has P ns n all.1 other ]

pub all_flat : {A : Type 0} (P : ℕ → Type 0) (f : A → List ℕ) (xs : List A) → AllByRecursion (λ x. AllByRecursion P (f x)) xs
    → AllByRecursion P (flat_map f xs)
all_flat P f [] all = tt
all_flat P f (x ∷ xs) all = all_append P (f x) (flat_map f xs) all.0 (all_flat P f xs all.1)

pub all_of_has : (P : ℕ → Type 0) (ns : List ℕ) → ((n : ℕ) → IsTrue (has ns n) → P n) → AllByRecursion P ns
all_of_has P [] each = tt
all_of_has P (m ∷ ns) each = (
  each m (or_left (eqb m m) (has ns m) (eq-eqb m m refl)),
  all_of_has P ns (λ n h. each n (or_right (eqb n m) (has ns n) h)),
)

pub all_map : {A B : Type 0} (P : B → Type 0) (f : A → B) (xs : List A) → AllByRecursion (λ x. P (f x)) xs → AllByRecursion P (map f xs)
all_map P f [] all = tt
all_map P f (x ∷ xs) all = (all.0, all_map P f xs all.1)

pub all_of_flat : {A : Type 0} (P : ℕ → Type 0) (f : A → List ℕ) (xs : List A) → AllByRecursion P (flat_map f xs)
    → AllByRecursion (λ x. AllByRecursion P (f x)) xs
all_of_flat P f [] all = tt
all_of_flat P f (x ∷ xs) all = (all_left P (f x) (flat_map f xs) all, all_of_flat P f xs (all_right P (f x) (flat_map f xs) all))
