-- Lists of which one element changes, or that get one more.
use Rattle.std.proofs.Common.{◌≡◌, ℕ, zero, suc, Bool, true, false, cond, List, [], ◌∷◌, ◌++◌, Some, None, refl, ap, ◌∙◌, map}
use Rattle.std.specs.Prelude.{slice_get, find, bytes_eq}
use Rattle.std.specs.List.{list_all, AllByRecursion, IsDistinct}
use Rattle.std.proofs.lemmas.Bool.{and_parts}
use Rattle.machine_model.specs.Heap.{replace_at}
use Rattle.machine_model.specs.State.{Interned, change_where}
use Rattle.frame_laws.proofs.Outcome.{both, some_inj}

-- what all elements pass they still do where one is changed so that it passes
pub all_replaced : {A : Type 0} (test : A → Bool) (change : A → A) → ((a : A) → test a ≡ true → test (change a) ≡ true)
    → (list : List A) (n : ℕ) → list_all test list ≡ true → list_all test (replace_at change list n) ≡ true
all_replaced test change each [] n h = refl
all_replaced test change each (a ∷ rest) zero h =
    let p = and_parts (test a) (list_all test rest) h in both (test (change a)) (list_all test rest) (each a p.0) p.1
all_replaced test change each (a ∷ rest) (suc n) h =
    let p = and_parts (test a) (list_all test rest) h in
    both (test a) (list_all test (replace_at change rest n)) p.0 (all_replaced test change each rest n p.1)

-- and where it is known which one that is
pub all_with : {A : Type 0} (test : A → Bool) (change : A → A) (list : List A) (n : ℕ) (a : A) → slice_get list n ≡ Some a
    → test (change a) ≡ true → list_all test list ≡ true → list_all test (replace_at change list n) ≡ true
all_with test change [] n a at passes h = absurd cc
all_with test change (b ∷ rest) zero a at passes h =
    both (test (change b)) (list_all test rest) (ap (λ (x : _). test (change x)) (some_inj at) ∙ passes) (and_parts (test b) (list_all test rest) h).1
all_with test change (b ∷ rest) (suc n) a at passes h =
    let p = and_parts (test b) (list_all test rest) h in
    both (test b) (list_all test (replace_at change rest n)) p.0 (all_with test change rest n a at passes p.1)

-- and where those that are picked change
pub all_where : {A : Type 0} (test picked : A → Bool) (change : A → A) → ((a : A) → test a ≡ true → test (change a) ≡ true)
    → (list : List A) → list_all test list ≡ true → list_all test (change_where picked change list) ≡ true
all_where test picked change each [] h = refl
all_where test picked change each (a ∷ rest) h =
    let p = and_parts (test a) (list_all test rest) h in
    both (test (cond (picked a) (change a) a)) (list_all test (change_where picked change rest)) (go (picked a) p.0) (all_where test picked change each rest p.1)
  where
    go : (b : Bool) → test a ≡ true → test (cond b (change a) a) ≡ true
    go true h = each a h
    go false h = h

pub all_last : {A : Type 0} (test : A → Bool) (list : List A) (a : A) → list_all test list ≡ true → test a ≡ true
    → list_all test (list ++ a ∷ []) ≡ true
all_last test [] a h passes = both (test a) true passes refl
all_last test (b ∷ rest) a h passes =
    let p = and_parts (test b) (list_all test rest) h in
    both (test b) (list_all test (rest ++ a ∷ [])) p.0 (all_last test rest a p.1 passes)

-- ---- literals

abbrev Apart : List ℕ → List Interned → Type 0
Apart units rows = AllByRecursion (λ y. bytes_eq units y ≡ false) (map (λ (i : Interned). i.units) rows)

apart_last : (units : List ℕ) (rows : List Interned) (row : Interned) → Apart units rows → bytes_eq units row.units ≡ false
    → Apart units (rows ++ row ∷ [])
apart_last units [] row h differ = (differ, tt)
apart_last units (r ∷ rows) row h differ = (h.0, apart_last units rows row h.1 differ)

-- where no row has the units of a further one, each still stands once
pub distinct_last : (rows : List Interned) (row : Interned) → find (λ (i : Interned). bytes_eq i.units row.units) rows ≡ None
    → IsDistinct bytes_eq (map (λ (i : Interned). i.units) rows)
    → IsDistinct bytes_eq (map (λ (i : Interned). i.units) (rows ++ row ∷ []))
unfolding IsDistinct
distinct_last [] row none h = (tt, tt)
distinct_last (r ∷ rows) row none h =
    let differ = go (bytes_eq r.units row.units) refl none in
    (apart_last r.units rows row h.0 differ.0, distinct_last rows row differ.1 h.1)
  where
    go : (b : Bool) → bytes_eq r.units row.units ≡ b → cond b (Some r) (find (λ (i : Interned). bytes_eq i.units row.units) rows) ≡ None
        → (bytes_eq r.units row.units ≡ false) × (find (λ (i : Interned). bytes_eq i.units row.units) rows ≡ None)
    go true is h = absurd cc
    go false is h = (is, h)
