-- Instructions that follow each other are found at their pcs.
use Rattle.std.proofs.Common.{◌≡◌, ℕ, zero, suc, ◌<◌, ◌≤◌, List, [], ◌∷◌, length, refl, sym, ap, ◌∙◌, subst, arith, ⊎_elim}
use Rattle.std.specs.Prelude.{Bool, true, false, Option, Some, None, ◌==◌, cond, map, find, position, slice_get, option_map, unwrap_or}
use Rattle.std.specs.List.{position_or_len}
use Rattle.std.proofs.lemmas.Bool.Decides.{eqb_tells}
use Rattle.std.proofs.lemmas.Bool.{lt-ltb}
use Rattle.std.proofs.lemmas.Option.{slice_get_cases, slice_get-map}
use Rattle.std.proofs.lemmas.List.Folds.{find_at}
use Rattle.jv_model.specs.Code.{Placed}
use Rattle.jv_model.specs.ClassData.{Const}
use Rattle.code_model.specs.Names.{named_placed}
use Rattle.code_store.specs.Order.{Follows}
use Rattle.local_runs.specs.Places.{pc_at}

other_pc : (a b : ℕ) → a < b → (a == b) ≡ false
other_pc a b h = ⊎_elim (λ t. absurd (omega (arith, t.1))) (λ f. f.0) (eqb_tells a b)

same_pc : (a : ℕ) → (a == a) ≡ true
same_pc a = ⊎_elim (λ t. t.0) (λ f. absurd (f.1 refl)) (eqb_tells a a)

pub is_pc : (a b : ℕ) → (a == b) ≡ true → a ≡ b
is_pc a b h = ⊎_elim (λ t. t.1) (λ f. let none = sym h ∙ f.0 in absurd cc) (eqb_tells a b)

-- ---- names in place of indices

pub follows_named : (pool : List Const) (place : ℕ) (xs : List (Placed ℕ)) → Follows place xs → Follows place (map (named_placed pool) xs)
follows_named pool place [] h = tt
follows_named pool place (x ∷ xs) h = (h.0, h.1, follows_named pool x.next xs h.2)

pub named_at : (pool : List Const) (xs : List (Placed ℕ)) (n : ℕ) (placed : Placed ℕ) → slice_get xs n ≡ Some placed → slice_get (map (named_placed pool) xs) n ≡ Some (named_placed pool placed)
named_at pool xs n placed e = slice_get-map (named_placed pool) xs n ∙ ap (option_map (named_placed pool)) e

-- ---- order

-- an instruction stands behind the place from which they follow
pub behind : {A : Type 0} (place : ℕ) (xs : List (Placed A)) (n : ℕ) (p : Placed A) → Follows place xs → slice_get xs n ≡ Some p → (place ≤ p.pc) × (p.pc < p.next)
behind {A = A} place [] n p h e = absurd cc
behind {A = A} place (x ∷ xs) zero p h e =
    let same : x ≡ p = cc in
    subst (λ (q : Placed A). (place ≤ q.pc) × (q.pc < q.next)) same (omega (arith, h.0), h.1)
behind {A = A} place (x ∷ xs) (suc n) p h e =
    let rest = behind x.next xs n p h.2 e in (omega (arith, h.0, h.1, rest.0), rest.1)

-- each is the first at its pc
pub found_at : {A : Type 0} (place : ℕ) (xs : List (Placed A)) (n : ℕ) (p : Placed A) → Follows place xs → slice_get xs n ≡ Some p → find (λ (i : Placed A). i.pc == p.pc) xs ≡ Some p
found_at {A = A} place [] n p h e = absurd cc
found_at {A = A} place (x ∷ xs) zero p h e =
    let same : x ≡ p = cc in
    subst (λ (q : Placed A). find (λ (i : Placed A). i.pc == q.pc) (x ∷ xs) ≡ Some q) same
    (ap (λ b. cond b (Some x) (find (λ (i : Placed A). i.pc == x.pc) xs)) (same_pc x.pc))
found_at {A = A} place (x ∷ xs) (suc n) p h e =
    let rest = behind x.next xs n p h.2 e in
    ap (λ b. cond b (Some x) (find (λ (i : Placed A). i.pc == p.pc) xs)) (other_pc x.pc p.pc (omega (arith, h.1, rest.0)))
    ∙ found_at x.next xs n p h.2 e

first_found : {A : Type 0} (place : ℕ) (xs : List (Placed A)) (q : Placed A) → Follows place xs → find (λ (i : Placed A). i.pc == place) xs ≡ Some q → slice_get xs 0 ≡ Some q
first_found {A = A} place [] q h e = absurd cc
first_found {A = A} place (x ∷ xs) q h e =
    sym (ap (λ b. cond b (Some x) (find (λ (i : Placed A). i.pc == place) xs)) (ap (λ a. a == place) h.0 ∙ same_pc place)) ∙ e

-- the one at the place after an instruction is the next one
pub next_found : {A : Type 0} (place : ℕ) (xs : List (Placed A)) (n : ℕ) (p q : Placed A) → Follows place xs → slice_get xs n ≡ Some p → find (λ (i : Placed A). i.pc == p.next) xs ≡ Some q → slice_get xs (suc n) ≡ Some q
next_found {A = A} place [] n p q h e f = absurd cc
next_found {A = A} place (x ∷ xs) zero p q h e f =
    let same : x ≡ p = cc in
    let here = subst (λ (r : Placed A). find (λ (i : Placed A). i.pc == r.next) (x ∷ xs) ≡ Some q) (sym same) f in
    first_found x.next xs q h.2
    (sym (ap (λ b. cond b (Some x) (find (λ (i : Placed A). i.pc == x.next) xs)) (other_pc x.pc x.next h.1)) ∙ here)
next_found {A = A} place (x ∷ xs) (suc n) p q h e f =
    let rest = behind x.next xs n p h.2 e in
    next_found x.next xs n p q h.2 e
    (sym (ap (λ b. cond b (Some x) (find (λ (i : Placed A). i.pc == p.next) xs)) (other_pc x.pc p.next (omega (arith, h.1, rest.0, rest.1)))) ∙ f)

-- ---- what is found has a number

pub some_within : {A : Type 0} (xs : List A) (n : ℕ) (x : A) → slice_get xs n ≡ Some x → n < length xs
some_within xs n x e = ⊎_elim (λ t. t.1) (λ p. let none = sym p.1 ∙ e in absurd cc) (slice_get_cases xs n).1

pub position_found : {A : Type 0} (test : A → Bool) (xs : List A) (x : A) → find test xs ≡ Some x → (n : ℕ) × (position test xs ≡ Some n) × (slice_get xs n ≡ Some x)
position_found test xs x e =
    let at = sym (find_at test xs) ∙ e in
    let inside = some_within xs (position_or_len test xs) x at in
    (position_or_len test xs, ap (λ b. cond b (Some (position_or_len test xs)) None) (lt-ltb (position_or_len test xs) (length xs) inside), at)

passes_or : {A : Type 0} (test : A → Bool) (y : A) (found : Option A) (x : A) (b : Bool) → test y ≡ b → (found ≡ Some x → test x ≡ true) → cond b (Some y) found ≡ Some x → test x ≡ true
passes_or test y found x true t h e = let same : y ≡ x = cc in subst (λ z. test z ≡ true) same t
passes_or test y found x false t h e = h e

pub find_passes : {A : Type 0} (test : A → Bool) (xs : List A) (x : A) → find test xs ≡ Some x → test x ≡ true
find_passes test [] x e = absurd cc
find_passes test (y ∷ ys) x e = passes_or test y (find test ys) x (test y) refl (find_passes test ys x) e

pub pc_there : {A : Type 0} (xs : List (Placed A)) (n : ℕ) (p : Placed A) → slice_get xs n ≡ Some p → pc_at xs n ≡ p.pc
pc_there {A = A} xs n p e = ap (λ (o : Option (Placed A)). unwrap_or (option_map (λ (i : Placed A). i.pc) o) 0) e
