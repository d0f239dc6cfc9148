-- What holds of all items of lists that others are made of.
use Rattle.std.proofs.Common.{◌≡◌, ℕ, zero, suc, List, [], ◌∷◌, ◌++◌, Bool, true, false, cond, map, take, drop, Option, Some, None, refl}
use Rattle.std.specs.Prelude.{IfSome, filter_map, find, flat_map, slice_get, unwrap_or}
use Rattle.std.specs.List.{AllByRecursion, cons_option, list_all, onto_first, slice_split}
use Rattle.std.proofs.lemmas.Bool.{and_parts}

pub all_any : {A : Type 0} (P : A → Type 0) (xs : List A) → ((x : A) → P x) → AllByRecursion P xs
all_any P [] any = tt
all_any P (x ∷ xs) any = (any x, all_any P xs any)

pub all_weaker : {A : Type 0} (P Q : A → Type 0) (xs : List A) → ((x : A) → P x → Q x) → AllByRecursion P xs
    → AllByRecursion Q xs
all_weaker P Q [] weaker all = tt
all_weaker P Q (x ∷ xs) weaker all = (weaker x all.0, all_weaker P Q xs weaker all.1)

pub all_append : {A : Type 0} (P : A → Type 0) (xs ys : List A) → AllByRecursion P xs → AllByRecursion P ys
    → AllByRecursion P (xs ++ ys)
all_append P [] ys first second = second
all_append P (x ∷ xs) ys first second = (first.0, all_append P xs ys first.1 second)

pub all_parts : {A : Type 0} (P : A → Type 0) (xs ys : List A) → AllByRecursion P (xs ++ ys)
    → AllByRecursion P xs × AllByRecursion P ys
all_parts P [] ys all = (tt, all)
all_parts P (x ∷ xs) ys all = let parts = all_parts P xs ys all.1 in ((all.0, parts.0), parts.1)

pub all_take : {A : Type 0} (P : A → Type 0) (n : ℕ) (xs : List A) → AllByRecursion P xs → AllByRecursion P (take n xs)
all_take P zero xs all = tt
all_take P (suc n) [] all = tt
all_take P (suc n) (x ∷ xs) all = (all.0, all_take P n xs all.1)

pub all_drop : {A : Type 0} (P : A → Type 0) (n : ℕ) (xs : List A) → AllByRecursion P xs → AllByRecursion P (drop n xs)
all_drop P zero xs all = all
all_drop P (suc n) [] all = tt
all_drop P (suc n) (x ∷ xs) all = all_drop P n xs all.1

pub all_map : {A B : Type 0} (P : B → Type 0) (f : A → B) (xs : List A) → AllByRecursion (λ x. P (f x)) xs
    → AllByRecursion P (map f xs)
all_map P f [] all = tt
all_map P f (x ∷ xs) all = (all.0, all_map P f xs all.1)

pub all_flat : {A B : Type 0} (P : B → Type 0) (f : A → List B) (xs : List A)
    → AllByRecursion (λ x. AllByRecursion P (f x)) xs → AllByRecursion P (flat_map f xs)
all_flat P f [] all = tt
all_flat P f (x ∷ xs) all = all_append P (f x) (flat_map f xs) all.0 (all_flat P f xs all.1)

here_all : {B : Type 0} (Q R : B → Type 0) (item : Option B) (ys : List B) → AllByRecursion Q (cons_option item ys)
    → IfSome item (λ y. Q y → R y) → (AllByRecursion Q ys → AllByRecursion R ys) → AllByRecursion R (cons_option item ys)
here_all Q R None ys all here rest = rest all
here_all Q R (Some y) ys all here rest = (here all.0, rest all.1)

-- what is known of all that is given, and follows of each from what is known of what gives it
pub all_given : {A B : Type 0} (P : A → Type 0) (Q R : B → Type 0) (f : A → Option B) (xs : List A) → AllByRecursion P xs
    → AllByRecursion Q (filter_map f xs) → ((x : A) → P x → IfSome (f x) (λ y. Q y → R y)) → AllByRecursion R (filter_map f xs)
all_given P Q R f [] all given each = tt
all_given P Q R f (x ∷ xs) all given each =
    here_all Q R (f x) (filter_map f xs) given (each x all.0) (λ given. all_given P Q R f xs all.1 given each)

abbrev no_more : {A : Type 0} → A → Type 0
no_more x = Unit {0}

unasked : {B : Type 0} (R : B → Type 0) (y : Option B) → IfSome y R → IfSome y (λ y. no_more y → R y)
unasked R None is = tt
unasked R (Some y) is = λ _. is

-- the same where nothing else is known of what is given
pub all_some : {A B : Type 0} (P : A → Type 0) (R : B → Type 0) (f : A → Option B) (xs : List A) → AllByRecursion P xs
    → ((x : A) → P x → IfSome (f x) R) → AllByRecursion R (filter_map f xs)
all_some P R f xs all each =
    all_given P no_more R f xs all (all_any no_more (filter_map f xs) (λ _. tt)) (λ x is. unasked R (f x) (each x is))

pub at_all : {A : Type 0} (P : A → Type 0) (xs : List A) (k : ℕ) (x : A) → AllByRecursion P xs → P x
    → P (unwrap_or (slice_get xs k) x)
at_all P [] k x all none = none
at_all P (y ∷ ys) zero x all none = all.0
at_all P (y ∷ ys) (suc k) x all none = at_all P ys k x all.1 none

by_find : {A : Type 0} (P : A → Type 0) (test : Bool) (x : A) (found : Option A) → P x → IfSome found P
    → IfSome (cond test (Some x) found) P
by_find P true x found here rest = here
by_find P false x found here rest = rest

pub find_all : {A : Type 0} (P : A → Type 0) (test : A → Bool) (xs : List A) → AllByRecursion P xs → IfSome (find test xs) P
find_all P test [] all = tt
find_all P test (x ∷ xs) all = by_find P (test x) x (find test xs) all.0 (find_all P test xs all.1)

onto_all : {A : Type 0} (P : A → Type 0) (x : A) (parts : List (List A)) → P x → AllByRecursion (AllByRecursion P) parts
    → AllByRecursion (AllByRecursion P) (onto_first x parts)
onto_all P x [] here all = ((here, tt), tt)
onto_all P x (part ∷ parts) here all = ((here, all.0), all.1)

by_split : {A : Type 0} (P : A → Type 0) (test : Bool) (x : A) (parts : List (List A)) → P x
    → AllByRecursion (AllByRecursion P) parts → AllByRecursion (AllByRecursion P) (cond test ([] ∷ parts) (onto_first x parts))
by_split P true x parts here all = (tt, all)
by_split P false x parts here all = onto_all P x parts here all

pub split_all : {A : Type 0} (P : A → Type 0) (test : A → Bool) (xs : List A) → AllByRecursion P xs
    → AllByRecursion (AllByRecursion P) (slice_split test xs)
split_all P test [] all = (tt, tt)
split_all P test (x ∷ xs) all = by_split P (test x) x (slice_split test xs) all.0 (split_all P test xs all.1)

-- a test of all items, as a fact
pub tests_all : {A : Type 0} (test : A → Bool) (xs : List A) → list_all test xs ≡ true
    → AllByRecursion (λ x. test x ≡ true) xs
tests_all test [] all = tt
tests_all test (x ∷ xs) all = let parts = and_parts (test x) (list_all test xs) all in (parts.0, tests_all test xs parts.1)

-- and back
pub all_tests : {A : Type 0} (test : A → Bool) (xs : List A) → AllByRecursion (λ x. test x ≡ true) xs
    → list_all test xs ≡ true
all_tests test [] all = refl
all_tests test (x ∷ xs) all = rw (all.0, all_tests test xs all.1) refl
