-- The first method of a signature.
use Rattle.std.proofs.Common.{◌≡◌, ℕ, zero, suc, ◌+◌, ◌<◌, ◌==◌, ◌&&◌, ◌||◌, Bool, true, false, not, cond, List, [], ◌∷◌, ◌++◌, Option, Some, None, length, position, slice_get, nat_lt, is_some, option_map, option_and_then, if◌then◌else◌, ap, sym, subst, ◌∙◌, refl, true≢false, arith}
use Rattle.std.specs.List.{list_any, prefix_len, position_or_len}
use Rattle.std.specs.Option.{option_or}
use Rattle.std.proofs.lemmas.Bool.{false≢true}
use Rattle.std.proofs.lemmas.Bool.Decides.{Decides-eqb, Decides-ltb}
use Rattle.jv_types.specs.declared.number.MethodNo.{MethodNo}
use Rattle.class_names.specs.declared.signatures.Signature.{Signature}
use Rattle.class_names.specs.Distinct.{same_signature, with_item}
use Rattle.selection_table.specs.Selection.{Selection, first_of}

and_true : (a b : Bool) → (a && b) ≡ true → (a ≡ true) × (b ≡ true)
and_true true b both = (refl, both)
and_true false b both = absurd (false≢true both)

pub same_is : (s t : Signature) → same_signature s t ≡ true → s ≡ t
same_is s t same =
    let both = and_true (s.name == t.name) (s.descriptor == t.descriptor) same in
    let name = (Decides-eqb s.name t.name).0 both.0 in
    let descriptor = (Decides-eqb s.descriptor t.descriptor).0 both.1 in
    λ i. record { name = name i; descriptor = descriptor i }

-- it's there exactly where its signature is
there : (ss : List Signature) (ms : List MethodNo) (s : Signature) → length ms ≡ length ss
    → is_some (first_of ss ms s) ≡ list_any (same_signature s) ss
there [] ms s long = refl
there (t ∷ ss) [] s long = absurd (omega arith)
there (t ∷ ss) (m ∷ ms) s long = by (same_signature s t) (there ss ms s (omega arith))
  where
    by : (b : Bool) → is_some (first_of ss ms s) ≡ list_any (same_signature s) ss
        → is_some (if b then Some m else first_of ss ms s) ≡ (b || list_any (same_signature s) ss)
    by true same = refl
    by false same = same

or_some : (o : Option MethodNo) (rest : Option MethodNo) → is_some o ≡ true → o ≡ option_or o rest
or_some None rest some = absurd (false≢true some)
or_some (Some m) rest some = refl

or_none : (o : Option MethodNo) → o ≡ option_or o None
or_none None = refl
or_none (Some m) = refl

-- one more at the end
push : (ss : List Signature) (ms : List MethodNo) (t : Signature) (m : MethodNo) (s : Signature) → length ms ≡ length ss
    → first_of (ss ++ t ∷ []) (ms ++ m ∷ []) s ≡ option_or (first_of ss ms s) (if same_signature s t then Some m else None)
push [] [] t m s long = refl
push [] (n ∷ ms) t m s long = absurd (omega arith)
push (u ∷ ss) [] t m s long = absurd (omega arith)
push (u ∷ ss) (n ∷ ms) t m s long = by (same_signature s u) (push ss ms t m s (omega arith))
  where
    by : (b : Bool)
        → first_of (ss ++ t ∷ []) (ms ++ m ∷ []) s ≡ option_or (first_of ss ms s) (if same_signature s t then Some m else None)
        → (if b then Some n else first_of (ss ++ t ∷ []) (ms ++ m ∷ []) s)
        ≡ option_or (if b then Some n else first_of ss ms s) (if same_signature s t then Some m else None)
    by true rest = refl
    by false rest = rest

module _ (ss : List Signature) (ms : List MethodNo) (t : Signature) (m : MethodNo) (long : length ms ≡ length ss) where
  -- one that is there stays
  pub kept : list_any (same_signature t) ss ≡ true → (s : Signature)
      → first_of ss ms s ≡ option_or (first_of ss ms s) (if same_signature s t then Some m else None)
  kept known s = by (same_signature s t) refl
    where
      by : (b : Bool) → same_signature s t ≡ b → first_of ss ms s ≡ option_or (first_of ss ms s) (if b then Some m else None)
      by true same =
          or_some (first_of ss ms s) (Some m)
          (there ss ms s long ∙ ap (λ (u : Signature). list_any (same_signature u) ss) (same_is s t same) ∙ known)
      by false other = or_none (first_of ss ms s)

  pub added : (ss' : List Signature) (ms' : List MethodNo) → ss' ≡ ss ++ t ∷ [] → ms' ≡ ms ++ m ∷ [] → (s : Signature)
      → first_of ss' ms' s ≡ option_or (first_of ss ms s) (if same_signature s t then Some m else None)
  added ss' ms' is_ss is_ms s = (λ i. first_of (is_ss i) (is_ms i) s) ∙ push ss ms t m s long

-- ---- by its place

position-cons : {A : Type 0} (p : A → Bool) (x : A) (xs : List A)
    → position p (x ∷ xs) ≡ (if p x then Some 0 else option_map suc (position p xs))
position-cons {A} p x xs = by (p x)
  where
    rest : (b : Bool) → nat_lt (position_or_len p xs) (length xs) ≡ b
        → (if nat_lt (1 + position_or_len p xs) (length (x ∷ xs)) then Some (1 + position_or_len p xs) else None)
        ≡ option_map suc (if b then Some (position_or_len p xs) else None)
    rest true inside =
        let here : 1 + position_or_len p xs < length (x ∷ xs) = omega (arith, (Decides-ltb (position_or_len p xs) (length xs)).0 inside) in
        ap (λ (b : Bool). if b then Some (1 + position_or_len p xs) else None) ((Decides-ltb (1 + position_or_len p xs) (length (x ∷ xs))).1 here)
        ∙ ap (λ (n : ℕ). Some n) (omega arith)
    rest false past =
        let never : 1 + position_or_len p xs < length (x ∷ xs) → ⊥ =
        λ lt. let here : position_or_len p xs < length xs = omega arith in
        true≢false (sym ((Decides-ltb (position_or_len p xs) (length xs)).1 here) ∙ past) in
        fails (nat_lt (1 + position_or_len p xs) (length (x ∷ xs))) refl never
      where
        fails : (b : Bool) → nat_lt (1 + position_or_len p xs) (length (x ∷ xs)) ≡ b → (1 + position_or_len p xs < length (x ∷ xs) → ⊥)
            → (if b then Some (1 + position_or_len p xs) else None) ≡ None
        fails false is never = refl
        fails true is never = absurd (never ((Decides-ltb (1 + position_or_len p xs) (length (x ∷ xs))).0 is))

    by : (b : Bool)
        → (let n = cond (not b) (1 + prefix_len (λ y. not (p y)) xs) 0 in cond (nat_lt n (length (x ∷ xs))) (Some n) None)
        ≡ (if b then Some 0 else option_map suc (position p xs))
    by true =
        let here : 0 < length (x ∷ xs) = omega arith in
        ap (λ (b : Bool). cond b (Some 0) None) ((Decides-ltb 0 (length (x ∷ xs))).1 here)
    by false = rest (nat_lt (position_or_len p xs) (length xs)) refl

pub at_place : (ss : List Signature) (ms : List MethodNo) (s : Signature) → length ms ≡ length ss
    → option_and_then (slice_get ms) (position (same_signature s) ss) ≡ first_of ss ms s
at_place [] ms s long = refl
at_place (t ∷ ss) [] s long = absurd (omega arith)
at_place (t ∷ ss) (m ∷ ms) s long =
    ap (option_and_then (slice_get (m ∷ ms))) (position-cons (same_signature s) t ss)
    ∙ by (same_signature s t) (at_place ss ms s (omega arith))
  where
    step : (o : Option ℕ) → option_and_then (slice_get (m ∷ ms)) (option_map suc o) ≡ option_and_then (slice_get ms) o
    step None = refl
    step (Some n) = refl

    by : (b : Bool) → option_and_then (slice_get ms) (position (same_signature s) ss) ≡ first_of ss ms s
        → option_and_then (slice_get (m ∷ ms)) (if b then Some 0 else option_map suc (position (same_signature s) ss))
        ≡ (if b then Some m else first_of ss ms s)
    by true rest = refl
    by false rest = step (position (same_signature s) ss) ∙ rest
