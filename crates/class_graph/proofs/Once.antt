-- Numbers, each where it first stands: what seeing some of them before changes.
use Rattle.std.proofs.Common.{◌≡◌, ℕ, ◌+◌, ◌<◌, ◌≤◌, ◌==◌, Bool, true, false, ◌||◌, if◌then◌else◌, List, [], ◌∷◌, ◌++◌, length, get_or, drop, IsTrue, ◌⊎◌, inl, inr, ap, sym, subst, ◌∙◌, refl, append_assoc, arith}
use Rattle.std.proofs.lemmas.Bool.{false≢true}
use Rattle.std.proofs.lemmas.List.{append-nil, at_drop_more, at_drop_all}
use Rattle.class_graph.specs.Graph.{is_in, once}
use Rattle.class_graph.proofs.Sets.{in_none, in_head, in_cons, in_cases, in_left, in_right}

-- each of the first is one of the second
abbrev pub AreAmong : List ℕ → List ℕ → Type 0
AreAmong few many = (z : ℕ) → IsTrue (is_in few z) → IsTrue (is_in many z)

also_last : (few many : List ℕ) (n : ℕ) → AreAmong few many → AreAmong (few ++ n ∷ []) (many ++ n ∷ [])
also_last few many n among z h = elim (in_cases few (n ∷ []) z h) [
  | inl before ↦ in_left many (n ∷ []) z (among z before)
  | inr last ↦ in_right many (n ∷ []) z last
]

also_more : (few many : List ℕ) (n : ℕ) → AreAmong few many → AreAmong few (many ++ n ∷ [])
also_more few many n among z h = in_left many (n ∷ []) z (among z h)

also_there : (few many : List ℕ) (n : ℕ) → AreAmong few many → IsTrue (is_in many n) → AreAmong (few ++ n ∷ []) many
also_there few many n among there z h = elim (in_cases few (n ∷ []) z h) [
  | inl before ↦ among z before
  | inr last ↦ elim (in_cons n [] z last) [
    | inl same ↦ subst (λ (k : ℕ). IsTrue (is_in many k)) (sym same) there
    | inr none ↦ absurd (in_none z none)
  ]
]

-- what was left out for having been seen is left out anyway
once-once : (few many ns : List ℕ) → AreAmong few many → once many (once few ns) ≡ once many ns
unfolding once
once-once few many [] among = refl
once-once few many (n ∷ ns) among =
    by (is_in few n) (is_in many n) refl refl (once-once few many ns among)
    (λ there. once-once (few ++ n ∷ []) many ns (also_there few many n among there))
    (once-once (few ++ n ∷ []) (many ++ n ∷ []) ns (also_last few many n among))
  where
    by : (a b : Bool) → is_in few n ≡ a → is_in many n ≡ b
        → once many (once few ns) ≡ once many ns
        → (IsTrue (is_in many n) → once many (once (few ++ n ∷ []) ns) ≡ once many ns)
        → once (many ++ n ∷ []) (once (few ++ n ∷ []) ns) ≡ once (many ++ n ∷ []) ns
        → once many (if is_in few n then once few ns else n ∷ once (few ++ n ∷ []) ns)
        ≡ (if is_in many n then once many ns else n ∷ once (many ++ n ∷ []) ns)
    by true true few_is many_is seen there new =
        ap (λ (t : Bool). once many (if t then once few ns else n ∷ once (few ++ n ∷ []) ns)) few_is ∙ seen
        ∙ ap (λ (t : Bool). if t then once many ns else n ∷ once (many ++ n ∷ []) ns) (sym many_is)
    by true false few_is many_is seen there new = absurd (false≢true (sym many_is ∙ among n few_is))
    by false true few_is many_is seen there new =
        ap (λ (t : Bool). once many (if t then once few ns else n ∷ once (few ++ n ∷ []) ns)) few_is
        ∙ ap (λ (t : Bool). if t then once many (once (few ++ n ∷ []) ns) else n ∷ once (many ++ n ∷ []) (once (few ++ n ∷ []) ns)) many_is
        ∙ there many_is
        ∙ ap (λ (t : Bool). if t then once many ns else n ∷ once (many ++ n ∷ []) ns) (sym many_is)
    by false false few_is many_is seen there new =
        ap (λ (t : Bool). once many (if t then once few ns else n ∷ once (few ++ n ∷ []) ns)) few_is
        ∙ ap (λ (t : Bool). if t then once many (once (few ++ n ∷ []) ns) else n ∷ once (many ++ n ∷ []) (once (few ++ n ∷ []) ns)) many_is
        ∙ ap (λ (l : List ℕ). n ∷ l) new
        ∙ ap (λ (t : Bool). if t then once many ns else n ∷ once (many ++ n ∷ []) ns) (sym many_is)

once-append-once : (few many xs ns : List ℕ) → AreAmong few many → once many (xs ++ once few ns) ≡ once many (xs ++ ns)
unfolding once
once-append-once few many [] ns among = once-once few many ns among
once-append-once few many (x ∷ xs) ns among =
    let seen = once-append-once few many xs ns among in
    let new = once-append-once few (many ++ x ∷ []) xs ns (also_more few many x among) in
    λ i. if is_in many x then seen i else x ∷ new i

-- what was seen, or stands before, isn't listed again
once-again : (seen xs ns : List ℕ) (n : ℕ) → IsTrue (is_in seen n) ⊎ IsTrue (is_in xs n)
    → once seen (xs ++ n ∷ ns) ≡ once seen (xs ++ ns)
unfolding once
once-again seen [] ns n there =
    let was : is_in seen n ≡ true = elim there [ inl before ↦ before | inr none ↦ absurd (in_none n none) ] in
    ap (λ (t : Bool). if t then once seen ns else n ∷ once (seen ++ n ∷ []) ns) was
once-again seen (x ∷ xs) ns n there =
    by (is_in seen x) refl (λ h. once-again seen xs ns n h) (λ h. once-again (seen ++ x ∷ []) xs ns n h)
  where
    by : (b : Bool) → is_in seen x ≡ b
        → (IsTrue (is_in seen n) ⊎ IsTrue (is_in xs n) → once seen (xs ++ n ∷ ns) ≡ once seen (xs ++ ns))
        → (IsTrue (is_in (seen ++ x ∷ []) n) ⊎ IsTrue (is_in xs n)
        → once (seen ++ x ∷ []) (xs ++ n ∷ ns) ≡ once (seen ++ x ∷ []) (xs ++ ns))
        → (if is_in seen x then once seen (xs ++ n ∷ ns) else x ∷ once (seen ++ x ∷ []) (xs ++ n ∷ ns))
        ≡ (if is_in seen x then once seen (xs ++ ns) else x ∷ once (seen ++ x ∷ []) (xs ++ ns))
    by true is old new =
        ap (λ (t : Bool). if t then once seen (xs ++ n ∷ ns) else x ∷ once (seen ++ x ∷ []) (xs ++ n ∷ ns)) is
        ∙ old (elim there [
          | inl before ↦ inl before
          | inr h ↦ elim (in_cons x xs n h) [
            | inl same ↦ inl (subst (λ (k : ℕ). IsTrue (is_in seen k)) (sym same) is)
            | inr behind ↦ inr behind
          ]
        ])
        ∙ ap (λ (t : Bool). if t then once seen (xs ++ ns) else x ∷ once (seen ++ x ∷ []) (xs ++ ns)) (sym is)
    by false is old new =
        ap (λ (t : Bool). if t then once seen (xs ++ n ∷ ns) else x ∷ once (seen ++ x ∷ []) (xs ++ n ∷ ns)) is
        ∙ ap (λ (l : List ℕ). x ∷ l) (new (elim there [
          | inl before ↦ inl (in_left seen (x ∷ []) n before)
          | inr h ↦ elim (in_cons x xs n h) [
            | inl same ↦ inl (in_right seen (x ∷ []) n (subst (λ (k : ℕ). IsTrue (is_in (x ∷ []) k)) (sym same) (in_head x [])))
            | inr behind ↦ inr behind
          ]
        ]))
        ∙ ap (λ (t : Bool). if t then once seen (xs ++ ns) else x ∷ once (seen ++ x ∷ []) (xs ++ ns)) (sym is)

-- A list, and then a walk from its first number on that lists each number once.
pub once-walk : (first : ℕ) (rest ns : List ℕ) → once [] (first ∷ rest ++ once [] (first ∷ ns)) ≡ once [] (first ∷ rest ++ ns)
once-walk first rest ns =
    once-append-once [] [] (first ∷ rest) (first ∷ ns) (λ z h. h)
    ∙ once-again [] (first ∷ rest) ns first (inr (in_head first rest))

-- ---- a list that grows by each number that it hasn't

pub once-begins : (numbers met : List ℕ) → met ≡ [] → met ++ once met numbers ≡ once [] numbers
once-begins numbers met none = ap (λ (l : List ℕ). l ++ once l numbers) none

module _ (numbers : List ℕ) (i : ℕ) (met : List ℕ) where
  -- one number more is looked at
  pub once-more : (added : List ℕ) → i < length numbers → added ≡ (if is_in met (get_or numbers i 0) then met else met ++ get_or numbers i 0 ∷ [])
      → met ++ once met (drop i numbers) ≡ once [] numbers
      → added ++ once added (drop (i + 1) numbers) ≡ once [] numbers
  unfolding once
  once-more added inside adds so_far =
      let n = get_or numbers i 0 in
      let rest = drop (i + 1) numbers in
      ap (λ (l : List ℕ). l ++ once l rest) adds
      ∙ by (is_in met n)
      ∙ sym (at_drop_more (λ (l : List ℕ). met ++ once met l) numbers i 0 inside)
      ∙ so_far
    where
      by : (b : Bool)
          → ((if b then met else met ++ get_or numbers i 0 ∷ []) ++ once (if b then met else met ++ get_or numbers i 0 ∷ []) (drop (i + 1) numbers))
          ≡ met ++ (if b then once met (drop (i + 1) numbers) else get_or numbers i 0 ∷ once (met ++ get_or numbers i 0 ∷ []) (drop (i + 1) numbers))
      by true = refl
      by false = append_assoc met (get_or numbers i 0 ∷ []) (once (met ++ get_or numbers i 0 ∷ []) (drop (i + 1) numbers))

  pub once-end : length numbers ≤ i → met ++ once met (drop i numbers) ≡ once [] numbers → met ≡ once [] numbers
  unfolding once
  once-end end so_far =
      sym (append-nil met) ∙ sym (at_drop_all (λ (l : List ℕ). met ++ once met l) numbers i end) ∙ so_far
