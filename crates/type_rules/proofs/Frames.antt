-- Lists of types, by place and from their ends.
use Rattle.std.proofs.Common.{◌≡◌, ℕ, suc, ◌+◌, ◌-◌, ◌<◌, ◌≤◌, ◌==◌, Bool, true, false, ◌&&◌, List, [], ◌∷◌, ◌++◌, Some, length, map, reverse, slice_get, get_or, take, drop, ap, sym, ◌∙◌, refl, arith}
use Rattle.std.proofs.lemmas.Bool.{false≢true}
use Rattle.std.proofs.lemmas.Bool.Decides.{Decides-eqb}
use Rattle.std.proofs.lemmas.List.{reverse-append, length-reverse, take-append-drop, length-drop, drop_at, drop_more, drop_all, get_or-reverse}
use Rattle.std.proofs.lemmas.Option.{slice_get-get_or}
use lib.Pointwise.{pointwise}

-- the topmost are the last
pub reverse-take : {A : Type 0} (xs : List A) (n : ℕ) → n ≤ length xs → reverse (take (length xs - n) xs) ≡ drop n (reverse xs)
reverse-take {A} xs n few =
    let m = length xs - n in
    let long : length (reverse (drop m xs)) ≡ n = omega (arith, length-reverse (drop m xs), length-drop m xs) in
    sym (ap (λ (l : List A). drop n (reverse l)) (sym (take-append-drop m xs))
    ∙ ap (drop n) (reverse-append (take m xs) (drop m xs))
    ∙ drop_at (reverse (drop m xs)) (reverse (take m xs)) n long)

pub slice_get-reverse : {A : Type 0} (xs : List A) (n : ℕ) → n < length xs → slice_get (reverse xs) n ≡ slice_get xs (length xs - 1 - n)
slice_get-reverse [] n inside = absurd (omega arith)
slice_get-reverse (x ∷ xs) n inside =
    slice_get-get_or (reverse (x ∷ xs)) n x (omega (arith, length-reverse (x ∷ xs)))
    ∙ ap Some (get_or-reverse (x ∷ xs) n x inside)
    ∙ sym (slice_get-get_or (x ∷ xs) (length (x ∷ xs) - 1 - n) x (omega arith))

-- ---- pairs

and_true : (b : Bool) → (b && true) ≡ b
and_true true = refl
and_true false = refl

and_false : (b : Bool) → (b && false) ≡ false
and_false true = refl
and_false false = refl

and_comm : (a b : Bool) → (a && b) ≡ (b && a)
and_comm true b = sym (and_true b)
and_comm false b = sym (and_false b)

module _ {A B : Type 0} (E : A → B → Bool) where
  pub pointwise-unequal : (xs : List A) (ys : List B) → (length xs ≡ length ys → ⊥) → pointwise E xs ys ≡ false
  pointwise-unequal [] [] unequal = absurd (unequal refl)
  pointwise-unequal [] (y ∷ ys) unequal = refl
  pointwise-unequal (x ∷ xs) [] unequal = refl
  pointwise-unequal (x ∷ xs) (y ∷ ys) unequal =
      ap (λ (b : Bool). E x y && b) (pointwise-unequal xs ys (λ equal. unequal (ap suc equal))) ∙ and_false (E x y)

  pub pointwise-push : (xs : List A) (ys : List B) (x : A) (y : B) → length xs ≡ length ys
      → pointwise E (xs ++ x ∷ []) (ys ++ y ∷ []) ≡ (pointwise E xs ys && E x y)
  pointwise-push [] [] x y equal = and_true (E x y)
  pointwise-push [] (b ∷ ys) x y equal = absurd (omega arith)
  pointwise-push (a ∷ xs) [] x y equal = absurd (omega arith)
  pointwise-push (a ∷ xs) (b ∷ ys) x y equal =
      ap (λ (r : Bool). E a b && r) (pointwise-push xs ys x y (omega arith)) ∙ assoc (E a b) (pointwise E xs ys) (E x y)
    where
      assoc : (p q r : Bool) → (p && (q && r)) ≡ ((p && q) && r)
      assoc true q r = refl
      assoc false q r = refl

  pub pointwise-reverse : (xs : List A) (ys : List B) → pointwise E (reverse xs) (reverse ys) ≡ pointwise E xs ys
  pointwise-reverse [] [] = refl
  pointwise-reverse [] (y ∷ ys) = pointwise-unequal [] (reverse (y ∷ ys)) (λ e. absurd (omega (arith, length-reverse (y ∷ ys), e)))
  pointwise-reverse (x ∷ xs) [] = pointwise-unequal (reverse (x ∷ xs)) [] (λ e. absurd (omega (arith, length-reverse (x ∷ xs), e)))
  pointwise-reverse (x ∷ xs) (y ∷ ys) = by (length xs == length ys) refl (pointwise-reverse xs ys)
    where
      by : (b : Bool) → (length xs == length ys) ≡ b → pointwise E (reverse xs) (reverse ys) ≡ pointwise E xs ys
          → pointwise E (reverse (x ∷ xs)) (reverse (y ∷ ys)) ≡ (E x y && pointwise E xs ys)
      by true equal rest =
          let long : length xs ≡ length ys = (Decides-eqb (length xs) (length ys)).0 equal in
          (λ i. pointwise E (reverse-append (x ∷ []) xs i) (reverse-append (y ∷ []) ys i))
          ∙ pointwise-push (reverse xs) (reverse ys) x y (length-reverse xs ∙ long ∙ sym (length-reverse ys))
          ∙ ap (λ (r : Bool). r && E x y) rest ∙ and_comm (pointwise E xs ys) (E x y)
      by false unequal rest =
          let differ : length xs ≡ length ys → ⊥ = λ e. false≢true (sym unequal ∙ (Decides-eqb (length xs) (length ys)).1 e) in
          pointwise-unequal (reverse (x ∷ xs)) (reverse (y ∷ ys)) (λ e. differ (omega (arith, length-reverse (x ∷ xs), length-reverse (y ∷ ys), e)))
          ∙ sym (ap (λ (r : Bool). E x y && r) (pointwise-unequal xs ys differ) ∙ and_false (E x y))

  pub pointwise-map : {C D : Type 0} (f : C → A) (h : D → B) (xs : List C) (ys : List D)
      → pointwise E (map f xs) (map h ys) ≡ pointwise (λ x y. E (f x) (h y)) xs ys
  pointwise-map f h [] [] = refl
  pointwise-map f h [] (y ∷ ys) = refl
  pointwise-map f h (x ∷ xs) [] = refl
  pointwise-map f h (x ∷ xs) (y ∷ ys) = ap (λ (r : Bool). E (f x) (h y) && r) (pointwise-map f h xs ys)

  -- one pair more is looked at
  pub pointwise-more : (xs : List A) (ys : List B) (i : ℕ) (x : A) (y : B) → i < length xs → i < length ys
      → x ≡ get_or xs i x → y ≡ get_or ys i y
      → pointwise E (drop i xs) (drop i ys) ≡ (E x y && pointwise E (drop (i + 1) xs) (drop (i + 1) ys))
  pointwise-more xs ys i x y in_xs in_ys is_x is_y =
      (λ k. pointwise E (drop_more xs i x in_xs k) (drop_more ys i y in_ys k))
      ∙ (λ k. E (sym is_x k) (sym is_y k) && pointwise E (drop (i + 1) xs) (drop (i + 1) ys))

  pub pointwise-end : (xs : List A) (ys : List B) (i : ℕ) → length xs ≤ i → length ys ≤ i → pointwise E (drop i xs) (drop i ys) ≡ true
  pointwise-end xs ys i past_xs past_ys = λ k. pointwise E (drop_all i xs past_xs k) (drop_all i ys past_ys k)
