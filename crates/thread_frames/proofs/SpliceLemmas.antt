-- What lies below, above and within a group that was put into words.
use Rattle.std.proofs.Common.{◌≡◌, ℕ, zero, suc, ◌+◌, ◌-◌, ◌≤◌, List, [], ◌∷◌, ◌++◌, length, take, drop, refl, sym, ap, ◌∙◌, append_assoc, length-append, arith}
use Rattle.std.proofs.lemmas.List.{take-append-le, length-take, length-drop, take_at, drop_at, drop-take, take-append-drop, drop-drop}
use Rattle.thread_frames.specs.Splices.{spliced}

pub take_take : {A : Type 0} (xs : List A) (d n : ℕ) → d ≤ n → take d (take n xs) ≡ take d xs
take_take xs zero n h = refl
take_take xs (suc d) zero h = absurd (omega arith)
take_take [] (suc d) (suc n) h = refl
take_take (x ∷ xs) (suc d) (suc n) h = ap (λ ys. x ∷ ys) (take_take xs d n (omega arith))

-- ---- words that agree

-- below a place
pub same_front : {A : Type 0} (n m : ℕ) (after words : List A) → m ≤ n → take n after ≡ take n words → take m after ≡ take m words
same_front n m after words h same = sym (take_take after m n h) ∙ ap (take m) same ∙ take_take words m n h

pub same_below : {A : Type 0} (n base count : ℕ) (after words : List A) → base + count ≤ n → take n after ≡ take n words → take count (drop base after) ≡ take count (drop base words)
same_below n base count after words h same =
    sym (drop-take base count after) ∙ ap (drop base) (same_front n (base + count) after words h same) ∙ drop-take base count words

-- from a place on
pub same_above : {A : Type 0} (n base count : ℕ) (after words : List A) → n ≤ base → drop n after ≡ drop n words → take count (drop base after) ≡ take count (drop base words)
same_above {A = A} n base count after words h same =
    let sum : (base - n) + n ≡ base = omega arith in
    let sum' : n + (base - n) ≡ base = omega arith in
    let rest : (ws : List A) → drop base ws ≡ drop (base - n) (drop n ws) = λ ws. sym (drop-drop (base - n) n ws ∙ ap (λ k. drop k ws) sum') in
    ap (take count) (rest after ∙ ap (drop (base - n)) same ∙ sym (rest words))

-- ---- a group that was put

module _ {A : Type 0} (at : ℕ) (group words : List A) (fits : at + length group ≤ length words) where
  front : length (take at words) ≡ at
  front = omega (arith, length-take at words)

  pub length-spliced : length (spliced at group words) ≡ length words
  length-spliced =
      omega (arith, front, length-append (take at words) (group ++ drop (at + length group) words), length-append group (drop (at + length group) words), length-drop (at + length group) words)

  pub below : (n : ℕ) → n ≤ at → take n (spliced at group words) ≡ take n words
  below n h = take-append-le n (take at words) (group ++ drop (at + length group) words) (omega (arith, front)) ∙ take_take words n at h

  -- what begins with the group
  pub from : drop at (spliced at group words) ≡ group ++ drop (at + length group) words
  from = drop_at (take at words) (group ++ drop (at + length group) words) at front

  pub above : (n : ℕ) → at + length group ≤ n → drop n (spliced at group words) ≡ drop n words
  above n h =
      let one : at + (n - at) ≡ n = omega arith in
      let two : length group + (n - at - length group) ≡ n - at = omega arith in
      let three : (at + length group) + (n - at - length group) ≡ n = omega arith in
      sym (drop-drop (n - at) at (spliced at group words) ∙ ap (λ k. drop k (spliced at group words)) one)
      ∙ ap (drop (n - at)) from
      ∙ sym (drop-drop (n - at - length group) (length group) (group ++ drop (at + length group) words) ∙ ap (λ k. drop k (group ++ drop (at + length group) words)) two)
      ∙ ap (drop (n - at - length group)) (drop_at group (drop (at + length group) words) (length group) refl)
      ∙ drop-drop (n - at - length group) (at + length group) words
      ∙ ap (λ k. drop k words) three

  pub is_there : take (length group) (drop at (spliced at group words)) ≡ group
  is_there = ap (take (length group)) from ∙ take_at group (drop (at + length group) words) (length group) refl

-- within words that are looked at
pub within : {A : Type 0} (base place count : ℕ) (group words : List A) → place + length group ≤ count → base + count ≤ length words → take count (drop base (spliced (base + place) group words)) ≡ spliced place group (take count (drop base words))
within {A = A} base place count group words fits long =
    let whole = spliced (base + place) group words in
    let here = take count (drop base words) in
    let g = length group in
    let inside : (base + place) + length group ≤ length words = omega arith in
    let sum : (base + place) + (count - place) ≡ base + count = omega arith in
    let cut : place + (count - place) ≡ count = omega arith in
    let left : g + (count - place - g) ≡ count - place = omega arith in
    let all : (place + g) + (count - (place + g)) ≡ count = omega arith in
    let less : count - place - g ≡ count - (place + g) = omega arith in
    let deep : base + (place + g) ≡ (base + place) + g = omega arith in
    let parted : take count (drop base whole) ≡ take place (drop base whole) ++ take (count - place) (drop place (drop base whole)) =
    sym (take-append-drop place (take count (drop base whole)))
    ∙ ap (λ x. x ++ drop place (take count (drop base whole))) (take_take (drop base whole) place count (omega arith))
    ∙ ap (λ x. take place (drop base whole) ++ x) (ap (λ k. drop place (take k (drop base whole))) (sym cut) ∙ drop-take place (count - place) (drop base whole)) in
    let one : take place (drop base whole) ≡ take place here =
    same_below (base + place) base place whole words (omega arith) (below (base + place) group words inside (base + place) (omega arith))
    ∙ sym (take_take (drop base words) place count (omega arith)) in
    let two : drop place (drop base whole) ≡ group ++ drop (base + place + g) words =
    drop-drop place base whole ∙ from (base + place) group words inside in
    let three : take (count - place) (group ++ drop (base + place + g) words) ≡ group ++ take (count - place - g) (drop (base + place + g) words) =
    cut_group group (drop (base + place + g) words) (count - place) (omega arith) in
    let four : take (count - place - g) (drop (base + place + g) words) ≡ drop (place + g) here =
    ap (λ k. take k (drop (base + place + g) words)) less
    ∙ ap (take (count - (place + g))) (ap (λ k. drop k words) (sym deep) ∙ sym (drop-drop (place + g) base words))
    ∙ sym (drop-take (place + g) (count - (place + g)) (drop base words))
    ∙ ap (λ k. drop (place + g) (take k (drop base words))) all in
    parted ∙ ap (λ x. x ++ take (count - place) (drop place (drop base whole))) one
    ∙ ap (λ x. take place here ++ x) (ap (take (count - place)) two ∙ three ∙ ap (λ x. group ++ x) four)
  where
    cut_group : {A : Type 0} (xs ys : List A) (n : ℕ) → length xs ≤ n → take n (xs ++ ys) ≡ xs ++ take (n - length xs) ys
    cut_group [] ys n h = let none : n - 0 ≡ n = omega arith in ap (λ k. take k ys) (sym none)
    cut_group (x ∷ xs) ys zero h = absurd (omega arith)
    cut_group (x ∷ xs) ys (suc n) h =
        let less : suc n - suc (length xs) ≡ n - length xs = omega arith in
        ap (λ zs. x ∷ zs) (cut_group xs ys n (omega arith)) ∙ ap (λ k. x ∷ (xs ++ take k ys)) (sym less)

-- two groups, one behind the other, are one
pub spliced-then : {A : Type 0} (at : ℕ) (group more words : List A) → at + (length group + length more) ≤ length words → spliced (at + length group) more (spliced at group words) ≡ spliced at (group ++ more) words
spliced-then at group more words fits =
    let rest = drop (at + length group) words in
    let inside : at + length group ≤ length words = omega arith in
    let front : length (take at words) ≡ at = omega (arith, length-take at words) in
    let long : at + length group ≡ length (take at words ++ group) = omega (arith, front, length-append (take at words) group) in
    let joined : take at words ++ (group ++ rest) ≡ (take at words ++ group) ++ rest = sym (append_assoc (take at words) group rest) in
    let one : take (at + length group) (spliced at group words) ≡ take at words ++ group =
    ap (take (at + length group)) joined ∙ take_at (take at words ++ group) rest (at + length group) (sym long) in
    let end : (at + length group) + length more ≡ at + length (group ++ more) = omega (arith, length-append group more) in
    let two : drop ((at + length group) + length more) (spliced at group words) ≡ drop (at + length (group ++ more)) words =
    above at group words inside ((at + length group) + length more) (omega arith) ∙ ap (λ k. drop k words) end in
    ap (λ x. x ++ (more ++ drop ((at + length group) + length more) (spliced at group words))) one
    ∙ ap (λ x. (take at words ++ group) ++ (more ++ x)) two
    ∙ append_assoc (take at words) group (more ++ drop (at + length (group ++ more)) words)
    ∙ ap (λ x. take at words ++ x) (sym (append_assoc group more (drop (at + length (group ++ more)) words)))
