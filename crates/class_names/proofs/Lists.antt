-- Searches through a list, and through the list of what its items have.
use Rattle.std.proofs.Common.{◌≡◌, ℕ, ◌+◌, Bool, true, false, not, cond, ◌||◌, List, [], ◌∷◌, Option, Some, None, map, position, nat_lt, bytes_eq, slice_get, option_map, if◌then◌else◌, ◌++◌, get_or, ap, sym, ◌∙◌, refl, true≢false}
use Rattle.std.proofs.lemmas.Bool.{or_from, false_from_ne_true}
use Rattle.std.specs.List.{list_any, prefix_len, IsDistinct, AllByRecursion}
use Rattle.std.proofs.lemmas.List.{length-map, map-append}
use Rattle.std.proofs.lemmas.List.Quantifiers.{position-Some}
use Rattle.std.proofs.lemmas.Option.{slice_get-get_or, slice_get-map}
use Rattle.std.proofs.lemmas.Slice.Eq.{bytes_eq-Decides}
use Rattle.class_names.specs.Distinct.{with_item}

prefix_len-map : {A B : Type 0} (p : B → Bool) (f : A → B) (xs : List A)
    → prefix_len p (map f xs) ≡ prefix_len (λ x. p (f x)) xs
prefix_len-map p f [] = refl
prefix_len-map p f (x ∷ xs) = ap (λ n. cond (p (f x)) (1 + n) 0) (prefix_len-map p f xs)

-- the place of an item is that of what it has
pub position-map : {A B : Type 0} (p : B → Bool) (f : A → B) (xs : List A)
    → position p (map f xs) ≡ position (λ x. p (f x)) xs
position-map p f xs =
    let front = prefix_len-map (λ x. not (p x)) f xs in
    let count = length-map xs f in
    λ i. cond (nat_lt (front i) (count i)) (Some (front i)) None

pub list_any-map : {A B : Type 0} (p : B → Bool) (f : A → B) (xs : List A)
    → list_any p (map f xs) ≡ list_any (λ x. p (f x)) xs
list_any-map p f [] = refl
list_any-map p f (x ∷ xs) = λ i. p (f x) || list_any-map p f xs i

All-map : {A B : Type 0} (P : B → Type 0) (f : A → B) (xs : List A)
    → AllByRecursion (λ x. P (f x)) xs → AllByRecursion P (map f xs)
All-map P f [] all = all
All-map P f (x ∷ xs) all = (all.0, All-map P f xs all.1)

-- items that differ in what they have
pub IsDistinct-map : {A B : Type 0} (same : B → B → Bool) (f : A → B) (xs : List A)
    → IsDistinct (λ x y. same (f x) (f y)) xs → IsDistinct same (map f xs)
unfolding IsDistinct
IsDistinct-map same f [] apart = apart
IsDistinct-map same f (x ∷ xs) apart =
    (All-map (λ y. same (f x) y ≡ false) f xs apart.0, IsDistinct-map same f xs apart.1)

-- ---- texts, by what holds them

module _ {V : Type 0} (items : V → List ℕ) where
  pub position-view : (keys : List V) (view : List (List ℕ)) (text query : List ℕ) (found : Option ℕ)
      → map items keys ≡ view → query ≡ text → found ≡ position (λ k. bytes_eq query (items k)) keys
      → found ≡ position (bytes_eq text) view
  position-view keys view text query found is_view is_text is_found =
      is_found ∙ ap (λ t. position (λ k. bytes_eq t (items k)) keys) is_text
      ∙ sym (position-map (bytes_eq text) items keys) ∙ ap (position (bytes_eq text)) is_view

  pub list_any-view : (keys : List V) (view : List (List ℕ)) (text query : List ℕ) (found : Bool)
      → map items keys ≡ view → query ≡ text → found ≡ list_any (λ k. bytes_eq query (items k)) keys
      → found ≡ list_any (bytes_eq text) view
  list_any-view keys view text query found is_view is_text is_found =
      is_found ∙ ap (λ t. list_any (λ k. bytes_eq t (items k)) keys) is_text
      ∙ sym (list_any-map (bytes_eq text) items keys) ∙ ap (list_any (bytes_eq text)) is_view

  with_item-view : (keys : List V) (key : V) (b : Bool)
      → map items (if b then keys else keys ++ key ∷ [])
      ≡ (if b then map items keys else map items keys ++ items key ∷ [])
  with_item-view keys key true = refl
  with_item-view keys key false = map-append items keys (key ∷ [])

  -- a text is added to what is seen of the keys
  pub map-with_item : (keys added : List V) (key : V) (view : List (List ℕ)) (text : List ℕ)
      → map items keys ≡ view → items key ≡ text
      → added ≡ with_item (λ a b. bytes_eq (items a) (items b)) keys key
      → map items added ≡ with_item bytes_eq view text
  map-with_item keys added key view text is_view is_text is_added =
      ap (map items) is_added ∙ with_item-view keys key (list_any (λ k. bytes_eq (items key) (items k)) keys)
      ∙ ap (λ b. if b then map items keys else map items keys ++ items key ∷ [])
      (sym (list_any-map (bytes_eq (items key)) items keys))
      ∙ λ i. with_item bytes_eq (is_view i) (is_text i)

  pub slice_get-view : (keys : List V) (n : ℕ) (key : V) (copy text : List ℕ) → slice_get keys n ≡ Some key
      → bytes_eq copy (items key) ≡ true → copy ≡ text → slice_get (map items keys) n ≡ Some text
  slice_get-view keys n key copy text at same is_text =
      slice_get-map items keys n ∙ ap (option_map items) at
      ∙ ap Some (sym ((bytes_eq-Decides copy (items key)).0 same) ∙ is_text)

-- what is found at its place is there
pub slice_get-position : (texts : List (List ℕ)) (text : List ℕ) (n : ℕ)
    → Some n ≡ position (bytes_eq text) texts → slice_get texts n ≡ Some text
slice_get-position texts text n found =
    let at = position-Some (bytes_eq text) texts n [] (sym found) in
    slice_get-get_or texts n [] at.0 ∙ ap Some (sym ((bytes_eq-Decides text (get_or texts n [])).0 at.1))

-- ---- texts that differ

stands_in : {A : Type 0} (P : A → Type 0) (front : List A) (x : A) (rest : List A) → AllByRecursion P (front ++ x ∷ rest) → P x
stands_in P [] x rest all = all.0
stands_in P (y ∷ front) x rest all = stands_in P front x rest all.1

differ_back : (a b : List ℕ) → bytes_eq a b ≡ false → bytes_eq b a ≡ false
differ_back a b differ =
    false_from_ne_true (bytes_eq b a) (λ same. true≢false (sym ((bytes_eq-Decides a b).1 (sym ((bytes_eq-Decides b a).0 same))) ∙ differ))

-- a text that differs from all others isn't among those before it
pub none_before : (front : List (List ℕ)) (text : List ℕ) (rest : List (List ℕ)) → IsDistinct bytes_eq (front ++ text ∷ rest)
    → list_any (bytes_eq text) front ≡ false
unfolding IsDistinct
none_before [] text rest apart = refl
none_before (t ∷ front) text rest apart =
    or_from (bytes_eq text t) (list_any (bytes_eq text) front)
    (differ_back t text (stands_in (λ y. bytes_eq t y ≡ false) front text rest apart.0)) (none_before front text rest apart.1)

-- so it's added behind them
pub with_item-apart : (front : List (List ℕ)) (text : List ℕ) (rest : List (List ℕ)) → IsDistinct bytes_eq (front ++ text ∷ rest)
    → with_item bytes_eq front text ≡ front ++ text ∷ []
with_item-apart front text rest apart = ap (λ b. if b then front else front ++ text ∷ []) (none_before front text rest apart)
