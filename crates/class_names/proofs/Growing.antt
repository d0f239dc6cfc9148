-- Lists that grow by what each item of another has.
use Rattle.std.proofs.Common.{◌≡◌, ℕ, ◌+◌, ◌<◌, ◌≤◌, List, [], ◌∷◌, ◌++◌, length, get_or, drop, bytes_eq, ap, sym, subst, ◌∙◌, append_assoc}
use Rattle.std.specs.List.{IsDistinct}
use Rattle.std.proofs.lemmas.List.{append-nil, at_drop_more, at_drop_all}
use Rattle.class_names.specs.Distinct.{with_item}
use Rattle.class_names.proofs.Lists.{with_item-apart}

-- what some items have, one row for each
module _ {L A : Type 0} (rows : List L → List A) (row : L → A) (empty : rows [] ≡ [])
    (more_rows : (x : L) (xs : List L) → rows (x ∷ xs) ≡ row x ∷ rows xs) (items : List L) (i : ℕ) where
  -- the row of the next item is first among the rest
  pub next_is : (x : L) (front : List A) → i < length items → x ≡ get_or items i x
      → front ++ rows (drop i items) ≡ front ++ row x ∷ rows (drop (i + 1) items)
  next_is x front inside is =
      at_drop_more (λ (l : List L). front ++ rows l) items i x inside
      ∙ ap (λ (l : List A). front ++ l) (more_rows (get_or items i x) (drop (i + 1) items))
      ∙ ap (λ (y : L). front ++ row y ∷ rows (drop (i + 1) items)) (sym is)

  -- it's added
  pub added_next : (x : L) (front more whole : List A) → i < length items → x ≡ get_or items i x → more ≡ front ++ row x ∷ []
      → front ++ rows (drop i items) ≡ whole → more ++ rows (drop (i + 1) items) ≡ whole
  added_next x front more whole inside is adds so_far =
      ap (λ (l : List A). l ++ rows (drop (i + 1) items)) adds
      ∙ append_assoc front (row x ∷ []) (rows (drop (i + 1) items))
      ∙ sym (next_is x front inside is) ∙ so_far

  pub added_all : (front whole : List A) → length items ≤ i → front ++ rows (drop i items) ≡ whole → front ≡ whole
  added_all front whole end so_far =
      sym (append-nil front) ∙ ap (λ (l : List A). front ++ l) (sym empty)
      ∙ sym (at_drop_all (λ (l : List L). front ++ rows l) items i end) ∙ so_far

-- a name that differs from all others is added
pub name_added : {L : Type 0} (rows : List L → List (List ℕ)) (row : L → List ℕ) → rows [] ≡ []
    → ((x : L) (xs : List L) → rows (x ∷ xs) ≡ row x ∷ rows xs) → (items : List L) (i : ℕ) (x : L) (names more whole : List (List ℕ))
    → i < length items → x ≡ get_or items i x → IsDistinct bytes_eq whole → more ≡ with_item bytes_eq names (row x)
    → names ++ rows (drop i items) ≡ whole → more ++ rows (drop (i + 1) items) ≡ whole
name_added rows row empty more_rows items i x names more whole inside is apart adds so_far =
    let next = next_is rows row empty more_rows items i x names inside is in
    let distinct = subst (IsDistinct bytes_eq) (sym so_far ∙ next) apart in
    added_next rows row empty more_rows items i x names more whole inside is
    (adds ∙ with_item-apart names (row x) (rows (drop (i + 1) items)) distinct) so_far
