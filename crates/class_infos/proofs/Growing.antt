-- Lists that grow by what some items of another have.
use Rattle.std.proofs.Common.{◌≡◌, ℕ, ◌+◌, ◌<◌, ◌≤◌, List, [], ◌∷◌, ◌++◌, Option, Some, None, length, get_or, drop, option_to_list, ap, sym, ◌∙◌, refl, append_assoc}
use Rattle.std.specs.List.{cons_option}
use Rattle.std.proofs.lemmas.List.{append-nil, at_drop_more, at_drop_all}

option_first : {A : Type 0} (o : Option A) (xs : List A) → cons_option o xs ≡ option_to_list o ++ xs
option_first None xs = refl
option_first (Some x) xs = refl

module _ {L A : Type 0} (rows : List L → List A) (row : L → Option A) (empty : rows [] ≡ [])
    (more_rows : (x : L) (xs : List L) → rows (x ∷ xs) ≡ cons_option (row x) (rows xs)) (items : List L) (i : ℕ) where
  pub added_found : (x : L) (front more whole : List A) → i < length items → more ≡ front ++ option_to_list (row (get_or items i x))
      → front ++ rows (drop i items) ≡ whole → more ++ rows (drop (i + 1) items) ≡ whole
  added_found x front more whole inside adds so_far =
      let item = get_or items i x in
      let rest = rows (drop (i + 1) items) in
      ap (λ (l : List A). l ++ rest) adds
      ∙ append_assoc front (option_to_list (row item)) rest
      ∙ ap (λ (l : List A). front ++ l) (sym (more_rows item (drop (i + 1) items) ∙ option_first (row item) rest))
      ∙ sym (at_drop_more (λ (l : List L). front ++ rows l) items i x inside) ∙ so_far

  pub found_all : (front whole : List A) → length items ≤ i → front ++ rows (drop i items) ≡ whole → front ≡ whole
  found_all front whole end so_far =
      sym (append-nil front) ∙ ap (λ (l : List A). front ++ l) (sym empty)
      ∙ sym (at_drop_all (λ (l : List L). front ++ rows l) items i end) ∙ so_far
