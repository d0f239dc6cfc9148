-- The first fault of some items, looked for one by one.
use Rattle.std.proofs.Common.{◌≡◌, ℕ, ◌+◌, ◌<◌, ◌≤◌, List, [], ◌∷◌, Option, Some, None, length, get_or, drop, ap, sym, ◌∙◌}
use Rattle.std.proofs.lemmas.List.{at_drop_more, at_drop_all}
use Rattle.jv_model.specs.Partial.{or_else}

-- `first` gives the first fault of a list.
pub record IsFirst {L B : Type 0} (fault : L → Option B) (first : List L → Option B) : Type 0 where
  pub none : first [] ≡ None
  pub more : (item : L) (items : List L) → first (item ∷ items) ≡ or_else (fault item) (first items)

module _ {L B : Type 0} (fault : L → Option B) (first : List L → Option B) (is : IsFirst fault first) (items : List L) (i : ℕ) where
  step : (x : L) → i < length items → x ≡ get_or items i x
      → first (drop i items) ≡ or_else (fault x) (first (drop (i + 1) items))
  step x inside read =
      at_drop_more first items i x inside ∙ is.more (get_or items i x) (drop (i + 1) items)
      ∙ ap (λ (y : L). or_else (fault y) (first (drop (i + 1) items))) (sym read)

  -- this one has it
  pub first_here : (x : L) (found : B) (whole : Option B) → i < length items → x ≡ get_or items i x
      → Some found ≡ fault x → first (drop i items) ≡ whole → Some found ≡ whole
  first_here x found whole inside read has so_far =
      ap (λ (o : Option B). or_else o (first (drop (i + 1) items))) has ∙ sym (step x inside read) ∙ so_far

  -- this one has none
  pub first_later : (x : L) (whole : Option B) → i < length items → x ≡ get_or items i x
      → None ≡ fault x → first (drop i items) ≡ whole → first (drop (i + 1) items) ≡ whole
  first_later x whole inside read has so_far =
      ap (λ (o : Option B). or_else o (first (drop (i + 1) items))) has ∙ sym (step x inside read) ∙ so_far

  -- none has any
  pub first_end : (whole : Option B) → length items ≤ i → first (drop i items) ≡ whole → None ≡ whole
  first_end whole end so_far = sym is.none ∙ sym (at_drop_all first items i end) ∙ so_far
