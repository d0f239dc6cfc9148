-- The least of some numbers, part by part.
use Rattle.std.proofs.Common.{◌≡◌, ℕ, ◌+◌, ◌<◌, Bool, true, false, length, get_or, drop, List, [], ◌∷◌, ◌++◌, Option, Some, None, fold, flat_map, if◌then◌else◌, ap, sym, ◌∙◌, refl, arith}
use Rattle.std.specs.Prelude.{min}
use Rattle.std.specs.List.{list_any}
use Rattle.std.proofs.lemmas.Grind.{flat_map-append}
use Rattle.std.proofs.lemmas.List.{append-nil, at_drop_more}
use Rattle.jv_model.specs.Partial.{least}
use Rattle.class_faults.specs.Descriptors.{lesser}

pub lesser_none : (a : Option ℕ) → lesser a None ≡ a
lesser_none None = refl
lesser_none (Some n) = refl

pub lesser_assoc : (a b d : Option ℕ) → lesser (lesser a b) d ≡ lesser a (lesser b d)
lesser_assoc None b d = refl
lesser_assoc (Some n) None d = refl
lesser_assoc (Some n) (Some m) None = refl
lesser_assoc (Some n) (Some m) (Some k) = ap Some (omega arith)

pub lesser_comm : (a b : Option ℕ) → lesser a b ≡ lesser b a
lesser_comm None None = refl
lesser_comm None (Some m) = refl
lesser_comm (Some n) None = refl
lesser_comm (Some n) (Some m) = ap Some (omega arith)

lesser_self : (a : Option ℕ) → lesser a a ≡ a
lesser_self None = refl
lesser_self (Some n) = ap Some (omega arith)

-- of two parts

fold-min : (n m : ℕ) (ns : List ℕ) → fold min (min n m) ns ≡ min n (fold min m ns)
fold-min n m [] = refl
fold-min n m (k ∷ ns) =
    let same : min (min n m) k ≡ min n (min m k) = omega arith in
    ap (λ (a : ℕ). fold min a ns) same ∙ fold-min n (min m k) ns

pub least-more : (n : ℕ) (ns : List ℕ) → least (n ∷ ns) ≡ lesser (Some n) (least ns)
least-more n [] = refl
least-more n (m ∷ ns) = ap Some (fold-min n m ns)

pub least-append : (ns ms : List ℕ) → least (ns ++ ms) ≡ lesser (least ns) (least ms)
least-append [] ms = refl
least-append (n ∷ ns) ms =
    least-more n (ns ++ ms) ∙ ap (lesser (Some n)) (least-append ns ms)
    ∙ sym (lesser_assoc (Some n) (least ns) (least ms))
    ∙ ap (λ (a : Option ℕ). lesser a (least ms)) (sym (least-more n ns))

-- ---- of what items have, each once

module _ {A : Type 0} (has : A → List ℕ) where
  -- the least that one of some items has
  abbrev pub least_of : List A → Option ℕ
  least_of items = least (flat_map has items)

  pub least_of-more : (item : A) (items : List A) → least_of (item ∷ items) ≡ lesser (least (has item)) (least_of items)
  least_of-more item items = least-append (has item) (flat_map has items)

  pub least_of-last : (items : List A) (item : A) → least_of (items ++ item ∷ []) ≡ lesser (least_of items) (least (has item))
  least_of-last items item =
      ap least (flat_map-append has items (item ∷ []) ∙ ap (λ (l : List ℕ). flat_map has items ++ l) (append-nil (has item)))
      ∙ least-append (flat_map has items) (has item)

  module _ (same : A → A → Bool) (sound : (a b : A) → same a b ≡ true → a ≡ b) where
    -- one that is there changes nothing
    there : (item : A) (items : List A) → list_any (same item) items ≡ true
        → lesser (least_of items) (least (has item)) ≡ least_of items
    there item [] is = absurd cc
    there item (other ∷ items) is = by (same item other) refl (there item items)
      where
        by : (t : Bool) → same item other ≡ t
            → (list_any (same item) items ≡ true
            → lesser (least_of items) (least (has item)) ≡ least_of items)
            → lesser (least_of (other ∷ items)) (least (has item)) ≡ least_of (other ∷ items)
        by true found rest =
            ap (λ (o : Option ℕ). lesser o (least (has item))) (least_of-more other items)
            ∙ ap (λ (x : A). lesser (lesser (least (has other)) (least_of items)) (least (has x))) (sound item other found)
            ∙ lesser_comm (lesser (least (has other)) (least_of items)) (least (has other))
            ∙ sym (lesser_assoc (least (has other)) (least (has other)) (least_of items))
            ∙ ap (λ (o : Option ℕ). lesser o (least_of items)) (lesser_self (least (has other)))
            ∙ sym (least_of-more other items)
        by false missed rest =
            ap (λ (o : Option ℕ). lesser o (least (has item))) (least_of-more other items)
            ∙ lesser_assoc (least (has other)) (least_of items) (least (has item))
            ∙ ap (lesser (least (has other))) (rest (rw missed at is))
            ∙ sym (least_of-more other items)

    -- one is added where it isn't there
    pub least_of-once : (items : List A) (item : A)
        → least_of (if list_any (same item) items then items else items ++ item ∷ [])
        ≡ lesser (least_of items) (least (has item))
    least_of-once items item = by (list_any (same item) items) refl
      where
        by : (t : Bool) → list_any (same item) items ≡ t
            → least_of (if t then items else items ++ item ∷ []) ≡ lesser (least_of items) (least (has item))
        by true is = sym (there item items is)
        by false is = least_of-last items item

-- ---- item by item

module _ {L : Type 0} (part : L → List ℕ) (rest : List L → Option ℕ)
    (more : (x : L) (xs : List L) → rest (x ∷ xs) ≡ lesser (least (part x)) (rest xs))
    (items : List L) (i : ℕ) (d : L) where
  -- what one item more has is counted
  pub least_step : (so_far next whole : Option ℕ) → i < length items
      → next ≡ lesser so_far (least (part (get_or items i d)))
      → lesser so_far (rest (drop i items)) ≡ whole → lesser next (rest (drop (i + 1) items)) ≡ whole
  least_step so_far next whole inside adds is =
      ap (λ (a : Option ℕ). lesser a (rest (drop (i + 1) items))) adds
      ∙ lesser_assoc so_far (least (part (get_or items i d))) (rest (drop (i + 1) items))
      ∙ ap (lesser so_far) (sym (more (get_or items i d) (drop (i + 1) items)) ∙ sym (at_drop_more rest items i d inside))
      ∙ is
