-- Lists of which the least is the same, whatever their items have.
use Rattle.std.proofs.Common.{◌≡◌, ℕ, ◌+◌, ◌<◌, ◌≤◌, Bool, true, false, ◌||◌, List, [], ◌∷◌, ◌++◌, length, map, get_or, drop, flat_map, Option, Some, None, refl, ap, sym, ◌∙◌, true≢false, inl, inr, arith}
use Rattle.std.specs.Prelude.{min, nat_le}
use Rattle.std.specs.List.{list_any}
use Rattle.std.proofs.lemmas.Bool.{cases_Bool, leb-true, leb-false, le-leb}
use Rattle.std.proofs.lemmas.Grind.{flat_map-append}
use Rattle.std.proofs.lemmas.List.Folds.{list_any-append, flat_map-map}
use Rattle.jv_model.specs.Partial.{least, passes}
use Rattle.jv_model.specs.Code.{MapFrame}
use Rattle.link_model.specs.Uses.{Used, map_type_uses, frame_uses}
use Rattle.jv_types.specs.Frames.{HaveSame, frame_types, row_type, row_types}
use Rattle.jv_types.specs.declared.frames.TypeRow.{TypeRow}
use Rattle.class_faults.specs.Descriptors.{lesser}
use Rattle.class_faults.specs.Uses.{HaveOneLeast}
use Rattle.class_faults.proofs.Appending.{flat_more}
use Rattle.class_faults.proofs.Least.{least-more, least-append}

-- ---- the least, by which numbers it's below

-- there is one, and it's no more than that
abbrev at_most : ℕ → Option ℕ → Bool
at_most n number = passes (λ (m : ℕ). nat_le m n) number

or_false : (b : Bool) → b ≡ (b || false)
or_false true = refl
or_false false = refl

lesser_at_most : (n : ℕ) (a b : Option ℕ) → at_most n (lesser a b) ≡ (at_most n a || at_most n b)
lesser_at_most n None b = refl
lesser_at_most n (Some a) None = or_false (nat_le a n)
lesser_at_most n (Some a) (Some b) = elim (cases_Bool (nat_le a n)) [
  | inl below ↦
      le-leb (min a b) n (omega (arith, leb-true a n below))
      ∙ sym (ap (λ (t : Bool). t || nat_le b n) below)
  | inr above ↦
      elim (cases_Bool (nat_le b n)) [
        | inl below ↦
            le-leb (min a b) n (omega (arith, leb-true b n below)) ∙ sym below
            ∙ sym (ap (λ (t : Bool). t || nat_le b n) above)
        | inr both ↦
            not_below (min a b) n (omega (arith, leb-false a n above, leb-false b n both)) ∙ sym both
            ∙ sym (ap (λ (t : Bool). t || nat_le b n) above)
      ]
]
  where
    not_below : (m k : ℕ) → k < m → nat_le m k ≡ false
    not_below m k more = elim (cases_Bool (nat_le m k)) [
      | inl below ↦ absurd (omega (arith, leb-true m k below))
      | inr above ↦ above
    ]

least_at_most : (n : ℕ) (ms : List ℕ) → at_most n (least ms) ≡ list_any (λ (m : ℕ). nat_le m n) ms
least_at_most n [] = refl
least_at_most n (m ∷ ms) =
    ap (at_most n) (least-more m ms) ∙ lesser_at_most n (Some m) (least ms)
    ∙ ap (λ (b : Bool). nat_le m n || b) (least_at_most n ms)

-- the same number is, of which the same are no less
same_number : (a b : Option ℕ) → ((n : ℕ) → at_most n a ≡ at_most n b) → a ≡ b
same_number None None same = refl
same_number None (Some b) same = absurd (true≢false (sym (le-leb b b (omega arith)) ∙ sym (same b)))
same_number (Some a) None same = absurd (true≢false (sym (le-leb a a (omega arith)) ∙ same a))
same_number (Some a) (Some b) same =
    let low : b ≤ a = leb-true b a (sym (same a) ∙ le-leb a a (omega arith)) in
    let high : a ≤ b = leb-true a b (same b ∙ le-leb b b (omega arith)) in
    ap Some (omega arith)

any_flat : {A B : Type 0} (test : B → Bool) (has : A → List B) (xs : List A)
    → list_any test (flat_map has xs) ≡ list_any (λ x. list_any test (has x)) xs
any_flat test has [] = refl
any_flat test has (x ∷ xs) =
    list_any-append test (has x) (flat_map has xs) ∙ ap (λ (b : Bool). list_any test (has x) || b) (any_flat test has xs)

pub same_least : {A : Type 0} (xs ys : List A) → HaveSame xs ys → HaveOneLeast xs ys
same_least xs ys same has = same_number (least (flat_map has xs)) (least (flat_map has ys)) (λ n.
    least_at_most n (flat_map has xs) ∙ any_flat (λ (m : ℕ). nat_le m n) has xs
    ∙ same (λ x. list_any (λ (m : ℕ). nat_le m n) (has x))
    ∙ sym (least_at_most n (flat_map has ys) ∙ any_flat (λ (m : ℕ). nat_le m n) has ys))

-- ---- part by part

pub one_least-append : {A : Type 0} (xs xs' ys ys' : List A) → HaveOneLeast xs xs' → HaveOneLeast ys ys'
    → HaveOneLeast (xs ++ ys) (xs' ++ ys')
one_least-append xs xs' ys ys' first second has =
    ap least (flat_map-append has xs ys) ∙ least-append (flat_map has xs) (flat_map has ys)
    ∙ (λ i. lesser (first has i) (second has i))
    ∙ sym (ap least (flat_map-append has xs' ys') ∙ least-append (flat_map has xs') (flat_map has ys'))

flat-flat : {A B C : Type 0} (f : B → List C) (g : A → List B) (xs : List A)
    → flat_map f (flat_map g xs) ≡ flat_map (λ x. flat_map f (g x)) xs
flat-flat f g [] = refl
flat-flat f g (x ∷ xs) =
    flat_map-append f (g x) (flat_map g xs) ∙ ap (λ l. flat_map f (g x) ++ l) (flat-flat f g xs)

-- those of items that are the same
one_least-flat : {A B : Type 0} (f : A → List B) (xs ys : List A) → HaveSame xs ys
    → HaveOneLeast (flat_map f xs) (flat_map f ys)
one_least-flat f xs ys same has =
    ap least (flat-flat has f xs) ∙ same_least xs ys same (λ x. flat_map has (f x)) ∙ sym (ap least (flat-flat has f ys))

-- those of the types of frames
pub frames_added : (before after : List Used) (rows : List TypeRow) (frames : List (MapFrame ℕ))
    → HaveSame (row_types rows) (flat_map frame_types frames)
    → after ≡ before ++ flat_map (λ row. map_type_uses (row_type row)) rows
    → HaveOneLeast after (before ++ flat_map frame_uses frames)
frames_added before after rows frames same added has =
    ap (λ (uses : List Used). least (flat_map has uses))
    (added ∙ ap (λ (uses : List Used). before ++ uses) (sym (flat_map-map map_type_uses row_type rows)))
    ∙ one_least-append before before (flat_map map_type_uses (row_types rows)) (flat_map map_type_uses (flat_map frame_types frames))
    (λ has. refl) (one_least-flat map_type_uses (row_types rows) (flat_map frame_types frames) same) has
    ∙ ap (λ (uses : List Used). least (flat_map has (before ++ uses))) (flat-flat map_type_uses frame_types frames)

-- ---- item by item

module _ {L : Type 0} (f : L → List Used) (items : List L) (i : ℕ) (x : L) where
  -- what one item more has is added
  pub least_more : (old new whole : List Used) → i < length items → x ≡ get_or items i x
      → HaveOneLeast new (old ++ f x) → HaveOneLeast (old ++ flat_map f (drop i items)) whole
      → HaveOneLeast (new ++ flat_map f (drop (i + 1) items)) whole
  least_more old new whole inside is adds so_far has =
      let rest = flat_map f (drop (i + 1) items) in
      one_least-append new (old ++ f x) rest rest adds (λ has. refl) has
      ∙ ap (λ (uses : List Used). least (flat_map has uses))
      (flat_more f items i x old (old ++ f x) (old ++ flat_map f (drop i items)) inside is refl refl)
      ∙ so_far has
