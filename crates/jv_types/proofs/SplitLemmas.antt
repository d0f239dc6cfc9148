-- Bytes that are cut at each byte of one kind.
use Rattle.std.proofs.Common.{◌≡◌, ◌<◌, Bool, List, [], ◌∷◌, length, refl, arith}
use Rattle.std.specs.List.{slice_split, position_or_len}
use Rattle.std.proofs.lemmas.List.Splits.{length-slice_split, slice_split_none}
use Rattle.std.proofs.lemmas.List.Sums.{fails_before_first}

-- a list that isn't empty, by its first item and the others
pub record HasFirst {A : Type 0} (items : List A) : Type 0 where
  pub first : A
  pub others : List A
  pub is : items ≡ first ∷ others

has_first : {A : Type 0} (items : List A) → 0 < length items → HasFirst items
has_first [] some = absurd (omega arith)
has_first (x ∷ xs) some = record { first = x; others = xs; is = refl }

-- there is a part, be it an empty one
pub slice_split_some : {A : Type 0} (p : A → Bool) (items : List A) → HasFirst (slice_split p items)
slice_split_some p items =
    has_first (slice_split p items) (omega (arith, length-slice_split p items))

-- where there is nothing to cut at, all is one part
pub slice_split_only : {A : Type 0} (p : A → Bool) (items : List A)
    → position_or_len p items ≡ length items → slice_split p items ≡ items ∷ []
slice_split_only p items lacks =
    slice_split_none p items (λ k d below. fails_before_first p items k d (omega arith))
