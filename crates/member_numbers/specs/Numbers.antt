-- Members of classes by number.
use Rattle.std.specs.Prelude.{◌≡◌, ℕ, ◌+◌, ◌^◌, ◌<◌, List, length, slice_index, sum, take}

-- the members of the classes before it, and its index
abbrev pub number_of : List ℕ → ℕ → ℕ → ℕ
number_of counts class index = sum (take class counts) + index

-- the class has that member
abbrev pub IsMember : List ℕ → ℕ → ℕ → Type 0
IsMember counts class index = (class < length counts) × (index < slice_index counts class)

-- What is kept beside the counts.
pub record HasStarts (counts starts : List ℕ) (total : ℕ) : Type 0 where
  pub each : length starts ≡ length counts
  pub starts_are : (class : ℕ) → class < length counts → slice_index starts class ≡ sum (take class counts)
  pub total_is : total ≡ sum counts
  pub fits : sum counts < 2 ^ 32

-- Two members of one number are one.
abbrev pub NumbersAreApart : Type 0
NumbersAreApart = (counts : List ℕ) (class index other at : ℕ) → IsMember counts class index → IsMember counts other at
    → number_of counts class index ≡ number_of counts other at → (class ≡ other) × (index ≡ at)
