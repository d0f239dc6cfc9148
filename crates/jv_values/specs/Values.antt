-- Which value of the definitions a `Value` is, and which operands words hold.
use Rattle.std.specs.Prelude.{ℕ, List, ◌∷◌, map, reverse, take}
use Rattle.machine_model.specs.Value as model
use Rattle.jv_values.specs.declared.value.Value.{Value}
use Rattle.jv_values.specs.declared.value.Value.TheVariants.{Int, Long, Half, Null, Ref}

abbrev pub value_of : Value → model.Value
value_of (Int n) = model.int n
value_of (Long n) = model.long n
value_of Half = model.half
value_of Null = model.null
value_of (Ref serial) = model.reference serial

abbrev pub values_of : List Value → List model.Value
values_of words = map value_of words

-- the operands in the first words, so many as the depth says, from the top down
unfoldable pub operands_in : List Value → ℕ → List model.Value
operands_in words depth = values_of (reverse (take depth words))

-- the words that a value takes
abbrev pub places_of : Value → ℕ
places_of (Long n) = 2
places_of other = 1

-- ---- what stands on top

abbrev pub HasInt : List model.Value → Type 0
HasInt (model.int a ∷ rest) = Unit {0}
HasInt operands = ⊥

abbrev pub HasTwoInts : List model.Value → Type 0
HasTwoInts (model.int b ∷ rest) = HasInt rest
HasTwoInts operands = ⊥

abbrev pub HasLong : List model.Value → Type 0
HasLong (model.half ∷ model.long a ∷ rest) = Unit {0}
HasLong operands = ⊥

abbrev pub HasTwoLongs : List model.Value → Type 0
HasTwoLongs (model.half ∷ model.long b ∷ rest) = HasLong rest
HasTwoLongs operands = ⊥

abbrev pub HasLongAndInt : List model.Value → Type 0
HasLongAndInt (model.int b ∷ rest) = HasLong rest
HasLongAndInt operands = ⊥
