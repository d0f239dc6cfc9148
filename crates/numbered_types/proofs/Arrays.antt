-- A type behind brackets, by number.
use Rattle.std.proofs.Common.{◌≡◌, ℕ, zero, suc, ◌+◌, ◌<◌, ◌≤◌, Bool, true, false, cond, leb, List, Option, Some, None, option_map, refl, sym, ap, ◌∙◌, arith}
use Rattle.std.proofs.lemmas.Bool.{le-leb, lt-leb}
use Rattle.jv_model.specs.Partial.{◌>>=◌}
use Rattle.jv_model.specs.Descriptors as descriptors
use Rattle.jv_model.specs.Descriptors.{array_of}
use Rattle.world_model.specs.World.{World}
use Rattle.code_model.specs.TypeReading.{Front, dimensions, most_dimensions}
use Rattle.method_descriptors.specs.Parameters.{nested, arrays}
use Rattle.numbered_types.proofs.Descriptors.{IsFlat, pair, with_rest, pair_parts, dimensions_nested}
use Rattle.type_rules.specs.declared.types.ElementType.{ElementType}
use Rattle.type_rules.specs.declared.types.FieldType.{FieldType}
use Rattle.numbered_types.specs.Numbered.{plain, in_array, number_of_type, numbered}

in_array-none : (o : Option FieldType) → o ≡ option_map (in_array 0) o
in_array-none None = refl
in_array-none (Some type) =
    let same : type.dimensions ≡ type.dimensions + 0 = omega arith in
    λ i. Some (record { dimensions = same i; element = type.element })

in_array-more : (n : ℕ) (o : Option FieldType) → option_map (in_array n) (option_map (in_array 1) o) ≡ option_map (in_array (suc n)) o
in_array-more n None = refl
in_array-more n (Some type) =
    let same : type.dimensions + 1 + n ≡ type.dimensions + suc n = omega arith in
    λ i. Some (record { dimensions = same i; element = type.element })

-- a type of no more dimensions than there may be
abbrev limited : Front descriptors.FieldType → Front descriptors.FieldType
limited whole = whole >>= λ type. cond (leb (dimensions type.0) most_dimensions) (Some type) None

module _ (world : World) where
  number_of_nested : (n : ℕ) (type : descriptors.FieldType) → number_of_type world (nested n type) ≡ option_map (in_array n) (number_of_type world type)
  number_of_nested zero type = in_array-none (number_of_type world type)
  number_of_nested (suc n) type = number_of_nested n (array_of type) ∙ in_array-more n (number_of_type world type)

  by_number : (n : ℕ) (o : Option FieldType) (rest behind : List ℕ) (element : ElementType)
      → pair (plain element) behind ≡ with_rest rest o
      → pair (record { dimensions = n; element = element }) behind ≡ with_rest rest (option_map (in_array n) o)
  by_number n None rest behind element is = absurd cc
  by_number n (Some type) rest behind element is =
      let parts = pair_parts (plain element) type behind rest is in
      let same : n ≡ 0 + n = omega arith in
      (λ i. Some (record { dimensions = same i; element = element }, parts.1 i))
      ∙ ap (λ (t : FieldType). Some (in_array n t, rest)) parts.0

  pub array-found : (n : ℕ) (read whole : Front descriptors.FieldType) (element : ElementType) (behind : List ℕ) → n ≤ 255
      → IsFlat read → arrays n read ≡ whole → pair (plain element) behind ≡ numbered world read
      → pair (record { dimensions = n; element = element }) behind ≡ numbered world (limited whole)
  array-found n None whole element behind few flat is found = absurd cc
  array-found n (Some r) whole element behind few flat is found =
      let flat_type = flat r.0 r.1 refl in
      let within : leb (dimensions (nested n r.0)) most_dimensions ≡ true =
      le-leb _ _ (omega (arith, dimensions_nested n r.0)) in
      by_number n (number_of_type world r.0) r.1 behind element found
      ∙ ap (with_rest r.1) (sym (number_of_nested n r.0))
      ∙ sym (ap (λ (b : Bool). numbered world (cond b (Some (nested n r.0, r.1)) None)) within)
      ∙ ap (λ (w : Front descriptors.FieldType). numbered world (limited w)) is

  no_number : (n : ℕ) (o : Option FieldType) (rest : List ℕ) → None ≡ with_rest rest o
      → None ≡ with_rest rest (option_map (in_array n) o)
  no_number n None rest is = refl
  no_number n (Some type) rest is = absurd cc

  pub array-none : (n : ℕ) (read whole : Front descriptors.FieldType) → arrays n read ≡ whole → None ≡ numbered world read
      → None ≡ numbered world (limited whole)
  array-none n None whole is none = ap (λ (w : Front descriptors.FieldType). numbered world (limited w)) is
  array-none n (Some r) whole is none =
      by (leb (dimensions (nested n r.0)) most_dimensions) ∙ ap (λ (w : Front descriptors.FieldType). numbered world (limited w)) is
    where
      by : (b : Bool) → None ≡ numbered world (cond b (Some (nested n r.0, r.1)) None)
      by true = no_number n (number_of_type world r.0) r.1 none
          ∙ ap (with_rest r.1) (sym (number_of_nested n r.0))
      by false = refl

  pub array-deep : (n : ℕ) (read whole : Front descriptors.FieldType) → 255 < n → arrays n read ≡ whole → None ≡ numbered world (limited whole)
  array-deep n None whole many is = ap (λ (w : Front descriptors.FieldType). numbered world (limited w)) is
  array-deep n (Some r) whole many is =
      let past : leb (dimensions (nested n r.0)) most_dimensions ≡ false =
      lt-leb _ _ (omega (arith, dimensions_nested n r.0)) in
      sym (ap (λ (b : Bool). numbered world (cond b (Some (nested n r.0, r.1)) None)) past)
      ∙ ap (λ (w : Front descriptors.FieldType). numbered world (limited w)) is
