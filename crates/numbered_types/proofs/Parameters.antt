-- The parameters of a descriptor, read one by one.
use Rattle.std.proofs.Common.{◌≡◌, ℕ, zero, suc, true, false, List, [], ◌∷◌, ◌++◌, drop, Option, Some, None, option_map, refl, sym, ap, ◌∙◌, append_assoc}
use Rattle.std.proofs.lemmas.List.{append-nil}
use Rattle.jv_model.specs.Partial.{◌>>=◌}
use Rattle.jv_model.specs.Descriptors as descriptors
use Rattle.world_model.specs.World.{World}
use Rattle.code_model.specs.TypeReading.{Front, field_type_at, type_at, parameters_within}
use Rattle.method_descriptors.specs.Parameters.{is_there}
use Rattle.numbered_types.proofs.Descriptors.{pair, with_rest, pair_parts}
use Rattle.type_rules.specs.declared.types.FieldType.{FieldType}
use Rattle.numbered_types.specs.Numbered.{number_of_type, numbered, numbers_of_types, all_numbered}

-- these types in front
abbrev pub in_front : List FieldType → Front (List FieldType) → Front (List FieldType)
in_front front read = option_map (λ others. (front ++ others.0, others.1)) read

-- one type, and the others after it
types_at : ℕ → Front descriptors.FieldType → Front (List descriptors.FieldType)
types_at most read = read >>= λ first.
    parameters_within most first.1 >>= λ others. Some (first.0 ∷ others.0, others.1)

types_within : (most : ℕ) (units : List ℕ) → is_there 0x29 units ≡ false
    → parameters_within (suc most) units ≡ types_at most (field_type_at units)
unfolding parameters_within types_at type_at
types_within most [] opens = refl
types_within most (unit ∷ units) opens = rw opens refl

twice : (front more : List FieldType) (read : Front (List FieldType))
    → in_front front (in_front more read) ≡ in_front (front ++ more) read
twice front more None = refl
twice front more (Some others) =
    ap (λ (types : List FieldType). Some (types, others.1)) (sym (append_assoc front more others.0))

-- one type, by number, before others
others_by : FieldType → List ℕ → Option (List FieldType) → Front (List FieldType)
others_by type rest others = with_rest rest (others >>= λ ts. Some (type ∷ ts))

others_in_front : (type : FieldType) (rest : List ℕ) (others : Option (List FieldType))
    → others_by type rest others ≡ in_front (type ∷ []) (with_rest rest others)
unfolding others_by
others_in_front type rest None = refl
others_in_front type rest (Some others) = refl

-- what the first type and the others come to by number
pair_by : List ℕ → Option FieldType → Option (List FieldType) → Front (List FieldType)
pair_by rest first others = with_rest rest (first >>= λ t. (others >>= λ ts. Some (t ∷ ts)))

module _ (world : World) where
  first_by : (type : FieldType) (first : descriptors.FieldType) (others : Front (List descriptors.FieldType))
      → number_of_type world first ≡ Some type
      → all_numbered world (others >>= λ o. Some (first ∷ o.0, o.1)) ≡ in_front (type ∷ []) (all_numbered world others)
  unfolding others_by pair_by
  first_by type first None is = refl
  first_by type first (Some o) is =
      ap (λ (f : Option FieldType). pair_by o.1 f (numbers_of_types world o.0)) is
      ∙ others_in_front type o.1 (numbers_of_types world o.0)

  first_none : (first : descriptors.FieldType) (others : Front (List descriptors.FieldType)) → number_of_type world first ≡ None
      → all_numbered world (others >>= λ o. Some (first ∷ o.0, o.1)) ≡ None
  unfolding pair_by
  first_none first None is = refl
  first_none first (Some o) is = ap (λ (f : Option FieldType). pair_by o.1 f (numbers_of_types world o.0)) is

  number_is : (o : Option FieldType) (rest behind : List ℕ) (type : FieldType)
      → pair type behind ≡ with_rest rest o → (o ≡ Some type) × (rest ≡ behind)
  number_is None rest behind type is = absurd cc
  number_is (Some t) rest behind type is =
      let parts = pair_parts type t behind rest is in (ap (λ (x : FieldType). Some x) (sym parts.0), sym parts.1)

  number_none : (o : Option FieldType) (rest : List ℕ) → None ≡ with_rest rest o → o ≡ None
  number_none None rest is = refl
  number_none (Some t) rest is = absurd cc

  some_first : (most : ℕ) (read : Front descriptors.FieldType) (type : FieldType) (behind : List ℕ)
      → pair type behind ≡ numbered world read
      → all_numbered world (types_at most read) ≡ in_front (type ∷ []) (all_numbered world (parameters_within most behind))
  unfolding types_at
  some_first most None type behind is = absurd cc
  some_first most (Some first) type behind is =
      let parts = number_is (number_of_type world first.0) first.1 behind type is in
      first_by type first.0 (parameters_within most first.1) parts.0
      ∙ ap (λ (b : List ℕ). in_front (type ∷ []) (all_numbered world (parameters_within most b))) parts.1

  no_first : (most : ℕ) (read : Front descriptors.FieldType) → None ≡ numbered world read
      → all_numbered world (types_at most read) ≡ None
  unfolding types_at
  no_first most None is = refl
  no_first most (Some first) is =
      first_none first.0 (parameters_within most first.1) (number_none (number_of_type world first.0) first.1 is)

  pub one_more : (most : ℕ) (units : List ℕ) (front : List FieldType) (type : FieldType) (behind : List ℕ)
      → is_there 0x29 units ≡ false → pair type behind ≡ numbered world (field_type_at units)
      → in_front front (all_numbered world (parameters_within (suc most) units))
      ≡ in_front (front ++ type ∷ []) (all_numbered world (parameters_within most behind))
  one_more most units front type behind opens is =
      ap (λ (read : Front (List descriptors.FieldType)). in_front front (all_numbered world read)) (types_within most units opens)
      ∙ ap (in_front front) (some_first most (field_type_at units) type behind is)
      ∙ twice front (type ∷ []) (all_numbered world (parameters_within most behind))

  pub no_more : (most : ℕ) (units : List ℕ) (front : List FieldType) → is_there 0x29 units ≡ false
      → None ≡ numbered world (field_type_at units)
      → in_front front (all_numbered world (parameters_within (suc most) units)) ≡ None
  no_more most units front opens is =
      ap (λ (read : Front (List descriptors.FieldType)). in_front front (all_numbered world read)) (types_within most units opens)
      ∙ ap (in_front front) (no_first most (field_type_at units) is)

  closed_at : (most : ℕ) (units : List ℕ) → is_there 0x29 units ≡ true → parameters_within most units ≡ Some ([], drop 1 units)
  unfolding parameters_within
  closed_at most [] there = absurd cc
  closed_at zero (unit ∷ units) there = rw there refl
  closed_at (suc most) (unit ∷ units) there = rw there refl

  pub closed : (most : ℕ) (units : List ℕ) (front : List FieldType) → is_there 0x29 units ≡ true
      → in_front front (all_numbered world (parameters_within most units)) ≡ Some (front, drop 1 units)
  closed most units front there =
      ap (λ (read : Front (List descriptors.FieldType)). in_front front (all_numbered world read)) (closed_at most units there)
      ∙ ap (λ (types : List FieldType). Some (types, drop 1 units)) (append-nil front)

  too_many_at : (units : List ℕ) → is_there 0x29 units ≡ false → parameters_within 0 units ≡ None
  unfolding parameters_within
  too_many_at [] opens = refl
  too_many_at (unit ∷ units) opens = rw opens refl

  pub too_many : (units : List ℕ) (front : List FieldType) → is_there 0x29 units ≡ false
      → in_front front (all_numbered world (parameters_within 0 units)) ≡ None
  too_many units front opens =
      ap (λ (read : Front (List descriptors.FieldType)). in_front front (all_numbered world read)) (too_many_at units opens)
