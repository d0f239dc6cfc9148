-- The type of a method, read part by part.
use Rattle.std.proofs.Common.{◌≡◌, ℕ, zero, suc, ◌<◌, arith, true, false, cond, leb, List, [], ◌∷◌, ◌++◌, drop, map, sum, Option, Some, None, option_map, refl, sym, ap, ◌∙◌, append_assoc}
use Rattle.std.proofs.lemmas.List.{append-nil, map-append}
use Rattle.jv_model.specs.Partial.{◌>>=◌}
use Rattle.jv_model.specs.Descriptors.{FieldType, MethodType, array_of}
use Rattle.code_model.specs.TypeReading.{Front, field_type_at, type_at, words_of_type, parameter_words, parameters_within, result_of, method_type_of}
use Rattle.descriptor_types.specs.declared.types.ElementType.{ElementType}
use Rattle.descriptor_types.specs.declared.types.ElementType.TheVariants.{Byte, Char, Double, Float, Int, Long, Short, Boolean, Class}
use Rattle.descriptor_types.specs.declared.types.FieldType as read
use Rattle.descriptor_types.specs.Types.{is_there, element_of, nested, field_type_of, field_types_of}

-- these types in front
abbrev pub types_in_front : List FieldType → Front (List FieldType) → Front (List FieldType)
types_in_front front read = option_map (λ others. (front ++ others.0, others.1)) read

pub one_type_more : (types : List read.FieldType) (type : read.FieldType)
    → field_types_of (types ++ type ∷ []) ≡ field_types_of types ++ field_type_of type ∷ []
one_type_more types type = map-append field_type_of types (type ∷ [])

-- ---- words

pub array_words : (n : ℕ) (type : FieldType) → 0 < n → words_of_type (nested n type) ≡ 1
array_words zero type some = absurd (omega arith)
array_words (suc zero) type some = refl
array_words (suc (suc n)) type some = array_words (suc n) (array_of type) (omega arith)

pub other_words : (element : ElementType) → (element ≡ Long → ⊥) → (element ≡ Double → ⊥)
    → words_of_type (element_of element) ≡ 1
other_words Byte long double = refl
other_words Char long double = refl
other_words Double long double = absurd (double refl)
other_words Float long double = refl
other_words Int long double = refl
other_words Long long double = absurd (long refl)
other_words Short long double = refl
other_words Boolean long double = refl
other_words (Class name) long double = refl

-- ---- one more parameter

-- one type, and the others behind it
types_at : ℕ → Front FieldType → Front (List FieldType)
types_at most read = read >>= λ first.
    parameters_within most first.1 >>= λ others. Some (first.0 ∷ others.0, others.1)

first_type : (first : FieldType) (others : Front (List FieldType))
    → (others >>= λ o. Some (first ∷ o.0, o.1)) ≡ types_in_front (first ∷ []) others
first_type first None = refl
first_type first (Some others) = refl

some_first : (most : ℕ) (read : Front FieldType) (first : FieldType) (behind : List ℕ)
    → Some (first, behind) ≡ read
    → types_at most read ≡ types_in_front (first ∷ []) (parameters_within most behind)
unfolding types_at
some_first most read first behind is =
    ap (types_at most) (sym is) ∙ first_type first (parameters_within most behind)

types_within : (most : ℕ) (units : List ℕ) → is_there 0x29 units ≡ false
    → parameters_within (suc most) units ≡ types_at most (field_type_at units)
unfolding parameters_within types_at type_at
types_within most [] opens = refl
types_within most (unit ∷ units) opens = rw opens refl

twice : (front more : List FieldType) (read : Front (List FieldType))
    → types_in_front front (types_in_front more read) ≡ types_in_front (front ++ more) read
twice front more None = refl
twice front more (Some others) =
    ap (λ (types : List FieldType). Some (types, others.1)) (sym (append_assoc front more others.0))

pub one_more : (most : ℕ) (units : List ℕ) (front : List FieldType) (first : FieldType)
    (behind : List ℕ) → is_there 0x29 units ≡ false → Some (first, behind) ≡ field_type_at units
    → types_in_front front (parameters_within (suc most) units)
    ≡ types_in_front (front ++ first ∷ []) (parameters_within most behind)
one_more most units front first behind opens is =
    ap (types_in_front front)
    (types_within most units opens ∙ some_first most (field_type_at units) first behind is)
    ∙ twice front (first ∷ []) (parameters_within most behind)

pub no_more : (most : ℕ) (units : List ℕ) (front : List FieldType) → is_there 0x29 units ≡ false
    → None ≡ field_type_at units → types_in_front front (parameters_within (suc most) units) ≡ None
unfolding types_at
no_more most units front opens is =
    ap (types_in_front front) (types_within most units opens ∙ ap (types_at most) (sym is))

closed_at : (most : ℕ) (units : List ℕ) → is_there 0x29 units ≡ true
    → parameters_within most units ≡ Some ([], drop 1 units)
unfolding parameters_within
closed_at most [] there = absurd cc
closed_at zero (unit ∷ units) there = rw there refl
closed_at (suc most) (unit ∷ units) there = rw there refl

pub closed : (most : ℕ) (units : List ℕ) (front : List FieldType) → is_there 0x29 units ≡ true
    → types_in_front front (parameters_within most units) ≡ Some (front, drop 1 units)
closed most units front there =
    ap (types_in_front front) (closed_at most units there)
    ∙ ap (λ (types : List FieldType). Some (types, drop 1 units)) (append-nil front)

too_many_at : (units : List ℕ) → is_there 0x29 units ≡ false → parameters_within 0 units ≡ None
unfolding parameters_within
too_many_at [] opens = refl
too_many_at (unit ∷ units) opens = rw opens refl

pub too_many : (units : List ℕ) (front : List FieldType) → is_there 0x29 units ≡ false
    → types_in_front front (parameters_within 0 units) ≡ None
too_many units front opens = ap (types_in_front front) (too_many_at units opens)

-- ---- a method's type

-- with its result, where the parameters are no wider than they may be
with_result : List FieldType → Option (Option FieldType) → Option MethodType
with_result parameters read = read >>= λ result.
    (Some (record { parameters = parameters; result = result }) >>= λ (type : MethodType).
    cond (leb (parameter_words type) 255) (Some type) None)

method_with : Front (List FieldType) → Option MethodType
method_with read = read >>= λ parameters. with_result parameters.0 (result_of parameters.1)

method_is : (units : List ℕ) → is_there 0x28 units ≡ true
    → method_type_of units ≡ method_with (parameters_within 255 (drop 1 units))
unfolding method_with with_result
method_is [] opens = absurd cc
method_is (unit ∷ units) opens = rw opens refl

pub no_method : (units : List ℕ) → is_there 0x28 units ≡ false → None ≡ method_type_of units
no_method [] opens = refl
no_method (unit ∷ units) opens = rw opens refl

pub no_parameters : (units : List ℕ) → is_there 0x28 units ≡ true
    → None ≡ parameters_within 255 (drop 1 units) → None ≡ method_type_of units
unfolding method_with
no_parameters units opens is = ap method_with is ∙ sym (method_is units opens)

module _ (units : List ℕ) (parameters : List FieldType) (rest : List ℕ) where
  with_parameters : is_there 0x28 units ≡ true
      → Some (parameters, rest) ≡ parameters_within 255 (drop 1 units)
      → with_result parameters (result_of rest) ≡ method_type_of units
  unfolding method_with
  with_parameters opens is = ap method_with is ∙ sym (method_is units opens)

  pub no_result : is_there 0x28 units ≡ true
      → Some (parameters, rest) ≡ parameters_within 255 (drop 1 units) → None ≡ result_of rest
      → None ≡ method_type_of units
  unfolding with_result
  no_result opens is none = ap (with_result parameters) none ∙ with_parameters opens is

  pub method_read : (result : Option FieldType) → is_there 0x28 units ≡ true
      → Some (parameters, rest) ≡ parameters_within 255 (drop 1 units) → Some result ≡ result_of rest
      → leb (sum (map words_of_type parameters)) 255 ≡ true
      → Some (record { parameters = parameters; result = result }) ≡ method_type_of units
  unfolding with_result
  method_read result opens is found within =
      ap (λ b. cond b (Some (record { parameters = parameters; result = result })) None) (sym within)
      ∙ ap (with_result parameters) found ∙ with_parameters opens is

  pub too_wide : (result : Option FieldType) → is_there 0x28 units ≡ true
      → Some (parameters, rest) ≡ parameters_within 255 (drop 1 units) → Some result ≡ result_of rest
      → leb (sum (map words_of_type parameters)) 255 ≡ false → None ≡ method_type_of units
  unfolding with_result
  too_wide result opens is found above =
      ap (λ b. cond b (Some (record { parameters = parameters; result = result })) None) (sym above)
      ∙ ap (with_result parameters) found ∙ with_parameters opens is
