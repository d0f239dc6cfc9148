-- The parameters of a descriptor, read one by one.
use Rattle.std.proofs.Common.{◌≡◌, ℕ, zero, suc, Bool, true, false, ◌&&◌, cond, leb, List, [], ◌∷◌, ◌++◌, drop, map, sum, Option, Some, None, option_map, refl, sym, ap, ◌∙◌, append_assoc}
use Rattle.std.specs.Prelude.{is_some}
use Rattle.std.proofs.lemmas.List.{append-nil}
use Rattle.jv_model.specs.Partial.{◌>>=◌}
use Rattle.jv_model.specs.Descriptors.{FieldType, MethodType, byte_type, char_type, double_type, float_type, int_type, long_type, short_type, boolean_type, class_type, array_of}
use Rattle.code_model.specs.TypeReading.{Front, field_type_at, type_at, words_of_type, parameter_words, parameters_within, result_of, method_type_of}
use Rattle.method_descriptors.specs.declared.descriptor.ParameterKind.{ParameterKind}
use Rattle.method_descriptors.proofs.Descriptors.{pair_parts}
use Rattle.method_descriptors.specs.Parameters.{kind_of_type, kinds_of, kind_front, kinds_front, words_of_kind, is_there}

-- these parameters in front
abbrev pub kinds_in_front : List ParameterKind → Front (List ParameterKind) → Front (List ParameterKind)
kinds_in_front front read = option_map (λ others. (front ++ others.0, others.1)) read

-- ---- one more parameter

-- one type, and the others behind it
types_at : ℕ → Front FieldType → Front (List FieldType)
types_at most read = read >>= λ first.
    parameters_within most first.1 >>= λ others. Some (first.0 ∷ others.0, others.1)

first_type : (first : FieldType) (others : Front (List FieldType))
    → kinds_front (others >>= λ o. Some (first ∷ o.0, o.1))
    ≡ kinds_in_front (kind_of_type first ∷ []) (kinds_front others)
first_type first None = refl
first_type first (Some others) = refl

some_first : (most : ℕ) (read : Front FieldType) (kind : ParameterKind) (behind : List ℕ)
    → Some (kind, behind) ≡ kind_front read
    → kinds_front (types_at most read)
    ≡ kinds_in_front (kind ∷ []) (kinds_front (parameters_within most behind))
unfolding types_at
some_first most None kind behind is = absurd cc
some_first most (Some first) kind behind is =
    let parts = pair_parts kind (kind_of_type first.0) behind first.1 is in
    let same : kind_of_type first.0 ≡ kind = sym parts.0 in
    let rest : first.1 ≡ behind = sym parts.1 in
    first_type first.0 (parameters_within most first.1)
    ∙ ap (λ k. kinds_in_front (k ∷ []) (kinds_front (parameters_within most first.1))) same
    ∙ ap (λ b. kinds_in_front (kind ∷ []) (kinds_front (parameters_within most b))) rest

no_first : (most : ℕ) (read : Front FieldType) → None ≡ kind_front read
    → kinds_front (types_at most read) ≡ None
unfolding types_at
no_first most None is = refl
no_first most (Some first) is = absurd cc

types_within : (most : ℕ) (units : List ℕ) → is_there 0x29 units ≡ false
    → parameters_within (suc most) units ≡ types_at most (field_type_at units)
unfolding parameters_within types_at type_at
types_within most [] opens = refl
types_within most (unit ∷ units) opens = rw opens refl

twice : (front more : List ParameterKind) (read : Front (List ParameterKind))
    → kinds_in_front front (kinds_in_front more read) ≡ kinds_in_front (front ++ more) read
twice front more None = refl
twice front more (Some others) =
    ap (λ (kinds : List ParameterKind). Some (kinds, others.1)) (sym (append_assoc front more others.0))

pub one_more : (most : ℕ) (units : List ℕ) (front : List ParameterKind) (kind : ParameterKind)
    (behind : List ℕ) → is_there 0x29 units ≡ false
    → Some (kind, behind) ≡ kind_front (field_type_at units)
    → kinds_in_front front (kinds_front (parameters_within (suc most) units))
    ≡ kinds_in_front (front ++ kind ∷ []) (kinds_front (parameters_within most behind))
one_more most units front kind behind opens is =
    ap (λ (read : Front (List FieldType)). kinds_in_front front (kinds_front read)) (types_within most units opens)
    ∙ ap (kinds_in_front front) (some_first most (field_type_at units) kind behind is)
    ∙ twice front (kind ∷ []) (kinds_front (parameters_within most behind))

pub no_more : (most : ℕ) (units : List ℕ) (front : List ParameterKind)
    → is_there 0x29 units ≡ false → None ≡ kind_front (field_type_at units)
    → kinds_in_front front (kinds_front (parameters_within (suc most) units)) ≡ None
no_more most units front opens is =
    ap (λ (read : Front (List FieldType)). kinds_in_front front (kinds_front read)) (types_within most units opens)
    ∙ ap (kinds_in_front front) (no_first most (field_type_at units) is)

closed_at : (most : ℕ) (units : List ℕ) → is_there 0x29 units ≡ true
    → parameters_within most units ≡ Some ([], drop 1 units)
unfolding parameters_within
closed_at most [] there = absurd cc
closed_at zero (unit ∷ units) there = rw there refl
closed_at (suc most) (unit ∷ units) there = rw there refl

pub closed : (most : ℕ) (units : List ℕ) (front : List ParameterKind)
    → is_there 0x29 units ≡ true
    → kinds_in_front front (kinds_front (parameters_within most units))
    ≡ Some (front, drop 1 units)
closed most units front there =
    ap (λ (read : Front (List FieldType)). kinds_in_front front (kinds_front read)) (closed_at most units there)
    ∙ ap (λ (kinds : List ParameterKind). Some (kinds, drop 1 units)) (append-nil front)

too_many_at : (units : List ℕ) → is_there 0x29 units ≡ false → parameters_within 0 units ≡ None
unfolding parameters_within
too_many_at [] opens = refl
too_many_at (unit ∷ units) opens = rw opens refl

pub too_many : (units : List ℕ) (front : List ParameterKind) → is_there 0x29 units ≡ false
    → kinds_in_front front (kinds_front (parameters_within 0 units)) ≡ None
too_many units front opens =
    ap (λ (read : Front (List FieldType)). kinds_in_front front (kinds_front read)) (too_many_at units opens)

-- ---- words of parameters

words_are : (type : FieldType) → words_of_type type ≡ words_of_kind (kind_of_type type)
words_are byte_type = refl
words_are char_type = refl
words_are double_type = refl
words_are float_type = refl
words_are int_type = refl
words_are long_type = refl
words_are short_type = refl
words_are boolean_type = refl
words_are (class_type name) = refl
words_are (array_of component) = refl

words_map : (types : List FieldType)
    → map words_of_type types ≡ map words_of_kind (kinds_of types)
words_map [] = refl
words_map (type ∷ types) = rw (words_are type, words_map types) refl

pub all_words : (types : List FieldType)
    → sum (map words_of_type types) ≡ sum (map words_of_kind (kinds_of types))
all_words types = ap sum (words_map types)

-- ---- a method's type

-- what is known of its parameters
abbrev pub kinds_of_method : Option MethodType → Option (List ParameterKind)
kinds_of_method type = option_map (λ (t : MethodType). kinds_of t.parameters) type

method_with : Front (List FieldType) → Option MethodType
method_with read = read >>= λ parameters. (result_of parameters.1 >>= λ result.
    (Some (record { parameters = parameters.0; result = result }) >>= λ (type : MethodType).
    cond (leb (parameter_words type) 255) (Some type) None))

method_is : (units : List ℕ) → is_there 0x28 units ≡ true
    → method_type_of units ≡ method_with (parameters_within 255 (drop 1 units))
unfolding method_with
method_is [] opens = absurd cc
method_is (unit ∷ units) opens = rw opens refl

pub no_method : (units : List ℕ) → is_there 0x28 units ≡ false
    → None ≡ kinds_of_method (method_type_of units)
no_method [] opens = refl
no_method (unit ∷ units) opens = rw opens refl

result_cases : (result : Option (Option FieldType)) (parameters : List FieldType)
    → kinds_of_method (result >>= λ r.
    (Some (record { parameters = parameters; result = r }) >>= λ (type : MethodType).
    cond (leb (parameter_words type) 255) (Some type) None))
    ≡ cond (is_some result && leb (sum (map words_of_kind (kinds_of parameters))) 255)
    (Some (kinds_of parameters)) None
result_cases None parameters = refl
result_cases (Some r) parameters = rw (all_words parameters) (words_cases _)
  where
    words_cases : (b : Bool) → kinds_of_method (cond b (Some (record { parameters = parameters; result = r })) None) ≡ cond b (Some (kinds_of parameters)) None
    words_cases true = refl
    words_cases false = refl

with_kinds : (read : Front (List FieldType)) (kinds : List ParameterKind) (rest : List ℕ)
    → Some (kinds, rest) ≡ kinds_front read
    → cond (is_some (result_of rest) && leb (sum (map words_of_kind kinds)) 255) (Some kinds) None
    ≡ kinds_of_method (method_with read)
unfolding method_with
with_kinds None kinds rest is = absurd cc
with_kinds (Some r) kinds rest is =
    let parts = pair_parts kinds (kinds_of r.0) rest r.1 is in
    let same : kinds_of r.0 ≡ kinds = sym parts.0 in
    let behind : r.1 ≡ rest = sym parts.1 in
    rw (← same, ← behind) (sym (result_cases (result_of r.1) r.0))

without_kinds : (read : Front (List FieldType)) → None ≡ kinds_front read
    → None ≡ kinds_of_method (method_with read)
unfolding method_with
without_kinds None is = refl
without_kinds (Some r) is = absurd cc

pub method_kinds : (units : List ℕ) (kinds : List ParameterKind) (rest : List ℕ)
    → is_there 0x28 units ≡ true
    → Some (kinds, rest) ≡ kinds_front (parameters_within 255 (drop 1 units))
    → cond (is_some (result_of rest) && leb (sum (map words_of_kind kinds)) 255) (Some kinds) None
    ≡ kinds_of_method (method_type_of units)
method_kinds units kinds rest opens is =
    with_kinds (parameters_within 255 (drop 1 units)) kinds rest is
    ∙ ap kinds_of_method (sym (method_is units opens))

pub no_method_kinds : (units : List ℕ) → is_there 0x28 units ≡ true
    → None ≡ kinds_front (parameters_within 255 (drop 1 units))
    → None ≡ kinds_of_method (method_type_of units)
no_method_kinds units opens is =
    without_kinds (parameters_within 255 (drop 1 units)) is
    ∙ ap kinds_of_method (sym (method_is units opens))
