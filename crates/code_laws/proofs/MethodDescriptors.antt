-- A method's type has one descriptor (JVMS 4.3.3).
use Rattle.std.proofs.Common.{◌≡◌, ℕ, zero, suc, ◌≤◌, true, false, eqb, leb, List, [], ◌∷◌, ◌++◌, length, map, Option, Some, None, refl, sym, ap, subst, ◌∙◌, append_assoc, arith, inl, inr}
use Rattle.std.specs.Prelude.{codes, bytes_eq, option_map, option_and_then, sum}
use Rattle.std.specs.List.{flat_map, AllByRecursion, sum_by}
use Rattle.std.proofs.lemmas.List.Sums.{sum_by-cons, sum-map}
use Rattle.std.proofs.lemmas.Slice.Eq.{bytes_eq-Decides}
use Rattle.std.proofs.lemmas.Bool.{eqb-true, cases_Bool, leb-true, le-leb}
use Rattle.jv_model.specs.Descriptors.{FieldType, byte_type, char_type, double_type, float_type, int_type, long_type, short_type, boolean_type, class_type, array_of, MethodType}
use Rattle.code_model.specs.TypeReading.{field_type_at, field_type_of, words_of_type, parameter_words, most_parameter_words, parameters_within, result_of, method_type_of, descriptor_of, result_descriptor, method_descriptor_of}
use Rattle.code_model.specs.Laws.{IsFieldType, IsResult, IsMethodType, OneMethodDescriptor}
use Rattle.code_laws.proofs.Options.{some_is, none_is, option_bind, passes}
use Rattle.code_laws.proofs.FieldDescriptors.{field_taken, field_found, one_field_descriptor}

-- ---- parameters

abbrev pub descriptors_of : List FieldType → List ℕ
descriptors_of types = flat_map descriptor_of types

abbrev front_of : List FieldType → List ℕ → List FieldType × List ℕ
front_of types rest = (types, rest)

-- parameters that were read up to )
record TakenParameters (units : List ℕ) (types : List FieldType) (rest : List ℕ) : Type 0 where
  units_are : units ≡ descriptors_of types ++ (0x29 ∷ rest)
  right : AllByRecursion IsFieldType types

-- none are left at )
none_taken :
    (unit : ℕ) (units rest : List ℕ) (types : List FieldType) → eqb unit 0x29 ≡ true
    → front_of [] units ≡ front_of types rest
    → TakenParameters (unit ∷ units) types rest
none_taken unit units rest types is same =
    subst (λ (f : List FieldType × List ℕ). TakenParameters (unit ∷ units) f.0 f.1) same
    (record { units_are = ap (λ (u : ℕ). u ∷ units) (eqb-true unit 0x29 is); right = tt })

-- parameters that are read are spelled
parameters_taken :
    (most : ℕ) (units rest : List ℕ) (types : List FieldType)
    → parameters_within most units ≡ Some (types, rest)
    → TakenParameters units types rest
unfolding parameters_within
parameters_taken zero [] rest types e = none_is (types, rest) e
parameters_taken (suc most) [] rest types e = none_is (types, rest) e
parameters_taken zero (unit ∷ units) rest types e =
    elim (cases_Bool (eqb unit 0x29)) [
      | inl is ↦ none_taken unit units rest types is (some_is _ _ (rw is at e))
      | inr other ↦ none_is (types, rest) (rw other at e)
    ]
parameters_taken (suc most) (unit ∷ units) rest types e =
    elim (cases_Bool (eqb unit 0x29)) [
      | inl is ↦ none_taken unit units rest types is (some_is _ _ (rw is at e))
      | inr more ↦
          let whole : option_and_then
          (λ first. option_and_then (λ others. Some (first.0 ∷ others.0, others.1))
          (parameters_within most first.1)) (field_type_at
          (unit ∷ units)) ≡ Some (types, rest) =
          rw more at e in
          let first = option_bind (field_type_at (unit ∷ units)) _ (types, rest) whole in
          let others = option_bind (parameters_within most first.0.1) _ (types, rest) first.2 in
          let same = some_is (first.0.0 ∷ others.0.0, others.0.1) (types, rest) others.2 in
          let front = field_taken (unit ∷ units) first.0.1 first.0.0 first.1 in
          let behind = parameters_taken most first.0.1 others.0.1 others.0.0 others.1 in
          subst (λ (f : List FieldType × List ℕ). TakenParameters (unit ∷ units) f.0 f.1) same
          (record {
            units_are =
                front.0 ∙ ap (λ (us : List ℕ). descriptor_of first.0.0 ++ us) behind.units_are
                ∙ sym (append_assoc (descriptor_of first.0.0) (descriptors_of others.0.0)
                (0x29 ∷ others.0.1));
            right = (front.1, behind.right);
          })
    ]

-- a descriptor begins with a unit that isn't )
begins :
    (type : FieldType)
    → (unit : ℕ) × (units : List ℕ) × (descriptor_of type ≡ unit ∷ units) × (eqb unit 0x29 ≡ false)
unfolding descriptor_of
begins byte_type = (0x42, [], refl, refl)
begins char_type = (0x43, [], refl, refl)
begins double_type = (0x44, [], refl, refl)
begins float_type = (0x46, [], refl, refl)
begins int_type = (0x49, [], refl, refl)
begins long_type = (0x4A, [], refl, refl)
begins short_type = (0x53, [], refl, refl)
begins boolean_type = (0x5A, [], refl, refl)
begins (class_type name) = (0x4C, name ++ codes ";", refl, refl)
begins (array_of component) = (0x5B, descriptor_of component, refl, refl)

-- a parameter in front of others is read
parameter_found :
    (most : ℕ) (first : FieldType) (others : List FieldType) (behind rest : List ℕ)
    → field_type_at (descriptor_of first ++ behind) ≡ Some (first, behind)
    → parameters_within most behind ≡ Some (others, rest)
    → parameters_within (suc most) (descriptor_of first ++ behind) ≡ Some (first ∷ others, rest)
unfolding parameters_within
parameter_found most first others behind rest read more =
    let front = begins first in
    by_unit front.0 (front.1 ++ behind) front.3
    (ap (λ (us : List ℕ). us ++ behind) front.2)
  where
    by_unit :
        (unit : ℕ) (units : List ℕ) → eqb unit 0x29 ≡ false
        → descriptor_of first ++ behind ≡ unit ∷ units
        → parameters_within (suc most) (descriptor_of first ++ behind) ≡ Some (first ∷ others, rest)
    by_unit unit units other e =
        let here : field_type_at (unit ∷ units) ≡ Some (first, behind) =
        subst (λ (us : List ℕ). field_type_at us ≡ Some (first, behind)) e read in
        rw e (rw (other, here, more) refl)

-- parameters that are spelled are read
parameters_found :
    (most : ℕ) (types : List FieldType) (rest : List ℕ) → length types ≤ most
    → AllByRecursion IsFieldType types
    → parameters_within most (descriptors_of types ++ (0x29 ∷ rest)) ≡ Some (types, rest)
unfolding parameters_within
parameters_found zero [] rest few right = refl
parameters_found (suc most) [] rest few right = refl
parameters_found zero (type ∷ types) rest few right = absurd (omega (arith, few))
parameters_found (suc most) (type ∷ types) rest few right =
    let behind : List ℕ = descriptors_of types ++ (0x29 ∷ rest) in
    let others = parameters_found most types rest (omega (arith, few)) right.1 in
    rw (append_assoc (descriptor_of type) (descriptors_of types) (0x29 ∷ rest))
    (parameter_found most type types behind rest (field_found type behind right.0) others)

-- a parameter has a word at least
some_words : (type : FieldType) → 1 ≤ words_of_type type
some_words byte_type = omega arith
some_words char_type = omega arith
some_words double_type = omega arith
some_words float_type = omega arith
some_words int_type = omega arith
some_words long_type = omega arith
some_words short_type = omega arith
some_words boolean_type = omega arith
some_words (class_type name) = omega arith
some_words (array_of component) = omega arith

-- there are no more parameters than words
few_parameters : (types : List FieldType) → length types ≤ sum (map words_of_type types)
few_parameters types = omega (arith, counted types, sum-map words_of_type types)
  where
    counted : (types : List FieldType) → length types ≤ sum_by words_of_type types
    counted [] = omega arith
    counted (type ∷ types) =
        omega (arith, some_words type, counted types, sum_by-cons words_of_type type types)

-- ---- the result

-- a result that is read is spelled
result_taken :
    (units : List ℕ) (result : Option FieldType) → result_of units ≡ Some result
    → (units ≡ result_descriptor result) × IsResult result
result_taken units result e =
    elim (cases_Bool (bytes_eq units (codes "V"))) [
      | inl is ↦
          let none = some_is None result (rw is at e) in
          subst (λ (r : Option FieldType). (units ≡ result_descriptor r) × IsResult r) none
          ((bytes_eq-Decides units (codes "V")).0 is, tt)
      | inr other ↦
          let type = some_mapped (field_type_of units) result (rw other at e) in
          let its = (one_field_descriptor units type.0).0 type.1 in
          subst (λ (r : Option FieldType). (units ≡ result_descriptor r) × IsResult r) type.2 its
    ]
  where
    some_mapped :
        (found : Option FieldType) (result : Option FieldType) → option_map Some found ≡ Some result
        → (type : FieldType) × (found ≡ Some type) × (Some type ≡ result)
    some_mapped None result e = none_is result e
    some_mapped (Some type) result e = (type, refl, some_is (Some type) result e)

-- no type's descriptor is V
no_void : (type : FieldType) → bytes_eq (descriptor_of type) (codes "V") ≡ false
unfolding descriptor_of
no_void byte_type = refl
no_void char_type = refl
no_void double_type = refl
no_void float_type = refl
no_void int_type = refl
no_void long_type = refl
no_void short_type = refl
no_void boolean_type = refl
no_void (class_type name) = refl
no_void (array_of component) = refl

-- a result that is spelled is read
result_found :
    (result : Option FieldType) → IsResult result
    → result_of (result_descriptor result) ≡ Some result
result_found None is = refl
result_found (Some type) is =
    let read = (one_field_descriptor (descriptor_of type) type).1 (refl, is) in
    rw (no_void type, read) refl

-- ---- the whole

abbrev method_of : List FieldType → Option FieldType → MethodType
method_of parameters result = record { parameters = parameters; result = result }

-- a method's type that is read is spelled
method_taken :
    (units : List ℕ) (type : MethodType) → method_type_of units ≡ Some type
    → (units ≡ method_descriptor_of type) × IsMethodType type
method_taken [] type e = none_is type e
method_taken (unit ∷ units) type e =
    elim (cases_Bool (eqb unit 0x28)) [
      | inr other ↦ none_is type (rw other at e)
      | inl is ↦
          let parameters =
          option_bind (parameters_within most_parameter_words units) _ type (rw is at e) in
          let result = option_bind (result_of parameters.0.1) _ type parameters.2 in
          let its : MethodType = method_of parameters.0.0 result.0 in
          let passed = passes (leb (parameter_words its) most_parameter_words) its type result.2 in
          let few : parameter_words its ≤ most_parameter_words = leb-true _ _ passed.0 in
          let front =
          parameters_taken most_parameter_words units parameters.0.1 parameters.0.0 parameters.1
          in
          let behind = result_taken parameters.0.1 result.0 result.1 in
          subst (λ (t : MethodType). (unit ∷ units ≡ method_descriptor_of t) × IsMethodType t)
          passed.1 (
            ap (λ (u : ℕ). u ∷ units) (eqb-true unit 0x28 is)
                ∙ ap (λ (us : List ℕ). 0x28 ∷ us)
                (front.units_are ∙ ap
                (λ (us : List ℕ). descriptors_of parameters.0.0 ++ (0x29 ∷ us)) behind.0),
            (front.right, behind.1, few),
          )
    ]

-- a method's type that is spelled is read
method_found :
    (type : MethodType) → IsMethodType type → method_type_of (method_descriptor_of type) ≡ Some type
method_found type is =
    let count : length type.parameters ≤ most_parameter_words =
    omega (arith, few_parameters type.parameters, is.2) in
    let front =
    parameters_found most_parameter_words type.parameters
    (result_descriptor type.result) count is.0 in
    let few : leb (parameter_words type) most_parameter_words ≡ true = le-leb _ _ is.2 in
    rw (front, result_found type.result is.1, few) refl

-- a text is a method descriptor of a type exactly where it's the type's
pub one_method_descriptor : OneMethodDescriptor
one_method_descriptor units type = (
  method_taken units type,
  λ both. subst (λ (us : List ℕ). method_type_of us ≡ Some type) (sym both.0)
      (method_found type both.1),
)
