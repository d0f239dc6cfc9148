-- The arguments of a call lie on the operands, the last one on top, and are the first locals of the method.
use Rattle.std.proofs.Common.{◌≡◌, ℕ, ◌+◌, List, [], ◌∷◌, ◌++◌, Some, Bool, true, false, refl, ap, sym, subst, ◌∙◌, if◌then◌else◌, length, map, reverse, arith, length-append}
use Rattle.std.specs.Prelude.{sum}
use Rattle.std.specs.List.{list_all}
use Rattle.std.proofs.lemmas.Bool.{and_parts}
use Rattle.std.proofs.lemmas.List.{reverse-append, append_assoc, append-nil}
use Rattle.std.proofs.lemmas.List.Sums.{sum_by-cons}
use lib.Pointwise.{pointwise}
use Rattle.jv_model.specs.Descriptors.{FieldType, byte_type, char_type, double_type, float_type, int_type as int_field, long_type as long_field, short_type, boolean_type, class_type, array_of, MethodType}
use Rattle.code_model.specs.TypeReading.{words_of_type, parameter_words}
use Rattle.typing_model.specs.VerificationType.{VerificationType, top, type_of, is_long}
use Rattle.typing_model.specs.DescriptorFrame.{as_locals}
use Rattle.typing_model.specs.Environment.{Environment}
use Rattle.typing_model.specs.Transition.{Test, to, below}
use Rattle.machine_model.specs.Value.{Value, int, long, half, null, reference, onto}
use Rattle.machine_model.specs.TypedValues.{HeapTyping, stands_for, is_of_type, are_of_types, holds}
use Rattle.frame_laws.proofs.Outcome.{both}
use Rattle.frame_laws.proofs.Verified.{Subsumes}
use Rattle.machine_laws.specs.Runnable.{is_operand}
use Rattle.machine_laws.proofs.Operands.{of_type_held, take_wanted}
use Rattle.machine_laws.proofs.Beginning.{pairs_append, pairs_length}

-- the places that a value takes on the operands, and the rest below them
places_below : (value : Value) (others : List Value) → onto value others ≡ onto value [] ++ others
places_below (int n) others = refl
places_below (long n) others = refl
places_below half others = refl
places_below null others = refl
places_below (reference id) others = refl

-- a value of a parameter is of its type, in the places of a local
one_local : (heap : HeapTyping) (e : Environment) (p : FieldType) (value : Value) → is_operand (type_of p) ≡ true
    → holds heap p value ≡ true → pointwise (is_of_type heap e) (as_locals (type_of p ∷ [])) (reverse (onto value [])) ≡ true
unfolding type_of is_of_type
one_local heap e double_type value is h = absurd cc
one_local heap e float_type value is h = absurd cc
one_local heap e long_field (long n) is h = refl
one_local heap e long_field value is h = absurd cc
one_local heap e (class_type name) null is h = refl
one_local heap e (class_type name) (reference id) is h = both (stands_for heap id (class_type name)) true h refl
one_local heap e (class_type name) value is h = absurd cc
one_local heap e (array_of c) null is h = refl
one_local heap e (array_of c) (reference id) is h = both (stands_for heap id (array_of c)) true h refl
one_local heap e (array_of c) value is h = absurd cc
one_local heap e byte_type (int n) is h = refl
one_local heap e byte_type value is h = absurd cc
one_local heap e char_type (int n) is h = refl
one_local heap e char_type value is h = absurd cc
one_local heap e int_field (int n) is h = refl
one_local heap e int_field value is h = absurd cc
one_local heap e short_type (int n) is h = refl
one_local heap e short_type value is h = absurd cc
one_local heap e boolean_type (int n) is h = refl
one_local heap e boolean_type value is h = absurd cc

-- a parameter takes as many words as locals
one_words : (p : FieldType) → is_operand (type_of p) ≡ true → words_of_type p ≡ length (as_locals (type_of p ∷ []))
unfolding type_of
one_words double_type is = absurd cc
one_words float_type is = absurd cc
one_words long_field is = refl
one_words p is = refl

abbrev pub operands_all : List FieldType → Bool
operands_all ps = list_all (λ p. is_operand (type_of p)) ps

pub all_words : (ps : List FieldType) → operands_all ps ≡ true
    → sum (map words_of_type ps) ≡ length (as_locals (map type_of ps))
all_words [] h = refl
all_words (p ∷ ps) h =
    let q = and_parts (is_operand (type_of p)) (operands_all ps) h in
    sum_by-cons (λ x. x) (words_of_type p) (map words_of_type ps)
    ∙ (ap (λ (n : ℕ). n + sum (map words_of_type ps)) (one_words p q.0) ∙ (ap (λ (n : ℕ). length (as_locals (type_of p ∷ [])) + n) (all_words ps q.1)
    ∙ (sym (length-append (as_locals (type_of p ∷ [])) (as_locals (map type_of ps))) ∙ seam p (map type_of ps))))
  where
    seam : (p : FieldType) (types : List VerificationType)
        → length (as_locals (type_of p ∷ []) ++ as_locals types) ≡ length (as_locals (type_of p ∷ types))
    seam p types = ap (λ (front : List VerificationType). length (front ++ as_locals types)) (append-nil (if is_long (type_of p) then type_of p ∷ top ∷ [] else type_of p ∷ []))

-- in arguments by order a half stands after each long
abbrev pub are_whole : List Value → Bool
are_whole [] = true
are_whole (long n ∷ half ∷ values) = are_whole values
are_whole (long n ∷ values) = false
are_whole (value ∷ values) = are_whole values

whole_one : (value : Value) → are_whole (reverse (onto value [])) ≡ true
whole_one (int n) = refl
whole_one (long n) = refl
whole_one half = refl
whole_one null = refl
whole_one (reference id) = refl

whole_append : (xs ys : List Value) → are_whole xs ≡ true → are_whole ys ≡ true → are_whole (xs ++ ys) ≡ true
whole_append [] ys h k = k
whole_append (long n ∷ half ∷ xs) ys h k = whole_append xs ys h k
whole_append (long n ∷ xs) ys h k = absurd cc
whole_append (x ∷ xs) ys h k = whole_append xs ys h k

-- What typing takes as arguments: their places, and what is left below them.
pub record ArgumentsOn (heap : HeapTyping) (ps : List FieldType) (tests : List Test) (rest : List VerificationType)
    (e : Environment) (values : List Value) : Type 0 where
  pub front : List Value
  pub others : List Value
  pub types : List VerificationType
  pub is : values ≡ front ++ others
  pub fit : (callee : Environment) → pointwise (is_of_type heap callee) (as_locals (map type_of ps)) (reverse front) ≡ true
  pub whole : are_whole (reverse front) ≡ true
  pub are_below : below tests types ≡ Some rest
  pub below_fit : are_of_types heap e types others ≡ true

module _ (heap : HeapTyping) (e : Environment) (subsumes : Subsumes heap e) where
  abbrev test_of : FieldType → Test
  test_of p = to e (type_of p)

  pub take_arguments : (ps : List FieldType) (tests : List Test) (stack rest : List VerificationType) (values : List Value)
      → operands_all ps ≡ true → below (reverse (map test_of ps) ++ tests) stack ≡ Some rest
      → are_of_types heap e stack values ≡ true → ArgumentsOn heap ps tests rest e values
  take_arguments [] tests stack rest values all b f = record {
    front = [];
    others = values;
    types = stack;
    is = refl;
    fit = λ callee. refl;
    whole = refl;
    are_below = b;
    below_fit = f;
  }
  take_arguments (p ∷ ps) tests stack rest values all b f =
      let q = and_parts (is_operand (type_of p)) (operands_all ps) all in
      let order : reverse (map test_of (p ∷ ps)) ++ tests ≡ reverse (map test_of ps) ++ (test_of p ∷ tests) =
      ap (λ (ts : List Test). ts ++ tests) (reverse-append (test_of p ∷ []) (map test_of ps)) ∙ append_assoc (reverse (map test_of ps)) (test_of p ∷ []) tests in
      let later = take_arguments ps (test_of p ∷ tests) stack rest values q.1 (subst (λ (ts : List Test). below ts stack ≡ Some rest) order b) f in
      let x = take_wanted heap e subsumes (type_of p) tests later.types rest later.others q.0 later.are_below later.below_fit in
      let held = of_type_held heap e p x.value q.0 x.of in
      record {
        front = later.front ++ onto x.value [];
        others = x.others;
        types = x.types;
        is = later.is ∙ (ap (λ (vs : List Value). later.front ++ vs) (x.is ∙ places_below x.value x.others) ∙ sym (append_assoc later.front (onto x.value []) x.others));
        fit = λ callee. subst (λ (vs : List Value). pointwise (is_of_type heap callee) (as_locals (map type_of (p ∷ ps))) vs ≡ true) (sym (reverse-append later.front (onto x.value [])))
            (subst (λ (ts : List VerificationType). pointwise (is_of_type heap callee) (ts ++ as_locals (map type_of ps)) (reverse (onto x.value []) ++ reverse later.front) ≡ true) (append-nil (if is_long (type_of p) then type_of p ∷ top ∷ [] else type_of p ∷ []))
            (pairs_append (is_of_type heap callee) (as_locals (type_of p ∷ [])) (as_locals (map type_of ps)) (reverse (onto x.value [])) (reverse later.front) (one_local heap callee p x.value q.0 held) (later.fit callee)));
        whole = subst (λ (vs : List Value). are_whole vs ≡ true) (sym (reverse-append later.front (onto x.value [])))
            (whole_append (reverse (onto x.value [])) (reverse later.front) (whole_one x.value) later.whole);
        are_below = x.are_below;
        below_fit = x.fit;
      }

-- a list reversed is as long
length_reverse : {A : Type 0} (xs : List A) → length (reverse xs) ≡ length xs
length_reverse [] = refl
length_reverse (x ∷ xs) =
    ap length (reverse-append (x ∷ []) xs) ∙ (length-append (reverse xs) (x ∷ []) ∙ (let more = length_reverse xs in omega arith))

-- arguments take as many places as their parameters have words
pub places_are : (heap : HeapTyping) (callee : Environment) (type : MethodType) (front : List Value) → operands_all type.parameters ≡ true
    → pointwise (is_of_type heap callee) (as_locals (map type_of type.parameters)) (reverse front) ≡ true
    → parameter_words type ≡ length front
places_are heap callee type front all fit =
    all_words type.parameters all
    ∙ (pairs_length (is_of_type heap callee) (as_locals (map type_of type.parameters)) (reverse front) fit ∙ length_reverse front)
