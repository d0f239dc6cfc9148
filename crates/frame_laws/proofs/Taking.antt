-- Which values are of a type, and which operands are of the types that an instruction takes.
use Rattle.std.proofs.Common.{◌≡◌, ℕ, ℤ, List, [], ◌∷◌, ◌++◌, Option, Some, None, true, refl, length, ◌+◌, arith}
use Rattle.std.specs.Prelude.{map, is_some}
use Rattle.std.proofs.lemmas.Bool.{and_parts}
use Rattle.std.proofs.lemmas.List.Sums.{sum_by-cons}
use Rattle.jv_model.specs.Partial.{passes}
use Rattle.jv_model.specs.Descriptors.{FieldType, class_type, array_of}
use Rattle.jv_model.specs.Instruction.{ValueKind, of_int, of_long, of_reference}
use Rattle.typing_model.specs.VerificationType.{VerificationType, top, int as int_type, long as long_type, null as null_type, this, new_at, class, array, is_int, is_long, is_reference, is_of_kind as is_type_of_kind, words, words_of}
use Rattle.typing_model.specs.Environment.{Environment}
use Rattle.typing_model.specs.Transition.{Test, below}
use Rattle.machine_model.specs.Value.{Value, int, long, half, null, reference, is_of_kind}
use Rattle.machine_model.specs.TypedValues.{HeapTyping, may_stand, stands_for, is_in_use, is_known, class_made_at, is_of_type, are_of_types}

-- ---- a value of a type

-- a reference that is null, or that of an object
abbrev pub reference_of : Option ℕ → Value
reference_of None = null
reference_of (Some id) = reference id

-- a value of an int type is an int
pub int_value : (heap : HeapTyping) (e : Environment) (type : VerificationType) (value : Value) → is_int type ≡ true
    → is_of_type heap e type value ≡ true → (n : ℤ) × (value ≡ int n)
unfolding is_of_type
int_value heap e int_type (int n) is of = (n, refl)
int_value heap e type value is of = absurd cc

-- a value of a long type is a long
pub long_value : (heap : HeapTyping) (e : Environment) (type : VerificationType) (value : Value) → is_long type ≡ true
    → is_of_type heap e type value ≡ true → (n : ℤ) × (value ≡ long n)
unfolding is_of_type
long_value heap e long_type (long n) is of = (n, refl)
long_value heap e type value is of = absurd cc

-- a value of a reference type is null or a reference
pub reference_value : (heap : HeapTyping) (e : Environment) (type : VerificationType) (value : Value) → is_reference type ≡ true
    → is_of_type heap e type value ≡ true
    → (r : Option ℕ) × (value ≡ reference_of r)
unfolding is_of_type
reference_value heap e top value is of = absurd cc
reference_value heap e int_type value is of = absurd cc
reference_value heap e long_type value is of = absurd cc
reference_value heap e type null is of = (None, refl)
reference_value heap e type (reference id) is of = (Some id, refl)
reference_value heap e type value is of = absurd cc

-- a value of a type of a kind is of that kind
pub value_of_kind : (heap : HeapTyping) (e : Environment) (kind : ValueKind) (type : VerificationType) (value : Value)
    → is_type_of_kind kind type ≡ true → is_of_type heap e type value ≡ true
    → is_of_kind kind value ≡ true
value_of_kind heap e of_int type value is of = rw (int_value heap e type value is of).1 refl
value_of_kind heap e of_long type value is of = rw (long_value heap e type value is of).1 refl
value_of_kind heap e of_reference type value is of = go (reference_value heap e type value is of)
  where
    go : (r : Option ℕ) × (value ≡ reference_of r) → is_of_kind of_reference value ≡ true
    go (None, same) = rw same refl
    go (Some id, same) = rw same refl

-- an object that stands somewhere is in use
pub stands_in_use : (heap : HeapTyping) (id : ℕ) (type : FieldType) → stands_for heap id type ≡ true
    → is_in_use heap id ≡ true
stands_in_use heap id type h = go (heap.type_at id) h
  where
    go : (o : Option FieldType) → passes (λ own. may_stand heap.world own type) o ≡ true → is_some o ≡ true
    go None h = absurd cc
    go (Some own) h = refl

-- a value of a type is known
pub known_of : (heap : HeapTyping) (e : Environment) (type : VerificationType) (value : Value)
    → is_of_type heap e type value ≡ true → is_known heap value ≡ true
unfolding is_of_type
known_of heap e top value f = f
known_of heap e this (reference id) f = stands_in_use heap id (class_type e.class.name) f
known_of heap e (new_at pc) (reference id) f = go (class_made_at e pc) f
  where
    go : (o : Option (List ℕ)) → passes (λ name. stands_for heap id (class_type name)) o ≡ true
        → is_in_use heap id ≡ true
    go None f = absurd cc
    go (Some name) f = stands_in_use heap id (class_type name) f
known_of heap e (class name) (reference id) f = stands_in_use heap id (class_type name) f
known_of heap e (array component) (reference id) f = stands_in_use heap id (array_of component) f
known_of heap e int_type (reference id) f = absurd cc
known_of heap e long_type (reference id) f = absurd cc
known_of heap e null_type (reference id) f = absurd cc
known_of heap e type value f = refl

-- ---- the value on top

-- A value lies on these operands, in one place or two, and what is left is of those types.
pub record Takes {A : Type 0} (heap : HeapTyping) (e : Environment) (front : A → List Value) (tests : List Test) (rest : List VerificationType) (values : List Value) : Type 0 where
  pub found : A
  pub others : List Value
  pub types : List VerificationType
  pub is : values ≡ front found ++ others
  pub are_below : below tests types ≡ Some rest
  pub fit : are_of_types heap e types others ≡ true

-- the place of an int
abbrev pub int_place : ℤ → List Value
int_place n = int n ∷ []

-- the places of a long
abbrev pub long_places : ℤ → List Value
long_places n = half ∷ long n ∷ []

-- the place of a reference
abbrev pub reference_place : Option ℕ → List Value
reference_place r = reference_of r ∷ []

-- where typing takes an int, there is one
pub take_int : (heap : HeapTyping) (e : Environment) (tests : List Test) (stack rest : List VerificationType) (values : List Value)
    → below (is_int ∷ tests) stack ≡ Some rest
    → are_of_types heap e stack values ≡ true → Takes heap e int_place tests rest values
unfolding below are_of_types is_of_type
take_int heap e tests (int_type ∷ types) rest (int n ∷ values) b f =
    record { found = n; others = values; types = types; is = refl; are_below = b; fit = f }
take_int heap e tests stack rest values b f = absurd cc

-- where typing takes a Long, there is one
pub take_long : (heap : HeapTyping) (e : Environment) (tests : List Test) (stack rest : List VerificationType) (values : List Value)
    → below (is_long ∷ tests) stack ≡ Some rest
    → are_of_types heap e stack values ≡ true → Takes heap e long_places tests rest values
unfolding below are_of_types is_of_type
take_long heap e tests (long_type ∷ types) rest (half ∷ long n ∷ values) b f =
    record { found = n; others = values; types = types; is = refl; are_below = b; fit = f }
take_long heap e tests stack rest values b f = absurd cc

-- where typing takes a reference, there is one
pub take_reference : (heap : HeapTyping) (e : Environment) (tests : List Test) (stack rest : List VerificationType) (values : List Value)
    → below (is_reference ∷ tests) stack ≡ Some rest
    → are_of_types heap e stack values ≡ true → Takes heap e reference_place tests rest values
unfolding below are_of_types is_of_type
take_reference heap e tests (top ∷ types) rest values b f = absurd cc
take_reference heap e tests (int_type ∷ types) rest values b f = absurd cc
take_reference heap e tests (long_type ∷ types) rest values b f = absurd cc
take_reference heap e tests (type ∷ types) rest (null ∷ values) b f =
    record { found = None; others = values; types = types; is = refl; are_below = b; fit = (and_parts (is_of_type heap e type null) (are_of_types heap e types values) f).1 }
take_reference heap e tests (type ∷ types) rest (reference id ∷ values) b f =
    record { found = Some id; others = values; types = types; is = refl; are_below = b; fit = (and_parts (is_of_type heap e type (reference id)) (are_of_types heap e types values) f).1 }
take_reference heap e tests stack rest values b f = absurd cc

-- ---- operands in groups

-- the words of types are those of the first and of the others
pub words_first : (type : VerificationType) (types : List VerificationType) → words_of (type ∷ types) ≡ words type + words_of types
words_first type types = sum_by-cons (λ x. x) (words type) (map words types)

-- operands have as many places as their types have words
pub length_is_words : (heap : HeapTyping) (e : Environment) (types : List VerificationType) (values : List Value)
    → are_of_types heap e types values ≡ true → length values ≡ words_of types
unfolding are_of_types is_of_type
length_is_words heap e [] [] f = refl
length_is_words heap e (long_type ∷ types) (half ∷ long n ∷ values) f =
    rw (words_first long_type types, length_is_words heap e types values f) (omega arith)
length_is_words heap e (long_type ∷ types) values f = absurd cc
length_is_words heap e (type ∷ types) (value ∷ values) f =
    rw (words_first type types, length_is_words heap e types values (and_parts (is_of_type heap e type value) (are_of_types heap e types values) f).1) (omega arith)
length_is_words heap e types values f = absurd cc
