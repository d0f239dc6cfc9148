-- What lies on the operands where typing takes a type, and what comes onto them.
use Rattle.std.proofs.Common.{◌≡◌, ℕ, List, [], ◌∷◌, Option, Some, None, Bool, true, false, refl, sym, subst, inl, inr, ◌∙◌, bytes_eq, cond}
use Rattle.std.specs.Prelude.{◌⊎◌}
use Rattle.std.proofs.lemmas.Bool.{and_parts, or_left, or_cases}
use Rattle.jv_model.specs.Descriptors.{FieldType, byte_type, char_type, double_type, float_type, int_type as int_field, long_type as long_field, short_type, boolean_type, class_type, array_of}
use Rattle.world_model.specs.World.{World}
use Rattle.world_model.specs.BootNames.{java_object}
use Rattle.typing_model.specs.VerificationType.{VerificationType, top, int as int_type, long as long_type, null as null_type, this, new_at, class, array as array_type, is_long, is_one_word, is_same_field_type, type_of}
use Rattle.typing_model.specs.Assignable.{component_assignable, assignable, class_assignable, names_interface}
use Rattle.typing_model.specs.Environment.{Environment}
use Rattle.typing_model.specs.Transition.{Test, to, below}
use Rattle.machine_model.specs.Value.{Value, int, long, half, null, reference, onto}
use Rattle.machine_model.specs.TypedValues.{HeapTyping, may_stand, stands_for, is_of_type, are_of_types, holds}
use Rattle.machine_laws.specs.Runnable.{is_operand}
use Rattle.frame_laws.proofs.Outcome.{both, Lands}
use Rattle.frame_laws.proofs.Verified.{Subsumes, stays_short, short_first, long_only}
use Rattle.frame_laws.proofs.Subsumption.{Orders, same_field_type, stands_on}

-- ---- a value of a type

module _ (heap : HeapTyping) (e : Environment) where
  -- a value of a type of one word takes one place
  pub one_place : (type : VerificationType) (value : Value) (others : List Value) → is_one_word type ≡ true
      → is_of_type heap e type value ≡ true → onto value others ≡ value ∷ others
  unfolding is_of_type
  one_place top value others one of = absurd cc
  one_place long_type value others one of = absurd cc
  one_place int_type (long n) others one of = absurd cc
  one_place null_type (long n) others one of = absurd cc
  one_place this (long n) others one of = absurd cc
  one_place (new_at pc) (long n) others one of = absurd cc
  one_place (class name) (long n) others one of = absurd cc
  one_place (array_type c) (long n) others one of = absurd cc
  one_place type (int n) others one of = refl
  one_place type half others one of = refl
  one_place type null others one of = refl
  one_place type (reference id) others one of = refl

  -- a value of a type comes onto operands of types
  pub lands : (type : VerificationType) (value : Value) → is_operand type ≡ true → is_of_type heap e type value ≡ true
      → Lands heap e type value
  unfolding is_of_type are_of_types
  lands top value is of types others f = absurd cc
  lands long_type (long n) is of types others f = f
  lands long_type value is of types others f = absurd cc
  lands int_type value is of types others f =
      subst (λ (values : List Value). are_of_types heap e (int_type ∷ types) values ≡ true) (sym (one_place int_type value others refl of)) (both (is_of_type heap e int_type value) (are_of_types heap e types others) of f)
  lands null_type value is of types others f =
      subst (λ (values : List Value). are_of_types heap e (null_type ∷ types) values ≡ true) (sym (one_place null_type value others refl of)) (both (is_of_type heap e null_type value) (are_of_types heap e types others) of f)
  lands this value is of types others f =
      subst (λ (values : List Value). are_of_types heap e (this ∷ types) values ≡ true) (sym (one_place this value others refl of)) (both (is_of_type heap e this value) (are_of_types heap e types others) of f)
  lands (new_at pc) value is of types others f =
      subst (λ (values : List Value). are_of_types heap e (new_at pc ∷ types) values ≡ true) (sym (one_place (new_at pc) value others refl of)) (both (is_of_type heap e (new_at pc) value) (are_of_types heap e types others) of f)
  lands (class name) value is of types others f =
      subst (λ (values : List Value). are_of_types heap e (class name ∷ types) values ≡ true) (sym (one_place (class name) value others refl of)) (both (is_of_type heap e (class name) value) (are_of_types heap e types others) of f)
  lands (array_type c) value is of types others f =
      subst (λ (values : List Value). are_of_types heap e (array_type c ∷ types) values ≡ true) (sym (one_place (array_type c) value others refl of)) (both (is_of_type heap e (array_type c) value) (are_of_types heap e types others) of f)

  -- null, or an object that stands for a type
  pub data Object (type : FieldType) : Value → Type 0 where
    no_object : Object type null
    object : (id : ℕ) → stands_for heap id type ≡ true → Object type (reference id)

  pub class_object : (name : List ℕ) (value : Value) → is_of_type heap e (class name) value ≡ true
      → Object (class_type name) value
  unfolding is_of_type
  class_object name null of = no_object
  class_object name (reference id) of = object id of
  class_object name value of = absurd cc

  pub array_object : (component : FieldType) (value : Value) → is_of_type heap e (array_type component) value ≡ true
      → Object (array_of component) value
  unfolding is_of_type
  array_object component null of = no_object
  array_object component (reference id) of = object id of
  array_object component value of = absurd cc

  -- what a field or an element holds is of its type
  pub held_of_type : (type : FieldType) (value : Value) → is_operand (type_of type) ≡ true → holds heap type value ≡ true
      → is_of_type heap e (type_of type) value ≡ true
  unfolding type_of is_of_type
  held_of_type double_type value is h = absurd cc
  held_of_type float_type value is h = absurd cc
  held_of_type long_field (long n) is h = refl
  held_of_type long_field value is h = absurd cc
  held_of_type (class_type name) null is h = refl
  held_of_type (class_type name) (reference id) is h = h
  held_of_type (class_type name) value is h = absurd cc
  held_of_type (array_of c) null is h = refl
  held_of_type (array_of c) (reference id) is h = h
  held_of_type (array_of c) value is h = absurd cc
  held_of_type byte_type (int n) is h = refl
  held_of_type byte_type value is h = absurd cc
  held_of_type char_type (int n) is h = refl
  held_of_type char_type value is h = absurd cc
  held_of_type int_field (int n) is h = refl
  held_of_type int_field value is h = absurd cc
  held_of_type short_type (int n) is h = refl
  held_of_type short_type value is h = absurd cc
  held_of_type boolean_type (int n) is h = refl
  held_of_type boolean_type value is h = absurd cc

  -- and a value of its type may be held
  pub of_type_held : (type : FieldType) (value : Value) → is_operand (type_of type) ≡ true
      → is_of_type heap e (type_of type) value ≡ true → holds heap type value ≡ true
  unfolding type_of is_of_type
  of_type_held double_type value is h = absurd cc
  of_type_held float_type value is h = absurd cc
  of_type_held long_field (long n) is h = refl
  of_type_held long_field value is h = absurd cc
  of_type_held (class_type name) null is h = refl
  of_type_held (class_type name) (reference id) is h = h
  of_type_held (class_type name) value is h = absurd cc
  of_type_held (array_of c) null is h = refl
  of_type_held (array_of c) (reference id) is h = h
  of_type_held (array_of c) value is h = absurd cc
  of_type_held byte_type (int n) is h = refl
  of_type_held byte_type value is h = absurd cc
  of_type_held char_type (int n) is h = refl
  of_type_held char_type value is h = absurd cc
  of_type_held int_field (int n) is h = refl
  of_type_held int_field value is h = absurd cc
  of_type_held short_type (int n) is h = refl
  of_type_held short_type value is h = absurd cc
  of_type_held boolean_type (int n) is h = refl
  of_type_held boolean_type value is h = absurd cc

-- ---- a value that goes to a type

-- A value of the wanted type lies on these operands.
pub record TakesWanted (heap : HeapTyping) (e : Environment) (wanted : VerificationType) (tests : List Test)
    (rest : List VerificationType) (values : List Value) : Type 0 where
  pub value : Value
  pub others : List Value
  pub types : List VerificationType
  pub is : values ≡ onto value others
  pub of : is_of_type heap e wanted value ≡ true
  pub are_below : below tests types ≡ Some rest
  pub fit : are_of_types heap e types others ≡ true

-- what stands behind a test that gives something
pub when_test : {A : Type 0} (b : Bool) (o : Option A) (a : A) → cond b o None ≡ Some a → (b ≡ true) × (o ≡ Some a)
when_test true o a h = (refl, h)
when_test false o a h = absurd cc

module _ (heap : HeapTyping) (e : Environment) (subsumes : Subsumes heap e) where
  -- a type that isn't Long that goes to a type that isn't Top: so does a value, in its one place
  short_taken : (wanted type : VerificationType) (tests : List Test) (types rest : List VerificationType) (value : Value)
      (values : List Value) → is_operand wanted ≡ true → is_long type ≡ false → assignable e.world type wanted ≡ true
      → below tests types ≡ Some rest → are_of_types heap e (type ∷ types) (value ∷ values) ≡ true
      → TakesWanted heap e wanted tests rest (value ∷ values)
  short_taken wanted type tests types rest value values is short goes b f =
      let parts = and_parts (is_of_type heap e type value) (are_of_types heap e types values) (sym (short_first heap e subsumes type types value values short) ∙ f) in
      let of = subsumes type wanted value goes parts.0 in
      record {
        value = value;
        others = values;
        types = types;
        is = sym (one_place heap e wanted value values (one wanted is (stays_short heap e subsumes type wanted short goes)) of);
        of = of;
        are_below = b;
        fit = parts.1;
      }
    where
      one : (wanted : VerificationType) → is_operand wanted ≡ true → is_long wanted ≡ false → is_one_word wanted ≡ true
      one top is narrow = absurd cc
      one long_type is narrow = absurd cc
      one wanted is narrow = refl

  -- where typing takes what goes to a type, a value of it lies there
  pub take_wanted : (wanted : VerificationType) (tests : List Test) (stack rest : List VerificationType) (values : List Value)
      → is_operand wanted ≡ true → below (to e wanted ∷ tests) stack ≡ Some rest
      → are_of_types heap e stack values ≡ true → TakesWanted heap e wanted tests rest values
  unfolding below are_of_types is_of_type
  take_wanted wanted tests [] rest values is b f = absurd cc
  take_wanted wanted tests (long_type ∷ types) rest (half ∷ long n ∷ values) is b f =
      let w = when_test (is_long wanted) (below tests types) rest b in
      record {
        value = long n;
        others = values;
        types = types;
        is = refl;
        of = subst (λ (t : VerificationType). is_of_type heap e t (long n) ≡ true) (long_only heap e subsumes wanted w.0) refl;
        are_below = w.1;
        fit = f;
      }
  take_wanted wanted tests (long_type ∷ types) rest values is b f = absurd cc
  take_wanted wanted tests (type ∷ types) rest [] is b f = absurd cc
  take_wanted wanted tests (type ∷ types) rest (value ∷ values) is b f =
      let w = when_test (assignable e.world type wanted) (below tests types) rest b in
      short_taken wanted type tests types rest value values is refl w.0 w.1 f

-- ---- what may stand where

-- where one may stand for another and this for a third, the first may stand for the third
module _ (world : World) (orders : Orders world) where
  pub stands_through : (own from to : FieldType) → may_stand world own from ≡ true → may_stand world from to ≡ true
      → may_stand world own to ≡ true
  unfolding may_stand is_same_field_type component_assignable
  stands_through own (class_type from) (class_type to) h k = go own h (or_cases (bytes_eq to java_object) (class_assignable world from to) k)
    where
      go : (own : FieldType) → may_stand world own (class_type from) ≡ true
          → (bytes_eq to java_object ≡ true) ⊎ (class_assignable world from to ≡ true) → may_stand world own (class_type to) ≡ true
      go (class_type own) h (inl root) = or_left (bytes_eq to java_object) (class_assignable world own to) root
      go (array_of own) h (inl root) = or_left (bytes_eq to java_object) (names_interface world to) root
      go own h (inl root) = absurd cc
      go own h (inr goes) = stands_on world orders (class_type from) (class_type to) own h goes
  stands_through (array_of own) (array_of from) (class_type to) h k = k
  stands_through own (array_of from) (class_type to) h k = absurd cc
  stands_through (array_of own) (array_of from) (array_of to) h k = stands_through own from to h k
  stands_through own (array_of from) (array_of to) h k = absurd cc
  stands_through own from to h k = subst (λ (t : FieldType). may_stand world own t ≡ true) (same_field_type from to k) h
