-- What fields and elements start with is of their types.
use Rattle.std.proofs.Common.{◌≡◌, ℕ, List, [], ◌∷◌, Option, Some, None, Bool, true, false, refl, ap, sym, subst, ◌∙◌, if◌then◌else◌, cond, ◌==◌, inl, inr, replicate, zero, suc, nat_le}
use Rattle.std.specs.Prelude.{◌⊎◌, is_some}
use Rattle.std.specs.List.{list_all}
use Rattle.std.proofs.lemmas.Bool.{and_parts, eqb-true}
use lib.Pointwise.{pointwise}
use Rattle.jv_model.specs.Partial.{passes, ◌>>=◌}
use Rattle.jv_model.specs.Operand.{MemberReference}
use Rattle.jv_model.specs.Descriptors.{FieldType, byte_type, char_type, double_type, float_type, int_type, long_type, short_type, boolean_type, class_type, array_of}
use Rattle.jv_model.specs.Instruction.{ValueKind}
use Rattle.code_model.specs.TypeReading.{type_at, whole, class_type_at, before_semicolon, is_class_name, base_type, field_type_of, dimensions, most_dimensions}
use Rattle.machine_model.specs.Value.{Value, int, long, null, reference, zero_of, zeros, kind_of, kind_of_type, is_of_kind}
use Rattle.machine_model.specs.TypedValues.{HeapTyping, holds, is_declared}
use Rattle.frame_laws.proofs.Outcome.{some_inj, both}

-- the first answer or a later one
pick : {A : Type 0} (b : Bool) (x y : A) (rest : Option A) → cond b (Some x) rest ≡ Some y
    → ((b ≡ true) × (x ≡ y)) ⊎ (rest ≡ Some y)
pick true x y rest h = inl (refl, some_inj h)
pick false x y rest h = inr h

module _ (heap : HeapTyping) where
  -- a descriptor that begins with this unit is of the type's kind
  abbrev Kind : FieldType → List ℕ → ℕ → Type 0
  Kind t us u = kind_of (u ∷ us) ≡ kind_of_type t

  at_unit : (u v : ℕ) (us : List ℕ) (s t : FieldType) → (u == v) ≡ true → s ≡ t → Kind s us v → Kind t us u
  at_unit u v us s t is same h = subst (Kind t us) (sym (eqb-true u v is)) (subst (λ (t : FieldType). Kind t us v) same h)

  base_zero : (u : ℕ) (us : List ℕ) (t : FieldType) → base_type u ≡ Some t → Kind t us u
  base_zero u us t h = elim (pick (u == 0x42) byte_type t _ h) [
    | inl is ↦ at_unit u 0x42 us byte_type t is.0 is.1 refl
    | inr h ↦ elim (pick (u == 0x43) char_type t _ h) [
      | inl is ↦ at_unit u 0x43 us char_type t is.0 is.1 refl
      | inr h ↦ elim (pick (u == 0x44) double_type t _ h) [
        | inl is ↦ at_unit u 0x44 us double_type t is.0 is.1 refl
        | inr h ↦ elim (pick (u == 0x46) float_type t _ h) [
          | inl is ↦ at_unit u 0x46 us float_type t is.0 is.1 refl
          | inr h ↦ elim (pick (u == 0x49) int_type t _ h) [
            | inl is ↦ at_unit u 0x49 us int_type t is.0 is.1 refl
            | inr h ↦ elim (pick (u == 0x4A) long_type t _ h) [
              | inl is ↦ at_unit u 0x4A us long_type t is.0 is.1 refl
              | inr h ↦ elim (pick (u == 0x53) short_type t _ h) [
                | inl is ↦ at_unit u 0x53 us short_type t is.0 is.1 refl
                | inr h ↦ elim (pick (u == 0x5A) boolean_type t None h) [
                  | inl is ↦ at_unit u 0x5A us boolean_type t is.0 is.1 refl
                  | inr h ↦ absurd cc
                ]
              ]
            ]
          ]
        ]
      ]
    ]
  ]

  -- of a whole text whose front was made of something the type is made of it
  whole_is : {A : Type 0} (o : Option (A × List ℕ)) (f : A → FieldType) (t : FieldType)
      → whole (o >>= λ x. Some (f x.0, x.1)) ≡ Some t → (x : A) × (f x ≡ t)
  whole_is None f t h = absurd cc
  whole_is (Some (x, [])) f t h = (x, some_inj h)
  whole_is (Some (x, u ∷ us)) f t h = absurd cc

  class_is : (o : Option (List ℕ × List ℕ)) (t : FieldType)
      → whole (o >>= λ name. if is_class_name name.0 then Some (class_type name.0, name.1) else None) ≡ Some t
      → (name : List ℕ) × (class_type name ≡ t)
  class_is None t h = absurd cc
  class_is (Some (name, us)) t h = go (is_class_name name) us h
    where
      go : (b : Bool) (us : List ℕ) → whole (if b then Some (class_type name, us) else None) ≡ Some t
          → (n : List ℕ) × (class_type n ≡ t)
      go false us h = absurd cc
      go true [] h = (name, some_inj h)
      go true (u ∷ us) h = absurd cc

  base_is : (us : List ℕ) (o : Option FieldType) (t : FieldType) → whole (o >>= λ base. Some (base, us)) ≡ Some t → o ≡ Some t
  base_is us None t h = absurd cc
  base_is [] (Some b) t h = h
  base_is (u ∷ us) (Some b) t h = absurd cc

  -- the kind of a descriptor is that of its type
  pub kind_read : (descriptor : List ℕ) (t : FieldType) → whole (type_at descriptor) ≡ Some t
      → kind_of descriptor ≡ kind_of_type t
  unfolding type_at
  kind_read [] t h = absurd cc
  kind_read (u ∷ us) t h = bracket (u == 0x5B) refl h
    where
      letter : (b : Bool) → (u == 0x4C) ≡ b
          → whole (if b then class_type_at us else base_type u >>= λ base. Some (base, us)) ≡ Some t → Kind t us u
      letter true is h = let name = class_is (before_semicolon us) t h in at_unit u 0x4C us (class_type name.0) t is name.1 refl
      letter false is h = base_zero u us t (base_is us (base_type u) t h)

      bracket : (b : Bool) → (u == 0x5B) ≡ b
          → whole (if b then (type_at us >>= λ component. Some (array_of component.0, component.1))
          else if u == 0x4C then class_type_at us else base_type u >>= λ base. Some (base, us)) ≡ Some t → Kind t us u
      bracket true is h = let c = whole_is (type_at us) array_of t h in at_unit u 0x5B us (array_of c.0) t is c.1 refl
      bracket false is h = letter (u == 0x4C) refl h

  -- a field or an element of a type holds its zero
  pub zero_of_type : (t : FieldType) → holds heap t (zero_of (kind_of_type t)) ≡ true
  zero_of_type long_type = refl
  zero_of_type (class_type name) = refl
  zero_of_type (array_of component) = refl
  zero_of_type other = refl

  -- a field of a type holds the zero of its descriptor
  zero_held : (descriptor : List ℕ) (t : FieldType) → whole (type_at descriptor) ≡ Some t
      → holds heap t (zero_of (kind_of descriptor)) ≡ true
  zero_held descriptor t h = ap (λ (k : ValueKind). holds heap t (zero_of k)) (kind_read descriptor t h) ∙ zero_of_type t

  -- what a type holds is of its kind
  pub held_kind : (t : FieldType) (value : Value) → holds heap t value ≡ true → is_of_kind (kind_of_type t) value ≡ true
  held_kind long_type (long n) h = refl
  held_kind long_type value h = absurd cc
  held_kind (class_type name) null h = refl
  held_kind (class_type name) (reference id) h = refl
  held_kind (class_type name) value h = absurd cc
  held_kind (array_of component) null h = refl
  held_kind (array_of component) (reference id) h = refl
  held_kind (array_of component) value h = absurd cc
  held_kind other (int n) h = refl
  held_kind other value h = absurd cc

  -- the type of a field's descriptor is read of it without a limit, too
  pub read_too : (descriptor : List ℕ) (t : FieldType) → field_type_of descriptor ≡ Some t → whole (type_at descriptor) ≡ Some t
  read_too descriptor t h = go (type_at descriptor) h
    where
      go : (o : Option (FieldType × List ℕ))
          → whole (o >>= λ type. if nat_le (dimensions type.0) most_dimensions then Some type else None) ≡ Some t
          → whole o ≡ Some t
      go None h = absurd cc
      go (Some (s, us)) h = few (nat_le (dimensions s) most_dimensions) us h
        where
          few : (b : Bool) (us : List ℕ) → whole (if b then Some (s, us) else None) ≡ Some t → whole (Some (s, us)) ≡ Some t
          few false us h = absurd cc
          few true us h = h

  -- the zero of a field is declared
  pub zero_declared : (descriptor : List ℕ) → is_some (field_type_of descriptor) ≡ true
      → is_declared heap descriptor (zero_of (kind_of descriptor)) ≡ true
  zero_declared descriptor h = go (field_type_of descriptor) refl h
    where
      go : (o : Option FieldType) → field_type_of descriptor ≡ o → is_some o ≡ true
          → passes (λ type. holds heap type (zero_of (kind_of descriptor))) o ≡ true
      go None is h = absurd cc
      go (Some t) is h = zero_held descriptor t (read_too descriptor t is)

  pub zeros_declared : (fields : List MemberReference)
      → list_all (λ (f : MemberReference). is_some (field_type_of f.descriptor)) fields ≡ true
      → pointwise (λ (f : MemberReference) value. is_declared heap f.descriptor value) fields (zeros fields) ≡ true
  zeros_declared [] h = refl
  zeros_declared (f ∷ fields) h =
      let p = and_parts (is_some (field_type_of f.descriptor)) (list_all (λ (f : MemberReference). is_some (field_type_of f.descriptor)) fields) h in
      both (is_declared heap f.descriptor (zero_of (kind_of f.descriptor))) (pointwise (λ (f : MemberReference) value. is_declared heap f.descriptor value) fields (zeros fields)) (zero_declared f.descriptor p.0) (zeros_declared fields p.1)

  -- all elements of a new array are held
  pub all_zero : (n : ℕ) (t : FieldType) (value : Value) → holds heap t value ≡ true
      → list_all (holds heap t) (replicate n value) ≡ true
  all_zero zero t value h = refl
  all_zero (suc n) t value h = both (holds heap t value) (list_all (holds heap t) (replicate n value)) h (all_zero n t value h)
