-- The types of stack map entries: what is read of known types is spelled so, and what is spelled
-- so is read.
use Rattle.std.proofs.Common.{◌≡◌, ℕ, zero, suc, ◌+◌, ◌<◌, Bool, true, false, cond, eqb, List, [], ◌∷◌, ◌++◌, length, map, Some, None, Result, Err, refl, ap, subst, arith, IsTrue, inl, inr}
use Rattle.std.specs.List.{flat_map, AllByRecursion}
use Rattle.std.proofs.lemmas.Bool.{eqb-true, cases_Bool}
use Rattle.jv_model.specs.Refusal.{Cause}
use Rattle.jv_model.specs.Input.{Input, number_at}
use Rattle.jv_model.specs.ClassData.{Const}
use Rattle.jv_model.specs.ClassBytes.{u1, u2}
use Rattle.jv_model.specs.Code.{MapType, map_top, map_int, map_long, map_null, map_this, map_object, map_argument, map_new}
use Rattle.code_model.specs.StackMapEntries.{EntryType, tagged_type_at, entry_type_at, entry_types_at}
use Rattle.code_model.specs.StackMaps.{is_known, known_type, known_types}
use Rattle.code_model.specs.SpellsFrames.{IsEntryType, type_bytes}
use Rattle.class_laws.proofs.Readers.{Spelling, Reads, Then, Reads-then, Nothing, Reads-ok, Made, Reads-map, Many, Reads-many, number_reads, spelt_then, spelt_last}
use Rattle.code_laws.proofs.Options.{some_is, none_is, option_bind, passes}
use Rattle.code_laws.proofs.Signed.{Number}

-- ---- one of two readers

abbrev pub If : {A : Type 0} → Bool → Spelling A → Spelling A → Spelling A
If true First Second = First
If false First Second = Second

-- one of two readers, as a test says, reads what the one that it is reads
pub Reads-if :
    {A : Type 0} (test : Bool) (first second : Input → Result (A × Input) Cause)
    (First Second : Spelling A)
    → Reads first First → Reads second Second
    → Reads (λ input. cond test (first input) (second input)) (If test First Second)
Reads-if true first second First Second a b = a
Reads-if false first second First Second a b = b

abbrev pub Never : {A : Type 0} → Spelling A
Never at text x = ⊥

-- a reader that refuses all reads nothing
pub Reads-never : {A : Type 0} (cause : Cause) → Reads {A = A} (λ input. Err cause) Never
Reads-never cause = record {
  takes = λ input x e fits. absurd cc;
  finds = λ at text x spelled more. absurd spelled;
}

-- ---- a type

abbrev some_object : ℕ → EntryType
some_object index = Some (map_object index)

abbrev some_new : ℕ → EntryType
some_new offset = Some (map_new offset)

abbrev pub Tagged : ℕ → Spelling EntryType
Tagged tag =
    If (eqb tag 0) (Nothing (Some map_top))
    (If (eqb tag 1) (Nothing (Some map_int))
    (If (eqb tag 2) (Nothing None) (If (eqb tag 3) (Nothing None)
    (If (eqb tag 4) (Nothing (Some map_long))
    (If (eqb tag 5) (Nothing (Some map_null)) (If (eqb tag 6) (Nothing (Some map_this))
    (If (eqb tag 7) (Made some_object (Number 2))
    (If (eqb tag 8) (Made some_new (Number 2)) Never))))))))

-- what stands behind a tag is read
tagged_reads : (unknown : Cause) (tag : ℕ) → Reads (tagged_type_at unknown tag) (Tagged tag)
unfolding tagged_type_at
tagged_reads unknown tag =
    Reads-if (eqb tag 0) _ _ _ _ (Reads-ok (Some map_top)) (
    Reads-if (eqb tag 1) _ _ _ _ (Reads-ok (Some map_int)) (
    Reads-if (eqb tag 2) _ _ _ _ (Reads-ok None) (
    Reads-if (eqb tag 3) _ _ _ _ (Reads-ok None) (
    Reads-if (eqb tag 4) _ _ _ _ (Reads-ok (Some map_long)) (
    Reads-if (eqb tag 5) _ _ _ _ (Reads-ok (Some map_null)) (
    Reads-if (eqb tag 6) _ _ _ _ (Reads-ok (Some map_this)) (
    Reads-if (eqb tag 7) _ _ _ _ (Reads-map (number_at 2) (Number 2) some_object (number_reads 2)) (
    Reads-if (eqb tag 8) _ _ _ _ (Reads-map (number_at 2) (Number 2) some_new (number_reads 2))
    (Reads-never unknown)))))))))

abbrev pub TypeRead : Spelling EntryType
TypeRead = Then (Number 1) Tagged

-- a type is read
pub type_reads : (unknown : Cause) → Reads (entry_type_at unknown) TypeRead
type_reads unknown = Reads-then _ (number_reads 1) (λ tag. tagged_reads unknown tag)

-- so many types are read one after the other
pub types_reads :
    (unknown : Cause) (count : ℕ) → Reads (entry_types_at unknown count) (Many TypeRead count)
unfolding entry_types_at
types_reads unknown =
    Reads-many (entry_type_at unknown) (entry_types_at unknown) TypeRead (type_reads unknown) (
    record {
      none = refl;
      more = λ count. refl;
    })

-- ---- what is read is spelled

-- a type that is known was read of its bytes
abbrev pub IsSpelled : List Const → ℕ → List ℕ → EntryType → Type 0
IsSpelled pool tag text found =
    (type : MapType ℕ) → known_type pool found ≡ Some type
    → (u1 tag ++ text ≡ type_bytes type) × IsEntryType pool type

-- a type that is known is one that this machine has
known_is :
    (pool : List Const) (type its : MapType ℕ) → known_type pool (Some type) ≡ Some its
    → IsTrue (is_known pool type) × (type ≡ its)
known_is pool type its e = passes (is_known pool type) type its e

module _ (pool : List Const) (tag at : ℕ) (text : List ℕ) (found : EntryType) where
  -- a tag with nothing behind it
  plain :
      (number : ℕ) (type : MapType ℕ) → u1 number ≡ type_bytes type → IsEntryType pool type
      → tag ≡ number → Nothing (Some type) at text found → IsSpelled pool tag text found
  plain number type bytes_are right is nothing its e =
      let same =
      known_is pool type its
      (subst (λ (f : EntryType). known_type pool f ≡ Some its) nothing.1 e) in
      subst (λ (t : MapType ℕ). (u1 tag ++ text ≡ type_bytes t) × IsEntryType pool t) same.1
      (rw (nothing.0, is) bytes_are, right)

  -- Float and Double are known to no frame
  unknown_type : Nothing None at text found → IsSpelled pool tag text found
  unknown_type nothing its e =
      none_is its (subst (λ (f : EntryType). known_type pool f ≡ Some its) nothing.1 e)

  -- Object, and the index of its class
  object : tag ≡ 7 → Made some_object (Number 2) at text found → IsSpelled pool tag text found
  object is made its e =
      let same =
      known_is pool (map_object made.0) its
      (subst (λ (f : EntryType). known_type pool f ≡ Some its) made.2 e) in
      subst (λ (t : MapType ℕ). (u1 tag ++ text ≡ type_bytes t) × IsEntryType pool t) same.1
      (rw (made.1.text_is, is) refl, (made.1.right, same.0))

  -- Uninitialized, and an offset
  fresh : tag ≡ 8 → Made some_new (Number 2) at text found → IsSpelled pool tag text found
  fresh is made its e =
      let same =
      known_is pool (map_new made.0) its
      (subst (λ (f : EntryType). known_type pool f ≡ Some its) made.2 e) in
      subst (λ (t : MapType ℕ). (u1 tag ++ text ≡ type_bytes t) × IsEntryType pool t) same.1
      (rw (made.1.text_is, is) refl, made.1.right)

  -- one of two readings, as its test says
  by_test :
      (number : ℕ) (First Second : Spelling EntryType)
      → (tag ≡ number → First at text found → IsSpelled pool tag text found)
      → (Second at text found → IsSpelled pool tag text found)
      → If (eqb tag number) First Second at text found → IsSpelled pool tag text found
  by_test number First Second here others spelled =
      elim (cases_Bool (eqb tag number)) [
        | inl is ↦
            here (eqb-true tag number is)
            (subst (λ (b : Bool). If b First Second at text found) is spelled)
        | inr not ↦ others (subst (λ (b : Bool). If b First Second at text found) not spelled)
      ]

  -- a type behind its tag is spelled, if it's known
  pub tagged_spelled : Tagged tag at text found → IsSpelled pool tag text found
  tagged_spelled =
      by_test 0 _ _ (plain 0 map_top refl tt)
      (by_test 1 _ _ (plain 1 map_int refl tt)
      (by_test 2 _ _ (λ is s. unknown_type s) (by_test 3 _ _ (λ is s. unknown_type s)
      (by_test 4 _ _ (plain 4 map_long refl tt)
      (by_test 5 _ _ (plain 5 map_null refl tt) (by_test 6 _ _ (plain 6 map_this refl tt)
      (by_test 7 _ _ object (by_test 8 _ _ fresh (λ s. absurd s)))))))))

-- a type that is read and known is spelled
pub type_spelled :
    (pool : List Const) (at : ℕ) (text : List ℕ) (found : EntryType) (type : MapType ℕ)
    → known_type pool found ≡ Some type → TypeRead at text found
    → (text ≡ type_bytes type) × IsEntryType pool type
type_spelled pool at text found type e read =
    let its = tagged_spelled pool read.first _ read.rest found read.others type e in
    (rw (read.parts, read.spelled.text_is) its.0, its.1)

-- ---- what is spelled is read

-- a tag with nothing behind it
without :
    (tag at : ℕ) (type : MapType ℕ) → tag < 256 → Tagged tag (at + 1) [] (Some type)
    → TypeRead at (u1 tag) (Some type)
without tag at type small spelled = spelt_last tag small spelled

-- a type that is spelled is read
pub spelled_type :
    (pool : List Const) (at : ℕ) (type : MapType ℕ) → IsEntryType pool type
    → TypeRead at (type_bytes type) (Some type)
spelled_type pool at map_top right = without 0 at map_top (omega arith) (refl, refl)
spelled_type pool at map_int right = without 1 at map_int (omega arith) (refl, refl)
spelled_type pool at map_long right = without 4 at map_long (omega arith) (refl, refl)
spelled_type pool at map_null right = without 5 at map_null (omega arith) (refl, refl)
spelled_type pool at map_this right = without 6 at map_this (omega arith) (refl, refl)
spelled_type pool at (map_object index) right =
    spelt_then 7 (u2 index) (omega arith) (index, record { text_is = refl; right = right.0 }, refl)
spelled_type pool at (map_argument index) right = absurd right
spelled_type pool at (map_new pc) right =
    spelt_then 8 (u2 pc) (omega arith) (pc, record { text_is = refl; right = right }, refl)

-- ---- some types

-- types that are known, as their bytes are spelled
pub record TypesSpelled (pool : List Const) (count : ℕ) (text : List ℕ)
    (types : List (MapType ℕ)) : Type 0 where
  pub as_many : length types ≡ count
  pub right : AllByRecursion (IsEntryType pool) types
  pub text_is : text ≡ flat_map type_bytes types

-- types that are read and known are spelled
pub types_spelled :
    (pool : List Const) (count at : ℕ) (text : List ℕ) (found : List EntryType)
    (types : List (MapType ℕ))
    → known_types pool found ≡ Some types → Many TypeRead count at text found
    → TypesSpelled pool count text types
unfolding known_types
types_spelled pool zero at text found types e many =
    let none : [] ≡ types =
    some_is _ _ (subst (λ (f : List EntryType). known_types pool f ≡ Some types) many.1 e) in
    subst (λ (ts : List (MapType ℕ)). TypesSpelled pool 0 text ts) none (record {
      as_many = refl;
      right = tt;
      text_is = many.0;
    })
types_spelled pool (suc count) at text found types e many =
    let made = many.others in
    let whole = subst (λ (f : List EntryType). known_types pool f ≡ Some types) made.2 e in
    let first = option_bind (known_type pool many.first) _ types whole in
    let others = option_bind (known_types pool made.0) _ types first.2 in
    let one = type_spelled pool at many.front many.first first.0 first.1 many.spelled in
    let more =
    types_spelled pool count (at + length many.front) many.rest made.0 others.0 others.1 made.1
    in
    subst (λ (ts : List (MapType ℕ)). TypesSpelled pool (suc count) text ts)
    (some_is (first.0 ∷ others.0) types others.2)
    (record {
      as_many = ap suc more.as_many;
      right = (one.1, more.right);
      text_is = rw (many.parts, one.0, more.text_is) refl;
    })

-- types that are spelled are read
pub spelled_types :
    (pool : List Const) (at : ℕ) (types : List (MapType ℕ))
    → AllByRecursion (IsEntryType pool) types
    → Many TypeRead (length types) at (flat_map type_bytes types)
    (map (λ (t : MapType ℕ). Some t) types)
spelled_types pool at [] right = (refl, refl)
spelled_types pool at (type ∷ types) right = record {
  first = Some type;
  front = type_bytes type;
  rest = flat_map type_bytes types;
  parts = refl;
  spelled = spelled_type pool at type right.0;
  others = (
    map (λ (t : MapType ℕ). Some t) types,
    spelled_types pool (at + length (type_bytes type)) types right.1,
    refl,
  );
}

-- a type that is spelled is known
pub right_known :
    (pool : List Const) (type : MapType ℕ) → IsEntryType pool type
    → known_type pool (Some type) ≡ Some type
right_known pool map_top right = refl
right_known pool map_int right = refl
right_known pool map_long right = refl
right_known pool map_null right = refl
right_known pool map_this right = refl
right_known pool (map_object index) right = rw (right.1) refl
right_known pool (map_argument index) right = absurd right
right_known pool (map_new pc) right = refl

-- types that are spelled are known
pub all_right_known :
    (pool : List Const) (types : List (MapType ℕ)) → AllByRecursion (IsEntryType pool) types
    → known_types pool (map (λ (t : MapType ℕ). Some t) types) ≡ Some types
unfolding known_types
all_right_known pool [] right = refl
all_right_known pool (type ∷ types) right =
    rw (right_known pool type right.0, all_right_known pool types right.1) refl
