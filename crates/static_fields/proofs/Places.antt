-- The values of fields by number.
use Rattle.std.proofs.Common.{◌≡◌, ◌≢◌, ℕ, zero, suc, ◌+◌, ◌<◌, ◌≤◌, ◌==◌, ◌&&◌, Bool, true, false, List, [], ◌∷◌, ◌++◌, Option, Some, None, length, map, slice_get, slice_index, get_or, nat_lt, sum, take, is_some, option_map, option_and_then, if◌then◌else◌, ap, sym, ◌∙◌, refl, zero-add, add_assoc, true≢false, arith}
use Rattle.std.specs.List.{flat_map}
use Rattle.std.proofs.Math.ListN.{set, length-set}
use Rattle.std.proofs.lemmas.Bool.{false≢true}
use Rattle.std.proofs.lemmas.Bool.Decides.{Decides-ltb, Decides-eqb}
use Rattle.std.proofs.lemmas.List.{length-map, length-append, get_or-set_same, get_or-set_other}
use Rattle.std.proofs.lemmas.Option.{slice_get-map, slice_get_past, slice_get_within, slice_get-get_or, get_or_from_slice_get}
use Rattle.jv_types.specs.Sequence.{Sequence}
use Rattle.class_members.specs.declared.field.FieldRow.{FieldRow}
use Rattle.member_numbers.specs.Numbers.{number_of, IsMember}
use Rattle.member_numbers.proofs.Sums.{apart, sum-cons}
use Rattle.class_graph.proofs.Passing.{and_left, and_right}
use Rattle.static_fields.specs.Statics.{Place, Word, same_place, value_in, first_in}

-- ---- lists

slice_get-left : {A : Type 0} (xs ys : List A) (i : ℕ) → i < length xs → slice_get (xs ++ ys) i ≡ slice_get xs i
slice_get-left [] ys i inside = absurd (omega arith)
slice_get-left (x ∷ xs) ys zero inside = refl
slice_get-left (x ∷ xs) ys (suc i) inside = slice_get-left xs ys i (omega arith)

slice_get-right : {A : Type 0} (xs ys : List A) (n i j : ℕ) → length xs ≡ n → j ≡ n + i → slice_get (xs ++ ys) j ≡ slice_get ys i
slice_get-right [] ys n i j long is = ap (slice_get ys) (omega arith)
slice_get-right (x ∷ xs) ys zero i j long is = absurd (omega arith)
slice_get-right (x ∷ xs) ys (suc n) i zero long is = absurd (omega arith)
slice_get-right (x ∷ xs) ys (suc n) i (suc j) long is = slice_get-right xs ys n i j (omega arith) (omega arith)

slice_get-set_same : {A : Type 0} (xs : List A) (n : ℕ) (x : A) → n < length xs → slice_get (set xs n x) n ≡ Some x
slice_get-set_same xs n x inside =
    slice_get-get_or (set xs n x) n x (omega (arith, length-set xs n x)) ∙ ap Some (get_or-set_same xs n x x inside)

slice_get-set_other : {A : Type 0} (xs : List A) (n m : ℕ) (x : A) → m ≢ n → slice_get (set xs n x) m ≡ slice_get xs m
slice_get-set_other {A} xs n m x other = by (nat_lt m (length xs)) refl
  where
    by : (b : Bool) → nat_lt m (length xs) ≡ b → slice_get (set xs n x) m ≡ slice_get xs m
    by true inside =
        let here = (Decides-ltb m (length xs)).0 inside in
        slice_get-get_or (set xs n x) m x (omega (arith, length-set xs n x)) ∙ ap Some (get_or-set_other xs n m x x other)
        ∙ sym (slice_get-get_or xs m x here)
    by false past =
        let no : m < length xs → ⊥ = λ lt. true≢false (sym ((Decides-ltb m (length xs)).1 lt) ∙ past) in
        slice_get_past (set xs n x) m (omega (arith, length-set xs n x)) ∙ sym (slice_get_past xs m (omega arith))

-- ---- the values of rows, one class after the other

abbrev pub firsts : Sequence FieldRow → List Word
firsts row = map (λ (r : FieldRow). r.first) row.items

abbrev pub counts_of : List (Sequence FieldRow) → List ℕ
counts_of rows = map (λ (row : Sequence FieldRow). length row.items) rows

abbrev first_with : Option FieldRow → Option Word
first_with row = option_map (λ (r : FieldRow). r.first) row

abbrev inside_of : ℕ → Option Word → ℕ → Option Word
inside_of index value count = if nat_lt index count then value else None

first_there : (row : Sequence FieldRow) (rest : List Word) (index at : ℕ) → at ≡ index
    → inside_of index (slice_get (firsts row ++ rest) at) (length row.items) ≡ first_with (slice_get row.items index)
first_there row rest index at is = by (nat_lt index (length row.items)) refl
  where
    by : (b : Bool) → nat_lt index (length row.items) ≡ b
        → (if b then slice_get (firsts row ++ rest) at else None) ≡ first_with (slice_get row.items index)
    by true inside =
        let here = (Decides-ltb index (length row.items)).0 inside in
        ap (slice_get (firsts row ++ rest)) is
        ∙ slice_get-left (firsts row) rest index (omega (arith, length-map row.items (λ (r : FieldRow). r.first)))
        ∙ slice_get-map (λ (r : FieldRow). r.first) row.items index
    by false past =
        let no : index < length row.items → ⊥ = λ lt. true≢false (sym ((Decides-ltb index (length row.items)).1 lt) ∙ past) in
        sym (ap first_with (slice_get_past row.items index (omega arith)))

flat_first : (rows : List (Sequence FieldRow)) (class index : ℕ)
    → value_in (counts_of rows) (flat_map firsts rows) class index
    ≡ first_with (option_and_then (λ (row : Sequence FieldRow). slice_get row.items index) (slice_get rows class))
flat_first [] class index = refl
flat_first (row ∷ rows) zero index = first_there row (flat_map firsts rows) index (0 + index) (zero-add index)
flat_first (row ∷ rows) (suc class) index =
    let long = length-map row.items (λ (r : FieldRow). r.first) in
    let at = sum (take class (counts_of rows)) + index in
    ap (λ (v : Option Word). option_and_then (inside_of index v) (slice_get (counts_of rows) class))
    (slice_get-right (firsts row) (flat_map firsts rows) (length row.items) at
    (number_of (length row.items ∷ counts_of rows) (suc class) index) long (omega (arith, sum-cons (length row.items) (take class (counts_of rows)))))
    ∙ flat_first rows class index

pub all_first : (rows : List (Sequence FieldRow)) (counts : List ℕ) (values : List Word)
    → counts ≡ counts_of rows → values ≡ flat_map firsts rows → (place : Place)
    → value_in counts values place.class.0 place.index ≡ first_in rows place
all_first rows counts values is_counts is_values place =
    (λ i. value_in (is_counts i) (is_values i) place.class.0 place.index) ∙ flat_first rows place.class.0 place.index

pub length-values : (rows : List (Sequence FieldRow)) → length (flat_map firsts rows) ≡ sum (counts_of rows)
length-values [] = refl
length-values (row ∷ rows) =
    length-append (firsts row) (flat_map firsts rows) ∙ (omega (arith, length-values rows, sum-cons (length row.items) (counts_of rows), length-map row.items (λ (r : FieldRow). r.first)))

-- ---- one place

-- where there is a value the class has that field
pub member_there : (counts : List ℕ) (values : List Word) (class index : ℕ) → is_some (value_in counts values class index) ≡ true
    → IsMember counts class index × (value_in counts values class index ≡ slice_get values (number_of counts class index))
member_there counts values class index there = by (slice_get counts class) refl
  where
    with_count : (count : ℕ) → slice_get counts class ≡ Some count → (b : Bool) → nat_lt index count ≡ b
        → IsMember counts class index × (value_in counts values class index ≡ slice_get values (number_of counts class index))
    with_count count at true inside =
        let same : slice_index counts class ≡ count = get_or_from_slice_get counts class count 0 at in (
          (slice_get_within counts class count at, omega (arith, same, (Decides-ltb index count).0 inside)),
          ap (option_and_then (inside_of index (slice_get values (number_of counts class index)))) at
              ∙ ap (λ (b : Bool). if b then slice_get values (number_of counts class index) else None) inside,
        )
    with_count count at false past =
        absurd (false≢true (sym (ap is_some (ap (option_and_then (inside_of index (slice_get values (number_of counts class index)))) at
        ∙ ap (λ (b : Bool). if b then slice_get values (number_of counts class index) else None) past)) ∙ there))

    by : (count : Option ℕ) → slice_get counts class ≡ count
        → IsMember counts class index × (value_in counts values class index ≡ slice_get values (number_of counts class index))
    by None none =
        absurd (false≢true (sym (ap (λ (o : Option ℕ). is_some (option_and_then (inside_of index (slice_get values (number_of counts class index))) o)) none) ∙ there))
    by (Some count) at = with_count count at (nat_lt index count) refl

module _ (counts : List ℕ) (values : List Word) (place : Place) (value : Word) (member : IsMember counts place.class.0 place.index)
    (inside : number_of counts place.class.0 place.index < length values) where
  abbrev n : ℕ
  n = number_of counts place.class.0 place.index

  abbrev after : List Word
  after = set values n value

  at_same : (other : Place) → place.class.0 ≡ other.class.0 → place.index ≡ other.index → value_in counts after other.class.0 other.index ≡ Some value
  at_same other class index =
      let count = slice_index counts place.class.0 in
      (λ i. value_in counts after (sym class i) (sym index i))
      ∙ ap (option_and_then (inside_of place.index (slice_get after n))) (slice_get-get_or counts place.class.0 0 member.0)
      ∙ ap (λ (b : Bool). if b then slice_get after n else None) ((Decides-ltb place.index count).1 member.1)
      ∙ slice_get-set_same values n value inside

  at_other : (other : Place) → same_place place other ≡ false → value_in counts after other.class.0 other.index ≡ value_in counts values other.class.0 other.index
  at_other other differs = by (slice_get counts other.class.0) refl
    where
      with_count : (count : ℕ) → slice_get counts other.class.0 ≡ Some count → (b : Bool) → nat_lt other.index count ≡ b
          → (if b then slice_get after (number_of counts other.class.0 other.index) else None)
          ≡ (if b then slice_get values (number_of counts other.class.0 other.index) else None)
      with_count count at false past = refl
      with_count count at true here =
          let same_count : slice_index counts other.class.0 ≡ count = get_or_from_slice_get counts other.class.0 count 0 at in
          let there : IsMember counts other.class.0 other.index =
          (slice_get_within counts other.class.0 count at, omega (arith, same_count, (Decides-ltb other.index count).0 here)) in
          slice_get-set_other values n (number_of counts other.class.0 other.index) value λ equal.
          let one = apart counts place.class.0 place.index other.class.0 other.index member there (sym equal) in
          let same : same_place place other ≡ true =
          λ i. (Decides-eqb place.class.0 other.class.0).1 one.0 i && (Decides-eqb place.index other.index).1 one.1 i in
          true≢false (sym same ∙ differs)

      by : (count : Option ℕ) → slice_get counts other.class.0 ≡ count → value_in counts after other.class.0 other.index ≡ value_in counts values other.class.0 other.index
      by None none =
          ap (option_and_then (inside_of other.index (slice_get after (number_of counts other.class.0 other.index)))) none
          ∙ sym (ap (option_and_then (inside_of other.index (slice_get values (number_of counts other.class.0 other.index)))) none)
      by (Some count) at =
          ap (option_and_then (inside_of other.index (slice_get after (number_of counts other.class.0 other.index)))) at
          ∙ with_count count at (nat_lt other.index count) refl
          ∙ sym (ap (option_and_then (inside_of other.index (slice_get values (number_of counts other.class.0 other.index)))) at)

  pub put_there : (other : Place) → value_in counts after other.class.0 other.index ≡ (if same_place place other then Some value else value_in counts values other.class.0 other.index)
  put_there other = by (same_place place other) refl
    where
      by : (b : Bool) → same_place place other ≡ b → value_in counts after other.class.0 other.index ≡ (if b then Some value else value_in counts values other.class.0 other.index)
      by true same =
          at_same other ((Decides-eqb place.class.0 other.class.0).0 (and_left (place.class.0 == other.class.0) (place.index == other.index) same))
          ((Decides-eqb place.index other.index).0 (and_right (place.class.0 == other.class.0) (place.index == other.index) same))
      by false differs = at_other other differs
