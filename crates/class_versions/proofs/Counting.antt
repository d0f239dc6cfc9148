-- The slots of the methods of classes, in the order of classes.
use Rattle.std.proofs.Common.{◌≡◌, ℕ, zero, suc, ◌+◌, ◌<◌, ◌≤◌, ◌⊎◌, Bool, true, false, is_some, append_assoc, List, [], ◌∷◌, ◌++◌, Option, Some, None, inl, inr, if◌then◌else◌, length, map, take, sum, slice_get, get_or, nat_lt, option_map, option_and_then, ap, sym, subst, ◌∙◌, refl, arith}
use Rattle.std.proofs.lemmas.Bool.{cases_lt}
use Rattle.std.proofs.lemmas.Bool.Decides.{Decides-ltb}
use Rattle.std.proofs.lemmas.List.{length-append, length-map, take_more}
use Rattle.std.proofs.lemmas.List.Sums.{sum_by-append, sum_by-cons}
use Rattle.std.proofs.lemmas.Option.{slice_get-map, slice_get_within, get_or_from_slice_get, slice_get-get_or}
use Rattle.jv_types.specs.declared.number.ClassNo.{ClassNo}
use Rattle.jv_types.specs.declared.number.MethodNo.{MethodNo}
use Rattle.member_numbers.specs.Numbers.{number_of}
use Rattle.class_methods.specs.Signatures.{Numbers, signature_at}
use Rattle.class_versions.specs.Slots.{slot_in, HaveSlots, methods_to, row_of, methods_of, signatures_of}

-- ---- two lists, one behind the other

pub in_front : {A : Type 0} (xs ys : List A) (i : ℕ) (x : A) → slice_get xs i ≡ Some x → slice_get (xs ++ ys) i ≡ Some x
in_front [] ys i x at = absurd cc
in_front (z ∷ xs) ys zero x at = at
in_front (z ∷ xs) ys (suc i) x at = in_front xs ys i x at

pub behind : {A : Type 0} (xs ys : List A) (i : ℕ) → slice_get (xs ++ ys) (length xs + i) ≡ slice_get ys i
behind [] ys i =
    let same : 0 + i ≡ i = omega arith in ap (slice_get ys) same
behind (x ∷ xs) ys i =
    let same : suc (length xs) + i ≡ suc (length xs + i) = omega arith in
    ap (slice_get (x ∷ (xs ++ ys))) same ∙ behind xs ys i

-- a place in the second list
record Behind {A : Type 0} (xs ys : List A) (i : ℕ) (x : A) : Type 0 where
  j : ℕ
  place : i ≡ length xs + j
  at : slice_get ys j ≡ Some x

front_or_behind : {A : Type 0} (xs ys : List A) (i : ℕ) (x : A) → slice_get (xs ++ ys) i ≡ Some x
    → (slice_get xs i ≡ Some x) ⊎ Behind xs ys i x
front_or_behind [] ys i x at = inr (record { j = i; place = omega arith; at = at })
front_or_behind (z ∷ xs) ys zero x at = inl at
front_or_behind (z ∷ xs) ys (suc i) x at = elim (front_or_behind xs ys i x at) [
  | inl front ↦ inl front
  | inr later ↦ inr (record { j = later.j; place = omega (arith, later.place); at = later.at })
]

sum_one : (x : ℕ) → sum (x ∷ []) ≡ x
sum_one x = omega (arith, sum_by-cons (λ (k : ℕ). k) x [])

pub one_more : (n : ℕ) → n + 1 ≡ suc n
one_more n = omega arith

-- ---- the methods of one class

abbrev method : ℕ → ℕ → MethodNo
method class index = record { class = record { 0 = class }; index = index }

count_to : (class : ClassNo) (n : ℕ) → length (methods_to class n) ≡ n
count_to class zero = refl
count_to class (suc n) =
    length-append (methods_to class n) (record { class = class; index = n } ∷ []) ∙ omega (arith, count_to class n)

own_at : (class : ClassNo) (n i : ℕ) → i < n → slice_get (methods_to class n) i ≡ Some (record { class = class; index = i })
own_at class zero i inside = absurd (omega arith)
own_at class (suc n) i inside = elim (cases_lt i n) [
  | inl before ↦ in_front (methods_to class n) (record { class = class; index = n } ∷ []) i _ (own_at class n i before)
  | inr past ↦
      let last : i ≡ length (methods_to class n) + 0 = omega (arith, count_to class n) in
      let same : n ≡ i = omega arith in
      ap (slice_get (methods_to class n ++ record { class = class; index = n } ∷ [])) last
      ∙ behind (methods_to class n) (record { class = class; index = n } ∷ []) 0
      ∙ ap (λ (k : ℕ). Some (record { class = class; index = k })) same
]

-- ---- the methods of the first classes

module _ (rows : Numbers) where
  abbrev counts : List ℕ
  counts = map length rows

  count_at : (n : ℕ) → n < length rows → slice_get counts n ≡ Some (length (row_of rows n))
  count_at n inside = slice_get-map length rows n ∙ ap (option_map length) (slice_get-get_or rows n [] inside)

  pub counts_more : (n : ℕ) → n < length rows → take n counts ++ length (row_of rows n) ∷ [] ≡ take (n + 1) counts
  counts_more n inside =
      let at = count_at n inside in
      let count = length (row_of rows n) in
      ap (λ (k : ℕ). take n counts ++ k ∷ []) (sym (get_or_from_slice_get counts n count count at))
      ∙ sym (take_more counts n count (slice_get_within counts n count at))

  sum_more : (n : ℕ) → n < length rows → sum (take (n + 1) counts) ≡ sum (take n counts) + length (row_of rows n)
  sum_more n inside =
      ap sum (sym (counts_more n inside))
      ∙ sum_by-append (λ (k : ℕ). k) (take n counts) (length (row_of rows n) ∷ [])
      ∙ ap (λ (k : ℕ). sum (take n counts) + k) (sum_one (length (row_of rows n)))

  sum_next : (n : ℕ) → n < length rows → sum (take (suc n) counts) ≡ sum (take n counts) + length (row_of rows n)
  sum_next n inside = ap (λ (k : ℕ). sum (take k counts)) (sym (one_more n)) ∙ sum_more n inside

  count_methods : (n : ℕ) → n ≤ length rows → length (methods_of rows n) ≡ sum (take n counts)
  count_methods zero inside = refl
  count_methods (suc n) inside =
      length-append (methods_of rows n) (methods_to (record { 0 = n }) (length (row_of rows n)))
      ∙ omega (arith, count_methods n (omega arith), count_to (record { 0 = n }) (length (row_of rows n)), sum_next n (omega arith))

  count_signatures : (n : ℕ) → n ≤ length rows → length (signatures_of rows n) ≡ sum (take n counts)
  count_signatures zero inside = refl
  count_signatures (suc n) inside =
      length-append (signatures_of rows n) (row_of rows n)
      ∙ omega (arith, count_signatures n (omega arith), sum_next n (omega arith))

  pub even : (n : ℕ) → n ≤ length rows → length (signatures_of rows n) ≡ length (methods_of rows n)
  even n inside = count_signatures n inside ∙ sym (count_methods n inside)

  -- ---- what stands at the number of a method

  method_there : (n class index : ℕ) → n ≤ length rows → class < n → index < length (row_of rows class)
      → slice_get (methods_of rows n) (number_of counts class index) ≡ Some (method class index)
  method_there zero class index inside before there = absurd (omega arith)
  method_there (suc n) class index inside before there = elim (cases_lt class n) [
    | inl earlier ↦
        in_front (methods_of rows n) (methods_to (record { 0 = n }) (length (row_of rows n))) (number_of counts class index)
        (method class index) (method_there n class index (omega arith) earlier there)
    | inr later ↦
        let same : class ≡ n = omega arith in
        subst (λ (k : ℕ). slice_get (methods_of rows n ++ methods_to (record { 0 = n }) (length (row_of rows n))) (number_of counts k index) ≡ Some (method k index))
        (sym same)
        (ap (slice_get (methods_of rows n ++ methods_to (record { 0 = n }) (length (row_of rows n))))
        (ap (λ (k : ℕ). k + index) (sym (count_methods n (omega arith))))
        ∙ behind (methods_of rows n) (methods_to (record { 0 = n }) (length (row_of rows n))) index
        ∙ own_at (record { 0 = n }) (length (row_of rows n)) index (subst (λ (k : ℕ). index < length (row_of rows k)) same there))
  ]

  signature_there : (n class index : ℕ) → n ≤ length rows → class < n → index < length (row_of rows class)
      → slice_get (signatures_of rows n) (number_of counts class index) ≡ slice_get (row_of rows class) index
  signature_there zero class index inside before there = absurd (omega arith)
  signature_there (suc n) class index inside before there = elim (cases_lt class n) [
    | inl earlier ↦
        let known = slice_get-get_or (row_of rows class) index 0 there in
        in_front (signatures_of rows n) (row_of rows n) (number_of counts class index)
        (get_or (row_of rows class) index 0) (signature_there n class index (omega arith) earlier there ∙ known)
        ∙ sym known
    | inr later ↦
        let same : class ≡ n = omega arith in
        subst (λ (k : ℕ). slice_get (signatures_of rows n ++ row_of rows n) (number_of counts k index) ≡ slice_get (row_of rows k) index)
        (sym same)
        (ap (slice_get (signatures_of rows n ++ row_of rows n)) (ap (λ (k : ℕ). k + index) (sym (count_signatures n (omega arith))))
        ∙ behind (signatures_of rows n) (row_of rows n) index)
  ]

  -- ---- slots

  slot_is : (class index : ℕ) → class < length rows → index < length (row_of rows class)
      → slot_in counts (method class index) ≡ Some (number_of counts class index)
  slot_is class index inside there =
      ap (option_and_then (λ count. if nat_lt index count then Some (number_of counts class index) else None)) (count_at class inside)
      ∙ ap (λ (b : Bool). if b then Some (number_of counts class index) else None)
      ((Decides-ltb index (length (row_of rows class))).1 there)

  abbrev own : ℕ → List MethodNo
  own n = methods_to (record { 0 = n }) (length (row_of rows n))

  slot_there : (n slot : ℕ) (m : MethodNo) → n ≤ length rows → slice_get (methods_of rows n) slot ≡ Some m → slot_in counts m ≡ Some slot
  slot_there zero slot m inside at = absurd (none slot m at)
    where
      none : (s : ℕ) (m : MethodNo) → slice_get [] s ≡ Some m → ⊥
      none s m at = cc
  slot_there (suc n) slot m inside at = elim (front_or_behind (methods_of rows n) (own n) slot m at) [
    | inl front ↦ slot_there n slot m (omega arith) front
    | inr last ↦
        let there : last.j < length (row_of rows n) =
        omega (arith, slice_get_within (own n) last.j m last.at, count_to (record { 0 = n }) (length (row_of rows n))) in
        let both : Some (method n last.j) ≡ Some m = sym (own_at (record { 0 = n }) (length (row_of rows n)) last.j there) ∙ last.at in
        let same : method n last.j ≡ m = cc in
        ap (slot_in counts) (sym same) ∙ slot_is n last.j (omega arith) there
        ∙ ap Some (ap (λ (k : ℕ). k + last.j) (sym (count_methods n (omega arith))) ∙ sym last.place)
  ]

  -- what has a slot is a method of the classes
  record IsSlot (m : MethodNo) (slot : ℕ) : Type 0 where
    class : m.class.0 < length rows
    index : m.index < length (row_of rows m.class.0)
    number : number_of counts m.class.0 m.index ≡ slot

  is_slot : (m : MethodNo) (slot : ℕ) → slot_in counts m ≡ Some slot → IsSlot m slot
  is_slot m slot at = by (slice_get counts m.class.0) refl at
    where
      if_some : (b : Bool) (n : ℕ) → (if b then Some n else None) ≡ Some slot → (b ≡ true) × (n ≡ slot)
      if_some true n is = (refl, cc)
      if_some false n is = absurd cc

      by : (o : Option ℕ) → slice_get counts m.class.0 ≡ o
          → option_and_then (λ count. if nat_lt m.index count then Some (number_of counts m.class.0 m.index) else None) o ≡ Some slot
          → IsSlot m slot
      by None is at = absurd cc
      by (Some count) is at =
          let inside : m.class.0 < length rows = omega (arith, slice_get_within counts m.class.0 count is, length-map rows length) in
          let counted : Some (length (row_of rows m.class.0)) ≡ Some count = sym (count_at m.class.0 inside) ∙ is in
          let count_is : length (row_of rows m.class.0) ≡ count = cc in
          let parts = if_some (nat_lt m.index count) (number_of counts m.class.0 m.index) at in
          let before = (Decides-ltb m.index count).0 parts.0 in
          record { class = inside; index = omega (arith, before, count_is); number = parts.1 }

  pub has_signature : (class index : ℕ) → class < length rows → index < length (row_of rows class)
      → signature_at rows (method class index) ≡ slice_get (row_of rows class) index
  has_signature class index inside there =
      ap (option_and_then (λ (row : List ℕ). slice_get row index)) (slice_get-get_or rows class [] inside)

  pub have_slots : HaveSlots rows (record {
    counts = counts;
    methods = methods_of rows (length rows);
    signatures = signatures_of rows (length rows);
  })
  have_slots = record {
    counts = refl;
    are = record {
      each_method = λ m slot at.
          let is = is_slot m slot at in
          ap (slice_get (methods_of rows (length rows))) (sym is.number)
          ∙ method_there (length rows) m.class.0 m.index (omega arith) is.class is.index;
      each_slot = λ slot m at. slot_there (length rows) slot m (omega arith) at;
    };
    signatures = λ slot m at.
        let is = is_slot m slot (slot_there (length rows) slot m (omega arith) at) in
        ap (slice_get (signatures_of rows (length rows))) (sym is.number)
        ∙ signature_there (length rows) m.class.0 m.index (omega arith) is.class is.index
        ∙ sym (has_signature m.class.0 m.index is.class is.index);
  }

-- ---- one method and one class more

pub next_method : (class : ClassNo) (n : ℕ) (old longer : List MethodNo)
    → longer ≡ (old ++ methods_to class n) ++ record { class = class; index = n } ∷ [] → longer ≡ old ++ methods_to class (n + 1)
next_method class n old longer is =
    is ∙ append_assoc old (methods_to class n) (record { class = class; index = n } ∷ [])
    ∙ ap (λ (k : ℕ). old ++ methods_to class k) (sym (one_more n))

module _ (rows : Numbers) (class : ClassNo) (inside : class.0 < length rows) where
  pub is_there : (index : ℕ) → index < length (row_of rows class.0)
      → is_some (signature_at rows (record { class = class; index = index })) ≡ true
  is_there index there =
      ap is_some (has_signature rows class.0 index inside there ∙ slice_get-get_or (row_of rows class.0) index 0 there)

  pub next_signature : (index signature : ℕ) (old longer : List ℕ) → index < length (row_of rows class.0)
      → signature_at rows (record { class = class; index = index }) ≡ Some signature
      → longer ≡ (old ++ take index (row_of rows class.0)) ++ signature ∷ []
      → longer ≡ old ++ take (index + 1) (row_of rows class.0)
  next_signature index signature old longer there at is =
      let row = row_of rows class.0 in
      let here : slice_get row index ≡ Some signature = sym (has_signature rows class.0 index inside there) ∙ at in
      is ∙ append_assoc old (take index row) (signature ∷ [])
      ∙ ap (λ (k : ℕ). old ++ (take index row ++ k ∷ [])) (sym (get_or_from_slice_get row index signature signature here))
      ∙ ap (λ (l : List ℕ). old ++ l) (sym (take_more row index signature there))
