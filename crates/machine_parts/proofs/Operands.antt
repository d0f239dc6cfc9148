-- Operands of the machine, from the bottom up, and those of the definitions, from the top down.
use Rattle.std.proofs.Common.{◌≡◌, ℕ, ◌-◌, Bool, true, List, [], ◌∷◌, ◌++◌, Some, length, take, reverse, refl, ap, sym, ◌∙◌, arith, length-append}
use Rattle.std.specs.List.{list_all}
use Rattle.std.proofs.lemmas.Bool.{and_from, and_parts}
use Rattle.std.proofs.lemmas.List.{map-append, reverse-append, reverse-reverse, length-map, length-reverse}
use Rattle.std.proofs.lemmas.List.Folds.{list_all-append}
use Rattle.std.proofs.lemmas.Grind.{flat_map-append}
use Rattle.jv_model.specs.Instruction.{ValueKind, of_int, of_long, of_reference}
use Rattle.machine_model.specs.Value as model
use Rattle.machine_model.specs.Value.{id_in, onto, taken_of}
use Rattle.machine_model.specs.Reach.{ids_in}
use Rattle.jv_values.specs.declared.value.Value.{Value}
use Rattle.jv_values.specs.declared.value.Value.TheVariants.{Int, Long, Half, Null, Ref}
use Rattle.jv_values.specs.Values.{value_of, values_of, places_of}
use Rattle.thread_frames.specs.Frames.{words_of}
use Rattle.thread_frames.specs.Machine.{value_on_top}
use Rattle.thread_frames.proofs.TopLemmas.{length-words_of}
use Rattle.heap_objects.specs.Ids.{value_by, values_by}

-- the operands of a frame, from the top down
abbrev pub tops : (ℕ → ℕ) → List Value → List model.Value
tops id words = values_by id (values_of (reverse words))

pub length-tops : (id : ℕ → ℕ) (words : List Value) → length (tops id words) ≡ length words
length-tops id words =
    length-map (values_of (reverse words)) (value_by id) ∙ length-map (reverse words) value_of ∙ length-reverse words

-- ---- a value more

pub tops_pushed : (id : ℕ → ℕ) (words : List Value) (value : Value)
    → tops id (words ++ words_of value) ≡ onto (value_by id (value_of value)) (tops id words)
tops_pushed id words value =
    ap (λ ws. values_by id (values_of ws)) (reverse-append words (words_of value)) ∙ by value
  where
    by : (v : Value) → values_by id (values_of (reverse (words_of v) ++ reverse words))
        ≡ onto (value_by id (value_of v)) (values_by id (values_of (reverse words)))
    by (Int n) = refl
    by (Long n) = refl
    by Half = refl
    by Null = refl
    by (Ref n) = refl

pub ids_of_value : (value : Value) → ids_in (values_of (words_of value)) ≡ id_in (value_of value)
ids_of_value (Int n) = refl
ids_of_value (Long n) = refl
ids_of_value Half = refl
ids_of_value Null = refl
ids_of_value (Ref n) = refl

ids_split : (below above : List Value) → ids_in (values_of (below ++ above)) ≡ ids_in (values_of below) ++ ids_in (values_of above)
ids_split below above =
    ap ids_in (map-append value_of below above) ∙ flat_map-append id_in (values_of below) (values_of above)

pub live_pushed : (live : ℕ → Bool) (words : List Value) (value : Value) → list_all live (ids_in (values_of words)) ≡ true
    → list_all live (id_in (value_of value)) ≡ true → list_all live (ids_in (values_of (words ++ words_of value))) ≡ true
live_pushed live words value own new =
    ap (list_all live) (ids_split words (words_of value))
    ∙ list_all-append live (ids_in (values_of words)) (ids_in (values_of (words_of value)))
    ∙ and_from (list_all live (ids_in (values_of words))) (list_all live (ids_in (values_of (words_of value)))) own
    (ap (list_all live) (ids_of_value value) ∙ new)

-- ---- a value less

-- The value lies on top of these words, and the definitions take it.
pub record IsTaken (id : ℕ → ℕ) (stack : List Value) (taken : model.Taken) : Type 0 where
  pub value : Value
  pub below : List Value
  pub is : stack ≡ below ++ words_of value
  pub on_top : value_on_top (values_of (reverse stack)) ≡ Some (value_of value)
  pub value_is : taken.value ≡ value_by id (value_of value)
  pub rest_is : taken.rest ≡ tops id below

-- the words of the value, from the top down, and then these
record Split (id : ℕ → ℕ) (words : List Value) (taken : model.Taken) : Type 0 where
  value : Value
  rest : List Value
  is : words ≡ reverse (words_of value) ++ rest
  on_top : value_on_top (values_of words) ≡ Some (value_of value)
  value_is : taken.value ≡ value_by id (value_of value)
  rest_is : taken.rest ≡ values_by id (values_of rest)

split : (kind : ValueKind) (id : ℕ → ℕ) (words : List Value) (taken : model.Taken)
    → taken_of kind (values_by id (values_of words)) ≡ Some taken → Split id words taken
split of_int id (Int n ∷ rest) taken is =
    let same : record { value = model.int n; rest = values_by id (values_of rest) } ≡ taken = cc in
    record { value = Int n; rest = rest; is = refl; on_top = refl; value_is = ap (λ (t : model.Taken). t.value) (sym same); rest_is = ap (λ (t : model.Taken). t.rest) (sym same) }
split of_int id [] taken is = absurd cc
split of_int id (Long n ∷ rest) taken is = absurd cc
split of_int id (Half ∷ rest) taken is = absurd cc
split of_int id (Null ∷ rest) taken is = absurd cc
split of_int id (Ref n ∷ rest) taken is = absurd cc
split of_long id (Half ∷ Long n ∷ rest) taken is =
    let same : record { value = model.long n; rest = values_by id (values_of rest) } ≡ taken = cc in
    record { value = Long n; rest = rest; is = refl; on_top = refl; value_is = ap (λ (t : model.Taken). t.value) (sym same); rest_is = ap (λ (t : model.Taken). t.rest) (sym same) }
split of_long id [] taken is = absurd cc
split of_long id (Int n ∷ rest) taken is = absurd cc
split of_long id (Long n ∷ rest) taken is = absurd cc
split of_long id (Null ∷ rest) taken is = absurd cc
split of_long id (Ref n ∷ rest) taken is = absurd cc
split of_long id (Half ∷ []) taken is = absurd cc
split of_long id (Half ∷ Int n ∷ rest) taken is = absurd cc
split of_long id (Half ∷ Half ∷ rest) taken is = absurd cc
split of_long id (Half ∷ Null ∷ rest) taken is = absurd cc
split of_long id (Half ∷ Ref n ∷ rest) taken is = absurd cc
split of_reference id (Null ∷ rest) taken is =
    let same : record { value = model.null; rest = values_by id (values_of rest) } ≡ taken = cc in
    record { value = Null; rest = rest; is = refl; on_top = refl; value_is = ap (λ (t : model.Taken). t.value) (sym same); rest_is = ap (λ (t : model.Taken). t.rest) (sym same) }
split of_reference id (Ref n ∷ rest) taken is =
    let same : record { value = model.reference (id n); rest = values_by id (values_of rest) } ≡ taken = cc in
    record { value = Ref n; rest = rest; is = refl; on_top = refl; value_is = ap (λ (t : model.Taken). t.value) (sym same); rest_is = ap (λ (t : model.Taken). t.rest) (sym same) }
split of_reference id [] taken is = absurd cc
split of_reference id (Int n ∷ rest) taken is = absurd cc
split of_reference id (Long n ∷ rest) taken is = absurd cc
split of_reference id (Half ∷ rest) taken is = absurd cc

pub is_taken : (kind : ValueKind) (id : ℕ → ℕ) (stack : List Value) (taken : model.Taken) → taken_of kind (tops id stack) ≡ Some taken
    → IsTaken id stack taken
is_taken kind id stack taken is =
    let found = split kind id (reverse stack) taken is in
    record {
      value = found.value;
      below = reverse found.rest;
      is = sym (reverse-reverse stack) ∙ ap reverse found.is ∙ reverse-append (reverse (words_of found.value)) found.rest
          ∙ ap (λ ws. reverse found.rest ++ ws) (reverse-reverse (words_of found.value));
      on_top = found.on_top;
      value_is = found.value_is;
      rest_is = found.rest_is ∙ ap (λ ws. values_by id (values_of ws)) (sym (reverse-reverse found.rest));
    }

pub same_value : (v w : Value) → value_of v ≡ value_of w → v ≡ w
same_value (Int n) (Int m) is = let same : n ≡ m = cc in ap Int same
same_value (Long n) (Long m) is = let same : n ≡ m = cc in ap Long same
same_value Half Half is = refl
same_value Null Null is = refl
same_value (Ref n) (Ref m) is = let same : n ≡ m = cc in ap Ref same
same_value v w is = absurd cc

-- what is left below it
pub left_below : (below stack : List Value) (value : Value) → stack ≡ below ++ words_of value
    → take (length stack - places_of value) stack ≡ below
left_below below stack value is =
    (λ i. take (count i) (is i)) ∙ take-front below (words_of value)
  where
    count : length stack - places_of value ≡ length below
    count = omega (arith, ap length is, length-append below (words_of value), length-words_of value)

    take-front : (xs ys : List Value) → take (length xs) (xs ++ ys) ≡ xs
    take-front [] ys = refl
    take-front (x ∷ xs) ys = ap (λ zs. x ∷ zs) (take-front xs ys)

pub live_parts : (live : ℕ → Bool) (below stack : List Value) (value : Value) → stack ≡ below ++ words_of value
    → list_all live (ids_in (values_of stack)) ≡ true
    → (list_all live (ids_in (values_of below)) ≡ true) × (list_all live (id_in (value_of value)) ≡ true)
live_parts live below stack value is all =
    let parts = and_parts (list_all live (ids_in (values_of below))) (list_all live (ids_in (values_of (words_of value))))
    (sym (list_all-append live (ids_in (values_of below)) (ids_in (values_of (words_of value))))
    ∙ ap (list_all live) (sym (ids_split below (words_of value))) ∙ ap (λ ws. list_all live (ids_in (values_of ws))) (sym is) ∙ all) in
    (parts.0, ap (list_all live) (sym (ids_of_value value)) ∙ parts.1)
