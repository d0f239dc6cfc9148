-- Values on top of operands, in words.
use Rattle.std.proofs.Common.{◌≡◌, ℕ, ◌-◌, true, List, [], ◌∷◌, ◌++◌, Some, length, take, reverse, refl, ap, sym, ◌∙◌, arith, length-append}
use Rattle.std.specs.Prelude.{IsSome, is_some}
use Rattle.std.proofs.lemmas.List.{reverse-append}
use Rattle.jv_model.specs.Instruction.{ValueKind, of_int, of_long, of_reference}
use Rattle.machine_model.specs.Value as model
use Rattle.machine_model.specs.Value.{is_of_kind, taken_of}
use Rattle.jv_values.specs.declared.value.Value.{Value}
use Rattle.jv_values.specs.declared.value.Value.TheVariants.{Int, Long, Half, Null, Ref}
use Rattle.jv_values.specs.declared.operands.Taken.{Taken}
use Rattle.jv_values.specs.Values.{value_of, values_of, operands_in, places_of}
use Rattle.jv_values.specs.Taken.{taken_value_of}
use Rattle.thread_frames.specs.Frames.{words_of}
use Rattle.thread_frames.specs.Machine.{value_on_top}
use Rattle.thread_frames.proofs.TopLemmas.{length-words_of, all_operands}
use Rattle.frame_operands.specs.Operands.{IsTop}

-- values that are the same in the definitions are the same
pub one_value : (v w : Value) → value_of v ≡ value_of w → v ≡ w
one_value (Int n) (Int m) is = let same : n ≡ m = cc in ap Int same
one_value (Long n) (Long m) is = let same : n ≡ m = cc in ap Long same
one_value Half Half is = refl
one_value Null Null is = refl
one_value (Ref n) (Ref m) is = let same : n ≡ m = cc in ap Ref same
one_value v w is = absurd cc

-- the definitions take it
pub taken_top : (kind : ValueKind) (operands below : List Value) (value : Value) → IsTop kind operands below value
    → taken_of kind (values_of (reverse operands)) ≡ Some (record { value = value_of value; rest = values_of (reverse below) })
taken_top kind operands below value top =
    ap (λ ws. taken_of kind (values_of (reverse ws))) top.is
    ∙ ap (λ ws. taken_of kind (values_of ws)) (reverse-append below (words_of value)) ∙ by kind value top.fits
  where
    by : (k : ValueKind) (v : Value) → is_of_kind k (value_of v) ≡ true
        → taken_of k (values_of (reverse (words_of v) ++ reverse below)) ≡ Some (record { value = value_of v; rest = values_of (reverse below) })
    by of_int (Int n) fits = refl
    by of_long (Long n) fits = refl
    by of_reference Null fits = refl
    by of_reference (Ref n) fits = refl
    by k v fits = absurd cc

pub on_top : (kind : ValueKind) (operands below : List Value) (value : Value) → IsTop kind operands below value
    → value_on_top (values_of (reverse operands)) ≡ Some (value_of value)
on_top kind operands below value top =
    ap (λ ws. value_on_top (values_of (reverse ws))) top.is
    ∙ ap (λ ws. value_on_top (values_of ws)) (reverse-append below (words_of value)) ∙ by kind value top.fits
  where
    by : (k : ValueKind) (v : Value) → is_of_kind k (value_of v) ≡ true
        → value_on_top (values_of (reverse (words_of v) ++ reverse below)) ≡ Some (value_of v)
    by of_int (Int n) fits = refl
    by of_long (Long n) fits = refl
    by of_reference Null fits = refl
    by of_reference (Ref n) fits = refl
    by k v fits = absurd cc

-- what is left without its words
pub left_without : (operands below : List Value) (value : Value) → operands ≡ below ++ words_of value
    → take (length operands - places_of value) operands ≡ below
left_without operands below value is = (λ i. take (count i) (is i)) ∙ front below (words_of value)
  where
    count : length operands - places_of value ≡ length below
    count = omega (arith, ap length is, length-append below (words_of value), length-words_of value)

    front : (xs ys : List Value) → take (length xs) (xs ++ ys) ≡ xs
    front [] ys = refl
    front (x ∷ xs) ys = ap (λ zs. x ∷ zs) (front xs ys)

-- ---- looking at words

-- So many words hold these operands.
pub record Hold (words : List Value) (depth : ℕ) (operands : List Value) : Type 0 where
  pub are : operands_in words depth ≡ values_of (reverse operands)

pub can_look : (words : List Value) (depth : ℕ) (kind : ValueKind) (operands below : List Value) (value : Value)
    → Hold words depth operands → IsTop kind operands below value → IsSome (taken_of kind (operands_in words depth))
can_look words depth kind operands below value hold top =
    ap is_some (ap (taken_of kind) hold.are ∙ taken_top kind operands below value top)

-- all words hold what they are
pub hold_all : (words operands : List Value) → words ≡ operands → Hold words (length words) operands
hold_all words operands is = record { are = all_operands words ∙ ap (λ ws. values_of (reverse ws)) is }

-- what `take` gives is the value on top, and what is left holds what lies below it
pub record IsLooked (words : List Value) (below : List Value) (value : Value) (taken : Taken) : Type 0 where
  pub value_is : taken.value ≡ value
  pub rest : Hold words taken.depth below

pub looked : (words : List Value) (depth : ℕ) (kind : ValueKind) (operands below : List Value) (value : Value) (taken : Taken)
    → Hold words depth operands → IsTop kind operands below value
    → taken_of kind (operands_in words depth) ≡ Some (taken_value_of words taken) → IsLooked words below value taken
looked words depth kind operands below value taken hold top is =
    let both : Some (taken_value_of words taken) ≡ Some (record { value = value_of value; rest = values_of (reverse below) }) =
    sym is ∙ ap (taken_of kind) hold.are ∙ taken_top kind operands below value top in
    let same : taken_value_of words taken ≡ record { value = value_of value; rest = values_of (reverse below) } = cc in
    record {
      value_is = one_value taken.value value (ap (λ (t : model.Taken). t.value) same);
      rest = record { are = ap (λ (t : model.Taken). t.rest) same };
    }
