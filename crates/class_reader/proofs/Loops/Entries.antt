-- The entries of the constant pool, one after the other.
use Rattle.std.proofs.Common.{◌≡◌, ℕ, zero, suc, ◌+◌, ◌-◌, ◌<◌, Bool, true, false, eqb, if◌then◌else◌, List, [], ◌∷◌, ◌++◌, length, drop, slice_get, option_map, ◌≤◌, Option, Some, Result, Ok, refl, sym, ap, ◌∙◌, add-one, arith}
use Rattle.std.proofs.Math.Dec.{eqb-suc-zero}
use Rattle.std.proofs.Math.Seq.{drop-cons}
use Rattle.std.proofs.lemmas.Bool.Decides.{nat_tests}
use Rattle.std.proofs.lemmas.List.{length-append, length-map}
use Rattle.std.proofs.lemmas.Option.{get_or_from_slice_get, slice_get_within, slice_get-map}
use Rattle.jv_types.specs.declared.class_data.Const.{Const as Here}
use Rattle.jv_types.specs.ClassData.{const_of, pool_of}
use Rattle.jv_model.specs.Refusal.{Cause, wrong_constant}
use Rattle.jv_model.specs.Input.{Input}
use Rattle.jv_model.specs.ClassData.{Const, gap}
use Rattle.jv_model.specs.ConstantPool.{is_wide}
use Rattle.jv_model.specs.Profile.{names_right}
use Rattle.jv_model.specs.ClassReading.{constant_at, entries_at, first_wrong}
use Rattle.jv_types.specs.Reading.{Refuses}
use Rattle.jv_model.specs.Input.{in_front}
use Rattle.class_reader.specs.Entries.{with_gap}
use Rattle.class_reader.proofs.Loops.InFront.{Refuses-first}
use Rattle.class_reader.proofs.Loops.InFront.{goes_on}

-- ---- reading them

-- an entry, and the gap behind it where it is wide
abbrev entry : Bool → Const → List Const
entry wide constant = if wide then constant ∷ gap ∷ [] else constant ∷ []

-- an entry at an index, and those behind it, where so many indices are left
abbrev followed : Bool → ℕ → ℕ → Const → Input → Result (List Const × Input) Cause
followed wide index left constant rest =
    in_front (entry wide constant)
    (entries_at (index + length (entry wide constant)) (left - length (entry wide constant)) rest)

the_last : (wide : Bool) (index : ℕ) (constant : Const) (rest : Input) → wide ≡ false
    → Ok (constant ∷ [], rest) ≡ followed wide index 1 constant rest
unfolding entries_at
the_last true index constant rest narrow = absurd cc
the_last false index constant rest narrow = refl

not_last : (wide : Bool) (index left : ℕ) (constant : Const) (rest : Input)
    → (if wide then in_front (constant ∷ gap ∷ []) (entries_at (index + 2) left rest) else in_front
    (constant ∷ []) (entries_at (index + 1) (suc left) rest))
    ≡ followed wide index (suc (suc left)) constant rest
not_last true index left constant rest = let two : suc (suc left) - 2 ≡ left = omega arith in
    rw two refl
not_last false index left constant rest = let one : suc (suc left) - 1 ≡ suc left = omega arith in
    rw one refl

one_more : (index left : ℕ) (last : Bool) (input : Input) (constant : Const) (rest : Input)
    → eqb left 0 ≡ last → constant_at index last input ≡ Ok (constant, rest)
    → (last ≡ true → is_wide constant ≡ false)
    → entries_at index (suc left) input ≡ followed (is_wide constant) index (suc left) constant rest
unfolding entries_at
one_more index zero true input constant rest same first narrow =
    rw first (the_last (is_wide constant) index constant rest (narrow refl))
one_more index zero false input constant rest same first narrow = absurd cc
one_more index (suc left) true input constant rest same first narrow =
    absurd (let no = eqb-suc-zero left in cc)
one_more index (suc left) false input constant rest same first narrow =
    rw first (not_last (is_wide constant) index left constant rest)

refused_at : (refusal : Option Cause) (index left : ℕ) (last : Bool) (input : Input)
    → eqb left 0 ≡ last → Refuses refusal (constant_at index last input)
    → Refuses refusal (entries_at index (suc left) input)
unfolding entries_at
refused_at refusal index zero true input same refused = Refuses-first refusal _ _ refused
refused_at refusal index zero false input same refused = absurd cc
refused_at refusal index (suc left) true input same refused =
    absurd (let no = eqb-suc-zero left in cc)
refused_at refusal index (suc left) false input same refused = Refuses-first refusal _ _ refused

-- none are left behind the last index
last_left : (index end : ℕ) → index < end → eqb (end - (index + 1)) 0 ≡ eqb (index + 1) end
last_left index end more = grind (arith, nat_tests)

entries_at-more : (index end : ℕ) (input : Input) (constant : Const) (rest : Input) → index < end
    → constant_at index (eqb (index + 1) end) input ≡ Ok (constant, rest)
    → (eqb (index + 1) end ≡ true → is_wide constant ≡ false)
    → entries_at index (end - index) input
    ≡ in_front (with_gap constant)
    (entries_at (index + length (with_gap constant))
    (end - (index + length (with_gap constant))) rest)
entries_at-more index end input constant rest more first narrow =
    let left : end - index ≡ suc (end - (index + 1)) = omega arith in
    let behind : end - (index + length (with_gap constant))
    ≡ (end - index) - length (with_gap constant) = omega arith in
    rw (behind, left) (one_more index (end - (index + 1)) _ input constant rest
    (last_left index end more) first narrow)

pub entries_at-refused : (refusal : Option Cause) (index end : ℕ) (input : Input) → index < end
    → Refuses refusal (constant_at index (eqb (index + 1) end) input)
    → Refuses refusal (entries_at index (end - index) input)
entries_at-refused refusal index end input more refused =
    let left : end - index ≡ suc (end - (index + 1)) = omega arith in
    rw left (refused_at refusal index (end - (index + 1)) _ input
    (last_left index end more) refused)

pub entries_at-none : (index end : ℕ) (input : Input) → end ≤ index
    → entries_at index (end - index) input ≡ Ok ([], input)
unfolding entries_at
entries_at-none index end input all =
    let left : end - index ≡ 0 = omega arith in
    rw left refl

pub entries_go_on : (front : List Const) (index end next : ℕ) (input : Input) (constant : Const)
    (rest : Input) (whole : Result (List Const × Input) Cause) → index < end
    → constant_at index (eqb (index + 1) end) input ≡ Ok (constant, rest)
    → (eqb (index + 1) end ≡ true → is_wide constant ≡ false)
    → next ≡ index + length (with_gap constant)
    → in_front front (entries_at index (end - index) input) ≡ whole
    → in_front (front ++ with_gap constant) (entries_at next (end - next) rest) ≡ whole
entries_go_on front index end next input constant rest whole more first narrow is so_far =
    rw is (goes_on front (with_gap constant) _ _ whole
    (entries_at-more index end input constant rest more first narrow) so_far)

entry_takes : (wide : Bool) (constant : Const) → 0 < length (entry wide constant)
entry_takes true constant = omega arith
entry_takes false constant = omega arith

pub with_gap-takes : (constant : Const) → 0 < length (with_gap constant)
with_gap-takes constant = entry_takes (is_wide constant) constant

-- the list's length behind an entry, by its view
pub with_gap-length : (before after : List Here) (constant : Const)
    → pool_of after ≡ pool_of before ++ with_gap constant
    → length after ≡ length before + length (with_gap constant)
with_gap-length before after constant is = sym (length-map after const_of)
    ∙ ap (λ (pool : List Const). length pool) is
    ∙ length-append (pool_of before) (with_gap constant)
    ∙ ap (λ n. n + length (with_gap constant)) (length-map before const_of)

-- ---- what they name

first_wrong-at : (major : ℕ) (pool : List Const) (constants : List Here) (index : ℕ)
    (constant : Here) → slice_get constants index ≡ Some constant
    → first_wrong major pool index (drop index (pool_of constants))
    ≡ (if names_right major pool (const_of constant) then first_wrong major pool (index + 1)
    (drop (index + 1) (pool_of constants)) else Some (wrong_constant index))
first_wrong-at major pool constants index constant at =
    let there : slice_get (pool_of constants) index ≡ Some (const_of constant) =
    slice_get-map const_of constants index ∙ ap (λ found. option_map const_of found) at in
    let within : index < length (pool_of constants) = slice_get_within _ _ _ there in
    rw (
      drop-cons (pool_of constants) index (const_of constant) within,
      get_or_from_slice_get (pool_of constants) index (const_of constant)
          (const_of constant) there,
      add-one,
    ) refl

pub first_wrong-here : (major : ℕ) (pool : List Const) (constants : List Here) (index : ℕ)
    (constant : Here) (whole : Option Cause) → pool_of constants ≡ pool
    → slice_get constants index ≡ Some constant
    → names_right major pool (const_of constant) ≡ false
    → first_wrong major pool index (drop index pool) ≡ whole
    → Some (wrong_constant index) ≡ whole
first_wrong-here major pool constants index constant whole is at wrong so_far =
    let one : first_wrong major pool index (drop index (pool_of constants))
    ≡ Some (wrong_constant index) = first_wrong-at major pool constants index constant at
    ∙ rw wrong refl in
    sym one ∙ ap (λ (pool_here : List Const). first_wrong major pool index (drop index pool_here))
    is ∙ so_far

pub first_wrong-behind : (major : ℕ) (pool : List Const) (constants : List Here) (index : ℕ)
    (constant : Here) (whole : Option Cause) → pool_of constants ≡ pool
    → slice_get constants index ≡ Some constant
    → names_right major pool (const_of constant) ≡ true
    → first_wrong major pool index (drop index pool) ≡ whole
    → first_wrong major pool (index + 1) (drop (index + 1) pool) ≡ whole
first_wrong-behind major pool constants index constant whole is at right so_far =
    let one : first_wrong major pool index (drop index (pool_of constants))
    ≡ first_wrong major pool (index + 1) (drop (index + 1) (pool_of constants)) =
    first_wrong-at major pool constants index constant at ∙ rw right refl in
    ap (λ (pool_here : List Const). first_wrong major pool (index + 1) (drop (index + 1) pool_here))
    (sym is) ∙ sym one ∙ ap (λ (pool_here : List Const).
    first_wrong major pool index (drop index pool_here)) is ∙ so_far
