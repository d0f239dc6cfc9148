-- The entries of a stack map, one behind another, and the attributes in an attribute.
use Rattle.std.proofs.Common.{◌≡◌, ℕ, suc, ◌+◌, true, false, eqb, List, [], ◌∷◌, ◌++◌, length, Option, Some, None, Result, Ok, Err, refl, sym, ap, ◌∙◌, append_assoc}
use Rattle.std.proofs.lemmas.List.{append-nil}
use Rattle.jv_model.specs.Refusal.{Cause, wrong_map_frame, extra_bytes}
use Rattle.jv_model.specs.Fallible.{◌>>=◌}
use Rattle.jv_model.specs.Input.{Input}
use Rattle.jv_model.specs.ClassData.{Const}
use Rattle.code_model.specs.StackMapEntries.{Entry, MapTable, Read, entry_at, entry_in_front, entries_at}
use Rattle.code_model.specs.CodeShape.{inner_at, inners_at}
use Rattle.jv_types.specs.Reading.{Refuses}
use Rattle.code_reader.specs.Parts.{table_in_front}
use Rattle.class_reader.proofs.Loops.InFront.{Refuses-first}

twice : (front : List Entry) (entry : Entry) (read : Result MapTable Cause)
    → table_in_front front (read >>= λ table.
    Ok (record { entries = entry ∷ table.entries; end = table.end }))
    ≡ table_in_front (front ++ entry ∷ []) read
twice front entry (Err cause) = refl
twice front entry (Ok table) =
    ap (λ (entries : List Entry). Ok (record { entries = entries; end = table.end }))
    (sym (append_assoc front (entry ∷ []) table.entries))

module _ (method index count : ℕ) (front : List Entry) (input : Input) where
  -- an entry more
  pub entry_more : (entry : Entry) (rest : Input)
      → entry_at (wrong_map_frame method index) input ≡ Ok (entry, rest)
      → table_in_front front (entries_at method index (suc count) input)
      ≡ table_in_front (front ++ entry ∷ []) (entries_at method (index + 1) count rest)
  unfolding entries_at
  entry_more entry rest is =
      ap (λ (read : Read). table_in_front front (entry_in_front read
      (entries_at method (index + 1) count))) is
      ∙ twice front entry (entries_at method (index + 1) count rest)

  pub entries_more : entries_at method index (suc count) input
      ≡ entry_in_front (entry_at (wrong_map_frame method index) input)
      (entries_at method (index + 1) count)
  unfolding entries_at
  entries_more = refl

-- the entries end early
pub ends_early : (front : List Entry) (others : Input → Result MapTable Cause) (method end : ℕ)
    (read : Read) → read ≡ Err (wrong_map_frame method end)
    → table_in_front front (entry_in_front read others)
    ≡ Ok (record { entries = front; end = Some (wrong_map_frame method end) })
ends_early front others method end read is =
    ap (λ (r : Read). table_in_front front (entry_in_front r others)) is
    ∙ ap (λ (entries : List Entry).
    Ok (record { entries = entries; end = Some (wrong_map_frame method end) })) (append-nil front)

-- an entry is refused for another cause
pub ends_refused : (front : List Entry) (others : Input → Result MapTable Cause) (cause : Cause)
    (read : Read) → entry_in_front (Err cause) others ≡ Err cause → read ≡ Err cause
    → table_in_front front (entry_in_front read others) ≡ Err cause
ends_refused front others cause read other is =
    ap (λ (r : Read). table_in_front front (entry_in_front r others)) is
    ∙ ap (table_in_front front) other

-- the entries fill the input, or they don't
pub entries_end : (method index : ℕ) (front : List Entry) (input : Input)
    → eqb (length input.bytes) 0 ≡ true
    → table_in_front front (entries_at method index 0 input)
    ≡ Ok (record { entries = front; end = None })
unfolding entries_at
entries_end method index front input none =
    rw none (ap (λ (entries : List Entry). Ok (record { entries = entries; end = None }))
    (append-nil front))

pub entries_extra : (method index : ℕ) (front : List Entry) (input : Input)
    → eqb (length input.bytes) 0 ≡ false
    → table_in_front front (entries_at method index 0 input) ≡ Err (extra_bytes input.at)
unfolding entries_at
entries_extra method index front input some = rw some refl

-- ---- the attributes in an attribute

module _ (pool : List Const) (method count : ℕ) (map : Option MapTable) (input : Input) where
  pub inner_more : (next : Option MapTable) (rest : Input)
      → inner_at pool method map input ≡ Ok (next, rest)
      → inners_at pool method (suc count) map input ≡ inners_at pool method count next rest
  unfolding inners_at
  inner_more next rest is =
      ap (λ (read : Result (Option MapTable × Input) Cause).
      read >>= λ first. inners_at pool method count first.0 first.1) is

  pub inner_refused : (refusal : Option Cause) → Refuses refusal (inner_at pool method map input)
      → Refuses refusal (inners_at pool method (suc count) map input)
  unfolding inners_at
  inner_refused refusal refused = Refuses-first refusal (inner_at pool method map input) _ refused

pub inner_none : (pool : List Const) (method : ℕ) (map : Option MapTable) (input : Input)
    → inners_at pool method 0 map input ≡ Ok (map, input)
unfolding inners_at
inner_none pool method map input = refl
