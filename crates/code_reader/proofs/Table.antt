-- The table of the opcodes is that of the definitions.
use Rattle.std.proofs.Common.{◌≡◌, ℕ, ◌<◌, ◌≤◌, map, Option, Some, None, refl, get_or, option_map, leb, inl, inr, ap, sym, ◌∙◌, arith}
use Rattle.std.specs.List.{range_with_len, slice_get}
use Rattle.std.proofs.lemmas.Option.{slice_get_within, get_or_from_slice_get, slice_get-get_or}
use Rattle.std.proofs.lemmas.Bool.{cases_Bool, leb-true, leb-false}
use Rattle.std.proofs.lemmas.List.{get_or-map}
use Rattle.std.proofs.lemmas.List.FromFn.{get_or-map-range_with_len}
use Rattle.code_model.specs.Formats as formats
use Rattle.code_model.specs.Opcodes.{constants, loads, stores, stacks, maths, conversions, comparisons, controls, references_of, extended, format_of as format_of_opcode}
use Rattle.code_laws.proofs.OpcodeBytes.{format_listed}
use Rattle.code_reader.specs.declared.opcode.TheConstants.{FORMATS}
use Rattle.code_reader.specs.declared.format.Format.{Format}
use Rattle.code_reader.specs.declared.format.Format.TheVariants.{LeftOut}
use Rattle.code_reader.specs.Format.{format_of}

-- computed, row by row
table_is : map (λ (f : Format). Some (format_of f)) FORMATS
    ≡ map format_of_opcode (range_with_len 0 202)
unfolding format_of_opcode constants loads stores stacks maths conversions comparisons controls references_of extended
table_is = refl

some_none : (format : Format) → Some format ≡ None → ⊥
some_none format e = cc

none_behind : (opcode : ℕ) (format : Option formats.Format) → format_of_opcode opcode ≡ format
    → 0xC9 < opcode → None ≡ format
none_behind opcode None is behind = refl
none_behind opcode (Some format) is behind =
    absurd (omega (arith, format_listed opcode format is))

-- the row of an opcode, or none, where the table has one or none
of_row : (opcode : ℕ) (row : Option Format) → slice_get FORMATS opcode ≡ row
    → option_map format_of row ≡ format_of_opcode opcode
of_row opcode None missing =
    elim (cases_Bool (leb opcode 0xC9)) [
      | inl is ↦ absurd (
          let listed : opcode ≤ 0xC9 = leb-true opcode 0xC9 is in
          let some = slice_get-get_or FORMATS opcode LeftOut (omega arith) in some_none _ (sym some ∙ missing))
      | inr not ↦ none_behind opcode (format_of_opcode opcode) refl (leb-false opcode 0xC9 not)
    ]
of_row opcode (Some format) found =
    let within : opcode < 202 = slice_get_within FORMATS opcode format found in
    let is : get_or FORMATS opcode format ≡ format =
    get_or_from_slice_get FORMATS opcode format format found in
    ap (λ (f : Format). Some (format_of f)) (sym is)
    ∙ sym (get_or-map (λ (f : Format). Some (format_of f)) FORMATS opcode format None within)
    ∙ ap (λ rows. get_or rows opcode None) table_is
    ∙ get_or-map-range_with_len format_of_opcode 0 202 opcode opcode None within (omega arith)

-- the table has the format of each opcode
pub in_table : (opcode : ℕ)
    → option_map format_of (slice_get FORMATS opcode) ≡ format_of_opcode opcode
in_table opcode = of_row opcode (slice_get FORMATS opcode) refl
