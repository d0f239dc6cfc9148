-- A text cut into lines.
use Rattle.std.proofs.Common.{◌≡◌, ℕ, ◌<◌, ◌≤◌, Bool, true, false, not, cond, ltb, List, [], ◌∷◌, length, Some, None, position, ap, ◌∙◌, sym, refl, eqb, arith}
use Rattle.std.specs.List.{slice_split, position_or_len, before_first, after_first}
use Rattle.std.proofs.lemmas.List.Sums.{prefix_len-le-length}
use Rattle.std.proofs.lemmas.List.Splits.{slice_split_first}
use Rattle.std.proofs.lemmas.Bool.{ne_eqb, ltb-true, ltb-false}
use Rattle.jv_model.specs.Lines.{lines_from, lines_of}
use Rattle.jv_types.proofs.SplitLemmas.{slice_split_some, slice_split_only}

abbrev is_line_feed : ℕ → Bool
is_line_feed byte = eqb byte 10

-- where the first line feed stands, or the length where there is none
abbrev line_end : List ℕ → ℕ
line_end text = position_or_len is_line_feed text

lines_from_more : (part text : List ℕ)
    → lines_from (part ∷ slice_split is_line_feed text)
    ≡ record { bytes = part; is_ended = true } ∷ lines_of text
lines_from_more part text =
    let some = slice_split_some is_line_feed text in
    ap (λ parts. lines_from (part ∷ parts)) some.is
    ∙ ap (λ parts. record { bytes = part; is_ended = true } ∷ lines_from parts) (sym some.is)

-- cut at the first line feed
pub lines_of_first : (text line rest : List ℕ) → line_end text < length text
    → line ≡ before_first is_line_feed text → rest ≡ after_first is_line_feed text
    → lines_of text ≡ record { bytes = line; is_ended = true } ∷ lines_of rest
lines_of_first text line rest has line-is rest-is =
    ap lines_from (slice_split_first is_line_feed text 0 has)
    ∙ rw (line-is, rest-is)
    (lines_from_more (before_first is_line_feed text) (after_first is_line_feed text))

-- a last line that nothing ends
pub lines_of_only : (text : List ℕ) → 0 < length text → line_end text ≡ length text
    → lines_of text ≡ record { bytes = text; is_ended = false } ∷ []
lines_of_only text some lacks =
    let not_empty : eqb (length text) 0 ≡ false = ne_eqb (length text) 0 (omega arith) in
    ap lines_from (slice_split_only is_line_feed text lacks) ∙ rw not_empty

-- ---- what a search for the first line feed tells

pub record IsFirstPlace (text : List ℕ) (end : ℕ) : Type 0 where
  pub within : line_end text < length text
  pub is : line_end text ≡ end

place_cases : (b : Bool) (place end : ℕ) → Some end ≡ cond b (Some place) None
    → (b ≡ true) × (place ≡ end)
place_cases true place end is = (refl, cc)
place_cases false place end is = absurd cc

none_cases : (b : Bool) (place : ℕ) → None ≡ cond b (Some place) None → b ≡ false
none_cases true place is = absurd cc
none_cases false place is = refl

pub first_place : (text : List ℕ) (end : ℕ) → Some end ≡ position is_line_feed text
    → IsFirstPlace text end
first_place text end is =
    let cases = place_cases (ltb (line_end text) (length text)) (line_end text) end is in
    record { within = ltb-true _ _ cases.0; is = cases.1 }

pub no_place : (text : List ℕ) → None ≡ position is_line_feed text → line_end text ≡ length text
no_place text is =
    let far : length text ≤ line_end text =
    ltb-false _ _ (none_cases (ltb (line_end text) (length text)) (line_end text) is) in
    omega (arith, prefix_len-le-length (λ byte. not (eqb byte 10)) text)
