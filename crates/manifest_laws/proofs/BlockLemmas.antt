-- A text with a block, cut at the line that ends it.
use Rattle.std.proofs.Common.{◌≡◌, ℕ, ◌+◌, List, [], ◌∷◌, Bool, true, false, Option, Some, None, length, refl, ap, ◌∙◌, arith}
use Rattle.jv_model.specs.Lines.{Line}
use Rattle.assembler_model.specs.Blocks.{Cut, cut}
use Rattle.manifest_laws.specs.Blocks.{has_end, is_line, lines_before, lines_behind}

-- a cut whose front is this, and whose statements are those of a later one
abbrev cut_with : List Line → Bool → Cut → Cut
cut_with block closed later = record { block = block; is_closed = closed; chunks = later.chunks }

-- the number of the line behind a block that has one line more
one_more : (n k : ℕ) (lines : List Line) (line : Line) → n + 1 + length lines + k ≡ n + length (line ∷ lines) + k
one_more n k lines line = omega arith

within_block : (opens : Line → Option (List ℕ)) (end : List ℕ) (n : ℕ) (line : Line) (lines : List Line)
    → is_line end line ≡ false
    → cut opens (Some end) n (line ∷ lines)
    ≡ cut_with (line ∷ (cut opens (Some end) (n + 1) lines).block) (cut opens (Some end) (n + 1) lines).is_closed
    (cut opens (Some end) (n + 1) lines)
unfolding cut
within_block opens end n line lines is = rw is

by_end : (opens : Line → Option (List ℕ)) (end : List ℕ) (n : ℕ) (line : Line) (lines : List Line) (test : Bool)
    → is_line end line ≡ test
    → cut opens (Some end) (n + 1) lines
    ≡ cut_with (lines_before end lines) (has_end end lines)
    (cut opens None (n + 1 + length (lines_before end lines) + 1) (lines_behind end lines))
    → cut opens (Some end) n (line ∷ lines)
    ≡ cut_with (lines_before end (line ∷ lines)) (has_end end (line ∷ lines))
    (cut opens None (n + length (lines_before end (line ∷ lines)) + 1) (lines_behind end (line ∷ lines)))
unfolding cut
by_end opens end n line lines true is rest =
    let same : n + 0 + 1 ≡ n + 1 = omega arith in
    rw (is, same)
by_end opens end n line lines false is rest =
    let more = one_more n 1 (lines_before end lines) line in
    within_block opens end n line lines is
    ∙ ap (λ c. cut_with (line ∷ c.block) c.is_closed c) rest
    ∙ ap (λ m. cut_with (line ∷ lines_before end lines) (has_end end lines) (cut opens None m (lines_behind end lines))) more
    ∙ rw is

-- a block is the lines before the first that ends it
pub cut_at_end : (opens : Line → Option (List ℕ)) (end : List ℕ) (n : ℕ) (lines : List Line)
    → cut opens (Some end) n lines
    ≡ cut_with (lines_before end lines) (has_end end lines)
    (cut opens None (n + length (lines_before end lines) + 1) (lines_behind end lines))
unfolding cut
cut_at_end opens end n [] = refl
cut_at_end opens end n (line ∷ lines) = by_end opens end n line lines (is_line end line) refl (cut_at_end opens end (n + 1) lines)

-- a line that opens no block
pub cut_none_closed : (opens : Line → Option (List ℕ)) (n : ℕ) (lines : List Line) → (cut opens None n lines).is_closed ≡ true
unfolding cut
cut_none_closed opens n [] = refl
cut_none_closed opens n (line ∷ lines) = refl

pub cut_none_block : (opens : Line → Option (List ℕ)) (n : ℕ) (lines : List Line) → (cut opens None n lines).block ≡ []
unfolding cut
cut_none_block opens n [] = refl
cut_none_block opens n (line ∷ lines) = refl
