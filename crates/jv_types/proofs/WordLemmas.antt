-- Lines cut into words.
use Rattle.std.proofs.Common.{◌≡◌, ℕ, ◌<◌, List, [], ◌∷◌, length, eqb}
use Rattle.std.specs.List.{position_or_len, before_first, after_first}
use Rattle.std.proofs.lemmas.List.Splits.{slice_split_first}
use Rattle.jv_model.specs.Lines.{words_of}
use Rattle.jv_types.proofs.SplitLemmas.{slice_split_only}

-- cut at the first space
pub words_of_first : (text word rest : List ℕ)
    → position_or_len (λ byte. eqb byte 32) text < length text
    → word ≡ before_first (λ byte. eqb byte 32) text
    → rest ≡ after_first (λ byte. eqb byte 32) text → words_of text ≡ word ∷ words_of rest
words_of_first text word rest has word-is rest-is =
    rw (word-is, rest-is) (slice_split_first (λ byte. eqb byte 32) text 0 has)

pub words_of_only : (text : List ℕ) → position_or_len (λ byte. eqb byte 32) text ≡ length text
    → words_of text ≡ text ∷ []
words_of_only text lacks = slice_split_only (λ byte. eqb byte 32) text lacks
