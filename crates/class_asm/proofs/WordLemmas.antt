-- How many words a first line has.
use Rattle.std.proofs.Common.{◌≡◌, ℕ, suc, ◌<◌, List, ◌∷◌, false, length, refl, arith}
use Rattle.std.specs.Prelude.{◌==◌}
use Rattle.std.proofs.lemmas.Bool.Decides.{nat_tests}
use Rattle.std.proofs.lemmas.List.Splits.{length-slice_split}
use Rattle.jv_model.specs.Lines.{words_of}
use Rattle.assembler_model.specs.AssembledClass.{is_head}

-- a word and others
pub more_words : (word : List ℕ) (text : List ℕ) → (length (word ∷ words_of text) == 1) ≡ false
more_words word text = more (length (words_of text)) (omega (arith, length-slice_split (λ byte. byte == 32) text))
  where
    more : (n : ℕ) → 0 < n → (suc n == 1) ≡ false
    more n some = grind (arith, nat_tests)

-- not four words
pub not_four : (a b c : List ℕ) (words : List (List ℕ)) → (length words == 1) ≡ false → is_head (a ∷ b ∷ c ∷ words) ≡ false
not_four a b c words not = rw (three (length words) not) refl
  where
    three : (n : ℕ) → (n == 1) ≡ false → (suc (suc (suc n)) == 4) ≡ false
    three n not = grind (arith, nat_tests)
