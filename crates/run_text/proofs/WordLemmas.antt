-- Lines of words.
use Rattle.std.proofs.Common.{◌≡◌, ℕ, List, [], ◌∷◌, ◌++◌, refl, ap, sym, ◌∙◌, append_assoc}
use Rattle.std.proofs.lemmas.List.{flat_map_more}
use Rattle.jv_model.specs.Lines.{line_of}
use Rattle.run_text.specs.Following.{following}

-- the words behind the first one stand each behind a space
pub line_of-following : (word : List ℕ) (words : List (List ℕ)) → line_of (word ∷ words) ≡ word ++ (following words ++ 10 ∷ [])
line_of-following word [] = refl
line_of-following word (next ∷ others) =
    ap (λ rest. word ++ 32 ∷ rest) (line_of-following next others ∙ sym (append_assoc next (following others) (10 ∷ [])))

-- a word behind others
word_more : (text : List ℕ) (words : List (List ℕ)) (word : List ℕ) → (text ++ following words) ++ 32 ∷ word ≡ text ++ following (words ++ word ∷ [])
word_more text words word = flat_map_more (λ word. 32 ∷ word) text words word

-- three words behind three
pub following-three : (text first second third fourth fifth sixth : List ℕ)
    → (((text ++ following (first ∷ second ∷ third ∷ [])) ++ 32 ∷ fourth) ++ 32 ∷ fifth) ++ 32 ∷ sixth
    ≡ text ++ following (first ∷ second ∷ third ∷ fourth ∷ fifth ∷ sixth ∷ [])
following-three text first second third fourth fifth sixth =
    ap (λ text. (text ++ 32 ∷ fifth) ++ 32 ∷ sixth) (word_more text (first ∷ second ∷ third ∷ []) fourth)
    ∙ ap (λ text. text ++ 32 ∷ sixth) (word_more text (first ∷ second ∷ third ∷ fourth ∷ []) fifth)
    ∙ word_more text (first ∷ second ∷ third ∷ fourth ∷ fifth ∷ []) sixth
