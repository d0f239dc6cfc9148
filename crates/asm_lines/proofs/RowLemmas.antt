-- Rows of a `lookupswitch`, one behind the other, and the words that they stand for.
use Rattle.std.proofs.Common.{◌≡◌, ℕ, ◌+◌, ◌-◌, ◌≤◌, ℤ, List, [], ◌∷◌, ◌++◌, Bool, true, false, Option, Some, None, Result, Ok, Err, length, take, drop, map, refl, ap, sym, ◌∙◌, append_assoc, arith, Bor}
use Rattle.std.proofs.lemmas.List.{append-nil, take-map, drop-map, length-map, length-drop}
use Rattle.jv_model.specs.Fallible.{◌>>=◌}
use Rattle.jv_model.specs.Refusal.{LineKind, wrong_number}
use Rattle.assembler_model.specs.AssemblerTerms.{Label}
use Rattle.assembler_model.specs.OperationLines.{front, key_row, key_rows, rises}
use Rattle.asm_lines.specs.Words.{texts}

-- rows behind these
abbrev pub onto : List (ℤ × Label) → Result (List (ℤ × Label)) LineKind → Result (List (ℤ × Label)) LineKind
onto rows read = read >>= λ more. Ok (rows ++ more)

pub onto-none : (read : Result (List (ℤ × Label)) LineKind) → onto [] read ≡ read
onto-none (Ok rows) = refl
onto-none (Err kind) = refl

onto-onto : (rows : List (ℤ × Label)) (row : ℤ × Label) (read : Result (List (ℤ × Label)) LineKind)
    → onto rows (read >>= λ more. Ok (row ∷ more)) ≡ onto (rows ++ row ∷ []) read
onto-onto rows row (Ok more) = ap Ok (sym (append_assoc rows (row ∷ []) more))
onto-onto rows row (Err kind) = refl

pub key_rows-faulty : (rows : List (ℤ × Label)) (before : Option ℤ) (word : List ℕ) (words : List (List ℕ)) (kind : LineKind)
    → key_row word ≡ Err kind → onto rows (key_rows before (word ∷ words)) ≡ Err kind
unfolding key_rows
key_rows-faulty rows before word words kind is = rw is

pub key_rows-falls : (rows : List (ℤ × Label)) (before : Option ℤ) (word : List ℕ) (words : List (List ℕ)) (row : ℤ × Label)
    → key_row word ≡ Ok row → rises before row.0 ≡ false → onto rows (key_rows before (word ∷ words)) ≡ Err wrong_number
unfolding key_rows
key_rows-falls rows before word words row is falls = rw (is, falls)

pub key_rows-next : (rows : List (ℤ × Label)) (before : Option ℤ) (word : List ℕ) (words : List (List ℕ)) (row : ℤ × Label)
    → key_row word ≡ Ok row → rises before row.0 ≡ true
    → onto rows (key_rows before (word ∷ words)) ≡ onto (rows ++ row ∷ []) (key_rows (Some row.0) words)
unfolding key_rows
key_rows-next rows before word words row is above = rw (is, above) (onto-onto rows row (key_rows (Some row.0) words))

pub key_rows-none : (rows : List (ℤ × Label)) (before : Option ℤ) → onto rows (key_rows before []) ≡ Ok rows
unfolding key_rows
key_rows-none rows before = ap Ok (append-nil rows)

-- ---- words between

pub between_is : (words : List (Bor (List ℕ))) (first : ℕ)
    → texts (take (length words - 2 - first) (drop first words)) ≡ front 2 (drop first (texts words))
between_is words first =
    let count : length (drop first (texts words)) - 2 ≡ length words - 2 - first = omega (arith, length-drop first (texts words), length-map words (λ word. word.now)) in
    rw count (rw drop-map (sym (take-map (λ word. word.now) (length words - 2 - first) (drop first words))))

pub between_none : (words : List (Bor (List ℕ))) (first : ℕ) → length words ≤ first + 2
    → [] ≡ front 2 (drop first (texts words))
between_none words first short =
    let count : length (drop first (texts words)) - 2 ≡ 0 = omega (arith, length-drop first (texts words), length-map words (λ word. word.now)) in
    rw count
