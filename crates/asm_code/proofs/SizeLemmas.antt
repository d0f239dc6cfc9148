-- How long switches are.
use Rattle.std.proofs.Common.{◌≡◌, ℕ, ℤ, ◌+◌, ◌*◌, ◌-◌, ◌%◌, List, [], ◌∷◌, ◌++◌, length, replicate, refl, ap, sym, ◌∙◌, length-append, arith}
use Rattle.std.specs.Prelude.{flat_map}
use Rattle.std.proofs.lemmas.List.{length-replicate}
use Rattle.assembler_model.specs.AssemblerTerms.{Label, tableswitch, lookupswitch}
use Rattle.assembler_model.specs.PoolEntries.{Entry}
use Rattle.assembler_model.specs.InstructionBytes.{distance, operation_bytes, padding, s4}
use Rattle.jv_model.specs.ClassBytes.{u4}

labels_length : (target : Label → ℕ) (pc : ℕ) (labels : List Label)
    → length (flat_map (λ label. s4 (distance pc (target label))) labels) ≡ 4 * length labels
labels_length target pc [] = refl
labels_length target pc (label ∷ labels) =
    let rest = labels_length target pc labels in
    length-append (s4 (distance pc (target label))) (flat_map (λ label. s4 (distance pc (target label))) labels)
    ∙ omega (arith, rest)

rows_length : (target : Label → ℕ) (pc : ℕ) (rows : List (ℤ × Label))
    → length (flat_map (λ row. s4 row.0 ++ s4 (distance pc (target row.1))) rows) ≡ 8 * length rows
rows_length target pc [] = refl
rows_length target pc (row ∷ rows) =
    let rest = rows_length target pc rows in
    length-append (s4 row.0 ++ s4 (distance pc (target row.1)))
    (flat_map (λ row. s4 row.0 ++ s4 (distance pc (target row.1))) rows)
    ∙ omega (arith, rest)

-- five runs of bytes behind an opcode
five : (opcode : ℕ) (a b d e f : List ℕ) → length ((((opcode ∷ a ++ b) ++ d) ++ e) ++ f)
    ≡ 1 + length a + length b + length d + length e + length f
five opcode a b d e f = simp length-append (omega arith)

four : (opcode : ℕ) (a b d e : List ℕ) → length (((opcode ∷ a ++ b) ++ d) ++ e)
    ≡ 1 + length a + length b + length d + length e
four opcode a b d e = simp length-append (omega arith)

pub table_length : (entries : List Entry) (target : Label → ℕ) (pc : ℕ) (low : ℤ) (labels : List Label) (default : Label)
    → length (operation_bytes entries target pc (tableswitch low labels default))
    ≡ 13 + (3 - pc % 4) + 4 * length labels
unfolding operation_bytes
table_length entries target pc low labels default =
    let zeros = length-replicate {A = ℕ} (3 - pc % 4) 0 in
    let all = labels_length target pc labels in
    five 0xAA (padding pc) _ _ _ (flat_map (λ label. s4 (distance pc (target label))) labels) ∙ omega (arith, zeros, all)

pub lookup_length : (entries : List Entry) (target : Label → ℕ) (pc : ℕ) (rows : List (ℤ × Label)) (default : Label)
    → length (operation_bytes entries target pc (lookupswitch rows default))
    ≡ 9 + (3 - pc % 4) + 8 * length rows
unfolding operation_bytes
lookup_length entries target pc rows default =
    let zeros = length-replicate {A = ℕ} (3 - pc % 4) 0 in
    let all = rows_length target pc rows in
    four 0xAB (padding pc) _ _ (flat_map (λ row. s4 row.0 ++ s4 (distance pc (target row.1))) rows) ∙ omega (arith, zeros, all)
