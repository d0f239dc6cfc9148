-- Labels that lines name, as the definitions see them.
use Rattle.std.specs.Prelude.{ℕ, ℤ, List, [], ◌∷◌, flat_map, map}
use Rattle.std.specs.Borrow.{Bor}
use Rattle.assembler_model.specs.AssemblerTerms as model
use Rattle.assembler_model.specs.AssemblerTerms.{Label, new_type}
use Rattle.asm_lines.specs.Terms.{row_of, type_of}
use Rattle.asm_lines.specs.declared.term.FrameType.{FrameType}

-- the labels of rows
abbrev pub row_labels : List (ℤ × Bor (List ℕ)) → List Label
row_labels rows = map (λ row. row.1) (map row_of rows)

-- the label that a type of a frame names
abbrev pub label_of_type : model.FrameType → List Label
label_of_type (new_type label) = label ∷ []
label_of_type other = []

-- the labels that types of a frame name
abbrev pub type_labels : List FrameType → List Label
type_labels types = flat_map label_of_type (map type_of types)
