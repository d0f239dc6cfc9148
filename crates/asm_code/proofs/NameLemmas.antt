-- Labels that types of a frame name.
use Rattle.std.proofs.Common.{◌≡◌, List, [], ◌∷◌, ◌++◌, refl, ap, sym, ◌∙◌}
use Rattle.std.specs.Prelude.{filter_map, flat_map}
use Rattle.std.proofs.lemmas.Grind.{flat_map-append}
use Rattle.assembler_model.specs.AssemblerTerms.{FrameType, top_type, int_type, long_type, null_type, this_type, new_type, object_type}
use Rattle.assembler_model.specs.CodeFaults.{type_label}
use Rattle.asm_code.specs.Names.{label_of_type}

one_by_one : (types : List FrameType) → flat_map label_of_type types ≡ filter_map type_label types
one_by_one [] = refl
one_by_one (top_type ∷ types) = one_by_one types
one_by_one (int_type ∷ types) = one_by_one types
one_by_one (long_type ∷ types) = one_by_one types
one_by_one (null_type ∷ types) = one_by_one types
one_by_one (this_type ∷ types) = one_by_one types
one_by_one (new_type label ∷ types) = ap (λ labels. label ∷ labels) (one_by_one types)
one_by_one (object_type name ∷ types) = one_by_one types

-- those of both lists
pub both_lists : (locals stack : List FrameType)
    → flat_map label_of_type locals ++ flat_map label_of_type stack ≡ filter_map type_label (locals ++ stack)
both_lists locals stack = sym (flat_map-append label_of_type locals stack) ∙ one_by_one (locals ++ stack)
