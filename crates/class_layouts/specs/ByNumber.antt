-- The fields of layouts, by number.
use Rattle.std.specs.Prelude.{ℕ, suc, ◌+◌, List, [], ◌∷◌, ◌++◌, Bool, true, false, Option, Some, None, if◌then◌else◌, slice_get, nat_lt}
use Rattle.std.specs.List.{flat_map, list_all}
use Rattle.jv_types.specs.Sequence.{Sequence}
use Rattle.jv_types.specs.declared.number.ClassNo.{ClassNo}
use Rattle.class_world.specs.declared.class_info.FieldPlace.{FieldPlace}
use Rattle.class_members.specs.declared.field.FieldRow.{FieldRow}
use Rattle.heap_face.specs.declared.layout.Cell.{Cell}

-- the places of the fields that aren't static, of these rows from that index on
abbrev pub own_fields : ClassNo → ℕ → List FieldRow → List FieldPlace
own_fields class index [] = []
own_fields class index (row ∷ rows) =
    if row.is_static then own_fields class (index + 1) rows
    else record { class = class; index = index } ∷ own_fields class (index + 1) rows

abbrev pub own_cells : List FieldRow → List Cell
own_cells [] = []
own_cells (row ∷ rows) = if row.is_static then own_cells rows else row.cell ∷ own_cells rows

-- the rows of a class
abbrev pub rows_in : Option (Sequence FieldRow) → List FieldRow
rows_in None = []
rows_in (Some rows) = rows.items

abbrev pub rows_at : List (Sequence FieldRow) → ClassNo → List FieldRow
rows_at rows class = rows_in (slice_get rows class.0)

-- the fields of these classes, one class after the other, and what they hold
abbrev pub all_fields : List (Sequence FieldRow) → List ClassNo → List FieldPlace
all_fields rows classes = flat_map (λ (c : ClassNo). own_fields c 0 (rows_at rows c)) classes

abbrev pub all_cells : List (Sequence FieldRow) → List ClassNo → List Cell
all_cells rows classes = flat_map (λ (c : ClassNo). own_cells (rows_at rows c)) classes

-- these are numbers of so many classes
abbrev pub is_inside : ℕ → List ClassNo → Bool
is_inside count classes = list_all (λ (c : ClassNo). nat_lt c.0 count) classes

abbrev pub are_inside : ℕ → List (Sequence ClassNo) → Bool
are_inside count chains = list_all (λ (chain : Sequence ClassNo). is_inside count chain.items) chains
