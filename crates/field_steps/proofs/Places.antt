-- What the field of a place holds.
use Rattle.std.proofs.Common.{◌≡◌, ℕ, ◌&&◌, true, List, Option, Some, None, map, slice_get, option_map, refl, ap, sym, ◌∙◌}
use Rattle.std.specs.Prelude.{bytes_eq}
use Rattle.std.proofs.lemmas.Bool.{and_parts}
use Rattle.std.proofs.lemmas.Option.{slice_get-map}
use Rattle.jv_model.specs.Operand.{MemberReference}
use Rattle.world_model.specs.World.{World, Class}
use Rattle.world_model.specs.Layout.{layout, field_place}
use Rattle.world_model.specs.Members.{same_member}
use Rattle.jv_types.specs.Sequence.{Sequence}
use Rattle.jv_types.specs.declared.number.ClassNo.{ClassNo}
use Rattle.class_world.specs.World.{name_at}
use Rattle.class_world.proofs.Numbers.{name_at_place}
use Rattle.class_members.specs.Members.{cell_of}
use Rattle.class_layouts.specs.declared.layouts.ClassLayouts.{ClassLayouts}
use Rattle.class_layouts.specs.Layouts.{AreLayouts, cell_of_member}
use Rattle.heap_face.specs.declared.layout.Cell.{Cell}
use Rattle.heap_face.specs.Collection.{cells_of}
use Rattle.look_up_cache.specs.Words.{IsLast}
use Rattle.look_up_cache.proofs.Last.{last_is}
use Rattle.member_names.proofs.Lists.{same_text}

same_descriptor : (field item : MemberReference) → same_member field item ≡ true → item.descriptor ≡ field.descriptor
same_descriptor field item same =
    let parts = and_parts (bytes_eq field.name item.name && bytes_eq field.descriptor item.descriptor) (bytes_eq field.class item.class) same in
    sym (same_text field.descriptor item.descriptor (and_parts (bytes_eq field.name item.name) (bytes_eq field.descriptor item.descriptor) parts.0).1)

-- where these are the cells of a layout, the one at the place of a field is that of its descriptor
cell_in_layout : (fields : List MemberReference) (cells : List Cell) (field : MemberReference) (place : ℕ) → map cell_of_member fields ≡ cells
    → field_place fields field ≡ Some place → slice_get cells place ≡ Some (cell_of field.descriptor)
cell_in_layout fields cells field place are at =
    let last : IsLast (same_member field) fields place = last_is (same_member field) fields place at in
    ap (λ (l : List Cell). slice_get l place) (sym are) ∙ slice_get-map cell_of_member fields place
    ∙ ap (option_map cell_of_member) last.at ∙ ap (λ d. Some (cell_of d)) (same_descriptor field last.item last.passes)

-- the cell at the place of a field among those of a class says what the field's descriptor says
pub cell_at_place : (world : World) (layouts : ClassLayouts) (class : ClassNo) (cells : List Cell) (field : MemberReference) (place : ℕ)
    → AreLayouts world layouts → cells_of layouts.layouts class ≡ Some cells
    → field_place (layout world (name_at world class)) field ≡ Some place → slice_get cells place ≡ Some (cell_of field.descriptor)
cell_at_place world layouts class cells field place are laid at =
    by (slice_get world.classes class.0) refl
    (sym (slice_get-map (λ (c : Class). map cell_of_member (layout world c.name)) world.classes class.0)
    ∙ ap (λ (l : List (List Cell)). slice_get l class.0) (sym are.cells)
    ∙ slice_get-map (λ (row : Sequence Cell). row.items) layouts.layouts.classes.items class.0 ∙ laid)
  where
    by : (o : Option Class) → slice_get world.classes class.0 ≡ o
        → option_map (λ (c : Class). map cell_of_member (layout world c.name)) o ≡ Some cells → slice_get cells place ≡ Some (cell_of field.descriptor)
    by None is none = absurd cc
    by (Some c) is own =
        let cells_are : map cell_of_member (layout world c.name) ≡ cells = cc in
        cell_in_layout (layout world c.name) cells field place cells_are
        (ap (λ n. field_place (layout world n) field) (sym (name_at_place world class.0 c is)) ∙ at)
