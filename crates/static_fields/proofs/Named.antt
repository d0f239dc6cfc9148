-- First values by row are those of the definitions.
use Rattle.std.proofs.Common.{◌≡◌, ℕ, List, Option, Some, None, map, slice_get, option_map, option_and_then, ap, sym, ◌∙◌, refl}
use Rattle.std.proofs.lemmas.Option.{slice_get-map}
use Rattle.jv_types.specs.Sequence.{Sequence}
use Rattle.world_model.specs.World.{World, Class, Field}
use Rattle.world_model.specs.LookUp.{Found}
use Rattle.machine_model.specs.Value as model
use Rattle.machine_model.specs.Start.{first_value}
use Rattle.jv_values.specs.Values.{value_of}
use Rattle.class_members.specs.Members.{Kept, kept_of, field_kept}
use Rattle.class_members.specs.declared.field.FieldRow.{FieldRow}
use Rattle.world_tables.specs.Tables.{fields_kept}
use Rattle.static_fields.specs.Statics.{Place, first_in, first_at}

abbrev row_value : Option FieldRow → Option model.Value
row_value row = option_map value_of (option_map (λ (r : FieldRow). r.first) row)

abbrev field_value : List ℕ → Option Field → Option model.Value
field_value name field = option_map (λ (f : Found Field). first_value f.member f.member.constant)
    (option_map (λ (f : Field). record { class = name; member = f }) field)

one_field : (name : List ℕ) (row : Option FieldRow) (field : Option Field) → option_map kept_of row ≡ option_map field_kept field
    → row_value row ≡ field_value name field
one_field name None None same = refl
one_field name None (Some f) same = absurd cc
one_field name (Some r) None same = absurd cc
one_field name (Some r) (Some f) same =
    let kept : kept_of r ≡ field_kept f = cc in
    ap Some (ap (λ (k : Kept). k.first) kept)

one_class : (index : ℕ) (row : Option (Sequence FieldRow)) (class : Option Class)
    → option_map (λ (r : Sequence FieldRow). map kept_of r.items) row ≡ option_map (λ (c : Class). map field_kept c.fields) class
    → row_value (option_and_then (λ (r : Sequence FieldRow). slice_get r.items index) row)
    ≡ option_map (λ (f : Found Field). first_value f.member f.member.constant)
    (option_and_then (λ (c : Class). option_map (λ (f : Field). record { class = c.name; member = f }) (slice_get c.fields index)) class)
one_class index None None same = refl
one_class index None (Some c) same = absurd cc
one_class index (Some r) None same = absurd cc
one_class index (Some r) (Some c) same =
    let kept : map kept_of r.items ≡ map field_kept c.fields = cc in
    one_field c.name (slice_get r.items index) (slice_get c.fields index)
    (sym (slice_get-map kept_of r.items index) ∙ ap (λ (l : List Kept). slice_get l index) kept ∙ slice_get-map field_kept c.fields index)

pub first_named : (world : World) (rows : List (Sequence FieldRow))
    → map (λ (r : Sequence FieldRow). map kept_of r.items) rows ≡ fields_kept world → (place : Place)
    → option_map value_of (first_in rows place) ≡ first_at world place
first_named world rows are place =
    one_class place.index (slice_get rows place.class.0) (slice_get world.classes place.class.0)
    (sym (slice_get-map (λ (r : Sequence FieldRow). map kept_of r.items) rows place.class.0)
    ∙ ap (λ (l : List (List Kept)). slice_get l place.class.0) are
    ∙ slice_get-map (λ (c : Class). map field_kept c.fields) world.classes place.class.0)
