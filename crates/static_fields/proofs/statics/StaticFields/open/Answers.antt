use Rattle.std.proofs.Common.{List, option_map, ap, ◌∙◌}
use Rattle.jv_types.specs.Sequence.{Sequence}
use Rattle.class_members.specs.declared.field.FieldRow.{FieldRow}
use Rattle.jv_values.specs.Values.{value_of}
use Rattle.static_fields.specs.Statics.{first_in}
use Rattle.static_fields.proofs.Named.{first_named}
use Rattle.static_fields.proofs.statics.StaticFields.open.Goals as goal

pub returns : goal.returns
returns c = λ place.
    ap (option_map value_of) (c.in_ok-statics.ensures place ∙ ap (λ (l : List (Sequence FieldRow)). first_in l place) c.as_slice.ensures)
    ∙ first_named c.args.world.now c.in_ok-rows.rows.items c.in_ok-rows.ensures place
