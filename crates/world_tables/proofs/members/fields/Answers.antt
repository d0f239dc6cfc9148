use Rattle.std.proofs.Common.{◌≡◌, ◌<◌, ◌+◌, length, map, take, ap, sym, ◌∙◌, arith}
use Rattle.world_model.specs.World.{Class}
use Rattle.class_world.specs.World.{names_of}
use Rattle.class_members.specs.Members.{kept_of, field_kept}
use Rattle.world_tables.specs.Tables.{fields_kept}
use Rattle.world_tables.proofs.Rows.{row_more, fields_at, fields_are}
use Rattle.world_tables.proofs.members.fields.Goals as goal

pub loop-class-preserved : goal.loop-class-preserved
loop-class-preserved c =
    let world = c.args.world.now in
    let class = c.class.ensures.0 in
    let kept = c.in_ok-fields_of.ensures
    ∙ ap (map field_kept) (fields_are (names_of world) c.class.result.now.origin)
    ∙ ap (λ (k : Class). map field_kept k.fields) c.class.ensures.2.origin in
    ap (λ rows. map (λ row. map kept_of row.items) rows) c.in_ok-push.ensures.ok
    ∙ row_more (λ row. map kept_of row.items) c.loop-class.rows.items c.in_ok-fields_of.field-0 (fields_kept world) c.loop-class.class
    c.loop-class.invariant
    (fields_at world c.loop-class.class class (map kept_of c.in_ok-fields_of.field-0.items) c.class.ensures.1 kept)
