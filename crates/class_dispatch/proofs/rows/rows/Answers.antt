use Rattle.std.proofs.Common.{map, ap, ◌∙◌}
use Rattle.world_model.specs.World.{Class}
use Rattle.class_world.specs.World.{names_of}
use Rattle.world_tables.proofs.Rows.{row_more}
use Rattle.class_dispatch.specs.Rows.{is_selectable, selectable_in}
use Rattle.class_dispatch.proofs.Steps.{methods_are, selectable_at}
use Rattle.class_dispatch.proofs.rows.rows.Goals as goal

pub loop-class-preserved : goal.loop-class-preserved
loop-class-preserved c =
    let world = c.args.world.now in
    let own = c.in_ok-row_of.ensures
    ∙ ap (map is_selectable) (methods_are (names_of world) c.class.result.now.origin)
    ∙ ap (λ (k : Class). map is_selectable k.methods) c.class.ensures.2.origin in
    ap (map (λ row. row.items)) c.in_ok-push.ensures.ok
    ∙ row_more (λ row. row.items) c.loop-class.rows.items c.in_ok-row_of.field-0 (selectable_in world) c.loop-class.class
    c.loop-class.invariant
    (selectable_at world c.loop-class.class c.class.ensures.0 c.in_ok-row_of.field-0.items c.class.ensures.1 own)
