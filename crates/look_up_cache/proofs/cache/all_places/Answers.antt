use Rattle.std.proofs.Common.{map, ap, ◌∙◌}
use Rattle.class_world.specs.World.{names_of}
use Rattle.world_tables.proofs.Rows.{row_more}
use Rattle.look_up_cache.specs.Kept.{places_in}
use Rattle.look_up_cache.proofs.Kept.{places_at}
use Rattle.look_up_cache.proofs.cache.all_places.Goals as goal

pub loop-class-preserved : goal.loop-class-preserved
loop-class-preserved c =
    let world = c.args.world.now in
    ap (map (λ row. row.items)) c.in_ok-push.ensures.items
    ∙ row_more (λ row. row.items) c.loop-class.rows.items c.in_ok-empty_places.field-0 (places_in world) c.loop-class.class c.loop-class.invariant
    (places_at world c.loop-class.class c.class.ensures.0 (names_of world) c.class.result.now.origin c.pool_in-pool.result.now c.in_ok-empty_places.field-0.items
    c.class.ensures.1 c.class.ensures.2.origin c.pool_in-pool.ensures c.in_ok-empty_places.ensures)
