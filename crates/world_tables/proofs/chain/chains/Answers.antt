use Rattle.std.proofs.Common.{◌≡◌, ◌<◌, ◌+◌, List, Some, length, map, take, ap, sym, ◌∙◌, arith}
use Rattle.world_tables.specs.Tables.{chains_of}
use Rattle.world_tables.proofs.Rows.{row_more, chain_at}
use Rattle.world_tables.proofs.chain.chains.Goals as goal

pub loop-class-preserved : goal.loop-class-preserved
loop-class-preserved c =
    let world = c.args.world.now in
    let inside : c.loop-class.class < length world.classes = omega (arith, c.classes-class-end.ensures) in
    ap (λ rows. map (λ row. row.items) rows) c.in_ok-push.ensures.ok
    ∙ row_more (λ row. row.items) c.loop-class.rows.items c.in_ok-chain.field-0 (chains_of world) c.loop-class.class
    c.loop-class.invariant
    (chain_at world (record { 0 = c.loop-class.class }) inside ∙ ap Some (sym c.in_ok-chain.ensures))
