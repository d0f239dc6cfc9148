use Rattle.std.proofs.Common.{option_map}
use Rattle.jv_types.specs.ClassData.{pool_of}
use Rattle.jv_types.specs.declared.number.Pc.{Pc}
use Rattle.class_world.specs.World.{name_at}
use Rattle.vm_throw.proofs.Tables.{found_handler}
use Rattle.vm_throw.proofs.handlers.find_handler.Goals as goal

pub returns-clause-found : goal.returns-clause-found
returns-clause-found g c =
    found_handler c.args.world.now c.args.method c.args.pc.0 (name_at c.args.world.now c.args.class)
    (option_map (λ (target : Pc). target.0) c.first_handler.result) c.class.ensures.0 c.class.result.now.origin
    (pool_of c.rows_at-table.result.pool.now) c.rows_at-table.result.rows.now c.class.ensures.1 c.class.ensures.2.origin
    c.rows_at-table.ensures c.first_handler.ensures.found
