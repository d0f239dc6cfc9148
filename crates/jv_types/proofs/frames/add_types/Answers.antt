use Rattle.std.proofs.Common.{arith}
use Rattle.jv_types.proofs.Rows.{add_none}
use Rattle.jv_types.proofs.frames.add_types.Goals as goal

pub loop-map_type-init : goal.loop-map_type-init
loop-map_type-init c = record {
  so_far = add_none c.args.rows.now.items c.requires.rows c.args.types c.requires.types;
  room = omega arith;
}
