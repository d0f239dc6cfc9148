use Rattle.std.proofs.Common.{sym, ap, ◌∙◌}
use Rattle.std.specs.Prelude.{is_some}
use Rattle.jv_model.specs.ConstantPool.{const_at}
use Rattle.jv_types.specs.ClassData.{pool_of}
use Rattle.look_up_cache.proofs.Standing.{literal_there, name_target}
use Rattle.look_up_cache.proofs.slots.look_up_slot.Goals as goal

pub literal-requires : goal.literal-requires
literal-requires g c =
    literal_there c.args.versions.now.literals.texts (pool_of c.args.pool.now) c.args.index c.in-Some.units.now c.requires.literals (sym c.in-Some.ensures)

pub named_slot-requires-clause-there : goal.named_slot-requires-clause-there
named_slot-requires-clause-there g c =
    let pool = pool_of c.args.pool.now in
    sym (ap is_some (name_target c.args.world.now pool c.args.index (const_at pool c.args.index) (sym c.in-None.ensures))) ∙ c.requires.there
