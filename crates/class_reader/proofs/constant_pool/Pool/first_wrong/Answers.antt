use Rattle.std.proofs.Common.{◌≡◌, true, false}
use Rattle.jv_model.specs.Profile.{names_right}
use Rattle.jv_types.specs.ClassData.{const_of}
use Rattle.class_reader.proofs.Loops.Entries.{first_wrong-here, first_wrong-behind}
use Rattle.class_reader.proofs.constant_pool.Pool.first_wrong.Goals as goal

pub returns-then-not-names_right : goal.returns-then-not-names_right
returns-then-not-names_right c =
    let wrong : names_right c.args.major c.args.self.now (const_of c.get.result.now) ≡ false = cc in
    first_wrong-here _ _ _ _ _ _ c.self.view_is c.get.ensures wrong c.loop-index.invariant

pub loop-index-preserved : goal.loop-index-preserved
loop-index-preserved c =
    let right : names_right c.args.major c.args.self.now (const_of c.get.result.now) ≡ true = cc in
    first_wrong-behind _ _ _ _ _ _ c.self.view_is c.get.ensures right c.loop-index.invariant
