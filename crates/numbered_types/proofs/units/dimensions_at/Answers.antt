use Rattle.std.proofs.Common.{◌∙◌}
use Rattle.numbered_types.proofs.Descriptors.{bracket_here}
use Rattle.numbered_types.proofs.units.dimensions_at.Goals as goal

pub loop-at-preserved : goal.loop-at-preserved
loop-at-preserved c =
    bracket_here c.args.units.now c.loop-at.at c.loop-at-test.true c.if-units-at-ne-BRACKET.false
    ∙ c.loop-at.invariant
