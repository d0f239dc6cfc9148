use Rattle.std.proofs.Common.{◌≤◌, ◌-◌, ◌∙◌, arith, length}
use Rattle.type_rules.specs.declared.types.VerificationType.TheVariants.{Top}
use Rattle.map_frames.proofs.Places.{filled-more}
use Rattle.map_frames.proofs.locals.fill.Goals as goal

pub loop-locals-preserved : goal.loop-locals-preserved
loop-locals-preserved c =
    let items = c.loop-locals.locals.items in
    let few : c.min.result ≤ c.args.max_locals - length items = omega arith in
    rw c.in_ok-add_tops.ensures (filled-more items Top c.args.max_locals c.min.result few ∙ c.loop-locals.invariant)
