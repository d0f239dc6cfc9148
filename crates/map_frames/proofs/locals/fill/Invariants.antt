use Rattle.std.proofs.Common.{◌≡◌, ◌++◌, ◌-◌, length, replicate}
use Rattle.type_rules.specs.declared.types.VerificationType.TheVariants.{Top}
use Rattle.map_frames.proofs.locals.fill.Given as goal

-- what is there, and the places that are still to be filled
abbrev pub invariant-loop-locals : goal.invariant-loop-locals
invariant-loop-locals l =
    l.locals.items ++ replicate (l.max_locals - length l.locals.items) Top
    ≡ l.fn.locals.items ++ replicate (l.max_locals - length l.fn.locals.items) Top

abbrev pub decreases-loop-locals : goal.decreases-loop-locals
decreases-loop-locals l = l.max_locals - length l.locals.items
