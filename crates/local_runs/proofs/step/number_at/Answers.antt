use Rattle.std.proofs.Common.{◌∙◌}
use Rattle.local_runs.proofs.OrderLemmas.{position_found}
use Rattle.local_runs.proofs.PlaceLemmas.{number_found, number_pc}
use Rattle.local_runs.proofs.step.number_at.Goals as goal

pub unreachable-requires : goal.unreachable-requires
unreachable-requires c =
    let found = number_found c.args.instructions.now c.args.pc c.requires in
    let at = position_found _ c.args.instructions.now found.0 found.1 in
    let none = c.in-None.ensures.found ∙ at.1 in
    cc

pub returns-clause-there : goal.returns-clause-there
returns-clause-there c =
    let found = number_found c.args.instructions.now c.args.pc c.requires in
    (number_pc c.args.instructions.now c.args.pc c.in-Some.number found.0 found.1 c.in-Some.ensures.found).1
