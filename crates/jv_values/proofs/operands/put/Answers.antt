use Rattle.std.proofs.Common.{rules}
use Rattle.std.proofs.lemmas.Slice.{overwrites}
use Rattle.jv_values.proofs.WordLemmas.{operands_in-group}
use Rattle.jv_values.proofs.operands.put.Goals as goal

pub returns-clause-operands : goal.returns-clause-operands
returns-clause-operands c =
    operands_in-group c.args.words.now c.args.group.now _ c.args.depth (rw c.copy_from_slice.ensures.after (search (rules, overwrites)))
