use Rattle.std.proofs.Common.{rules}
use Rattle.std.proofs.lemmas.List.Sorted.{IsNonDecreasingBy-from_sort_by_key}
use Rattle.jv_types.specs.declared.code.Handler.{Handler}
use Rattle.stackmap_verify.proofs.cover.by_begin.Goals as goal

pub returns-clause-sorted : goal.returns-clause-sorted
returns-clause-sorted c =
    IsNonDecreasingBy-from_sort_by_key (λ (row : Handler). row.from) _ c.sort_unstable_by_key.ensures.sorted (λ a r q k. search rules)
