use Rattle.std.proofs.Common.{◌≡◌, None, replicate}
use Rattle.literal_table.proofs.table.no_addresses.Given as goal

-- as many as were counted
abbrev pub invariant-loop : goal.invariant-loop
invariant-loop l = l.addresses.items ≡ replicate l.counter None
