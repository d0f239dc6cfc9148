use Rattle.std.proofs.Common.{◌≡◌, None, replicate, length, ap, ◌∙◌}
use Rattle.literal_table.proofs.Strings.{kept_none}
use Rattle.literal_table.proofs.table.LiteralTable.open.Goals as goal

pub invariant_of-result : goal.invariant_of-result
invariant_of-result c =
    kept_none c.args.texts c.in_ok-addresses.addresses.items c.reserve.new.self.items
    (c.in_ok-addresses.ensures ∙ ap (λ n. replicate n None) c.len-literals.ensures.len)
    (c.reserve.ensures.items ∙ c.new-order.ensures)
