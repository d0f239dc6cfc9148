use Rattle.std.proofs.Common.{rules, nat_lt}
use Rattle.std.proofs.lemmas.Fn.{filter_same}
use Rattle.jv_types.specs.declared.code.Handler.{Handler}
use Rattle.stackmap_verify.proofs.cover.drop_ended.Goals as goal

pub returns : goal.returns
returns c = filter_same _ (λ (row : Handler). nat_lt c.args.pc row.to) _ (λ x b q k. search rules) _ _ c.retain.ensures.filtered
