use Rattle.std.proofs.Common.{List, sym, subst, ◌∙◌}
use Rattle.type_rules.specs.declared.types.VerificationType.{VerificationType}
use Rattle.stackmap_verify.specs.Cover.{HasLeft}
use Rattle.stackmap_verify.proofs.SameTypes.{same_types, not_false}
use Rattle.stackmap_verify.proofs.handlers.watch_locals.Goals as goal

pub returns-else-ne-clause-locals : goal.returns-else-ne-clause-locals
returns-else-ne-clause-locals c =
    sym c.as_slice.ensures ∙ same_types c.as_slice.result.now c.args.locals.now (not_false _ (sym c.ne.ensures ∙ c.if-ne.false))

pub returns-else-ne-clause-left : goal.returns-else-ne-clause-left
returns-else-ne-clause-left c = λ test left.
    let same = sym c.as_slice.ensures ∙ same_types c.as_slice.result.now c.args.locals.now (not_false _ (sym c.ne.ensures ∙ c.if-ne.false)) in
    subst (λ (l : List VerificationType). HasLeft (test l) c.args.watch.now.cover) same left
