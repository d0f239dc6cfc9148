use Rattle.std.proofs.Common.{true, false, List, is_none, sym, ◌∙◌, ap, refl}
use Rattle.std.specs.List.{list_any}
use Rattle.type_rules.specs.declared.types.VerificationType.{VerificationType}
use Rattle.type_rules.specs.Frames.{is_uninitialized_this}
use Rattle.instruction_types.proofs.Results.{returned-by}
use Rattle.instruction_types.proofs.returns.return_void.Goals as goal

pub returns-then-not-here : goal.returns-then-not-here
returns-then-not-here c = λ w e is.
    let old = c.args.frame.now in
    returned-by w c.args.here.now e is old true false (list_any is_uninitialized_this old.locals)
    (ap is_none c.in-None.is) c.if-not-here.true refl

pub returns-then-has_this : goal.returns-then-has_this
returns-then-has_this c = λ w e is.
    let old = c.args.frame.now in
    returned-by w c.args.here.now e is old true true true (ap is_none c.in-None.is) c.if-not-here.false
    (sym (c.has_this.ensures ∙ ap (λ (l : List VerificationType). list_any is_uninitialized_this l) c.locals.ensures) ∙ c.if-has_this.true)

pub returns : goal.returns
returns c = λ w e is.
    let old = c.args.frame.now in
    returned-by w c.args.here.now e is old true true false (ap is_none c.in-None.is) c.if-not-here.false
    (sym (c.has_this.ensures ∙ ap (λ (l : List VerificationType). list_any is_uninitialized_this l) c.locals.ensures) ∙ c.if-has_this.false)
