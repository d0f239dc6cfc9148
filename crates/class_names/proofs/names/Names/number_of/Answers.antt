use Rattle.std.proofs.Common.{is_some, ap, ◌∙◌, refl}
use Rattle.class_names.proofs.Lists.{position-view, list_any-view}
use Rattle.class_names.proofs.names.Names.number_of.Goals as goal

pub returns-clause-number : goal.returns-clause-number
returns-clause-number c = position-view _ _ _ _ _ _ c.self.view_is refl c.in_ok-number.ensures.index

pub returns-clause-found : goal.returns-clause-found
returns-clause-found c = list_any-view _ _ _ _ _ _ c.self.view_is refl c.in_ok-number.ensures.found

pub returns-in_err-number-clause-number : goal.returns-in_err-number-clause-number
returns-in_err-number-clause-number c =
    c.from_residual.ensures
    ∙ position-view _ _ _ _ _ _ c.self.view_is refl c.in_err-number.ensures.index

pub returns-in_err-number-clause-found : goal.returns-in_err-number-clause-found
returns-in_err-number-clause-found c =
    ap is_some c.from_residual.ensures
    ∙ list_any-view _ _ _ _ _ _ c.self.view_is refl c.in_err-number.ensures.found
