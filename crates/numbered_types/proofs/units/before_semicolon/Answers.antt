use Rattle.std.proofs.Common.{◌+◌, ◌∙◌, sym}
use Rattle.std.proofs.lemmas.Bool.{ne_eqb}
use Rattle.numbered_types.proofs.Descriptors.{rest_is, semicolon_here, semicolon_later, no_semicolon}
use Rattle.numbered_types.proofs.units.before_semicolon.Goals as goal

pub returns-then-units-at-eq-SEMICOLON : goal.returns-then-units-at-eq-SEMICOLON
returns-then-units-at-eq-SEMICOLON c =
    let units = c.args.units.now in
    let at = c.loop-at.at in
    rw (rest_is units (at + 1))
    (sym (semicolon_here units at c.loop-at-test.true c.if-units-at-eq-SEMICOLON.true)
    ∙ c.loop-at.invariant)

pub loop-at-preserved : goal.loop-at-preserved
loop-at-preserved c =
    semicolon_later c.args.units.now c.loop-at.at c.loop-at-test.true
    (ne_eqb _ _ c.if-units-at-eq-SEMICOLON.false)
    ∙ c.loop-at.invariant

pub returns : goal.returns
returns c =
    sym (no_semicolon c.args.units.now c.loop-at.at c.loop-at-test.false) ∙ c.loop-at.invariant
