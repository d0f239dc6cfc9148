use Rattle.std.proofs.Common.{◌∙◌, sym}
use Rattle.type_rules.specs.Types.{field_type_of}
use Rattle.map_frames.proofs.Arguments.{kept-type, kept-array, kept-other, kept-double}
use Rattle.map_frames.proofs.types.argument_type.Goals as goal

pub returns-then-parameter-gt0-clause-same : goal.returns-then-parameter-gt0-clause-same
returns-then-parameter-gt0-clause-same c = λ w e is.
    let p = c.args.parameter in
    c.verification_type.ensures.same w
    ∙ sym (kept-type e (field_type_of w p) is ∙ kept-array w p.dimensions p.element c.if-parameter-gt0.true)

pub returns-in-Double-clause-same : goal.returns-in-Double-clause-same
returns-in-Double-clause-same c = λ w e is.
    let p = c.args.parameter in
    sym (kept-type e (field_type_of w p) is ∙ kept-double w p.dimensions p.element c.if-parameter-gt0.false c.in-Double.is)

pub returns-in_default-clause-same : goal.returns-in_default-clause-same
returns-in_default-clause-same c = λ w e is.
    let p = c.args.parameter in
    c.verification_type-in_default.ensures.same w
    ∙ sym (kept-type e (field_type_of w p) is ∙ kept-other w p.dimensions p.element c.if-parameter-gt0.false c.in_default.not-Double)
