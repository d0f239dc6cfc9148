use Rattle.std.proofs.Common.{◌≡◌, ◌∙◌, ◌<◌, arith, drop, ap, Some, List, ℕ}
use Rattle.code_model.specs.TypeReading.{type_at}
use Rattle.descriptor_types.specs.Types.{element_of, nested}
use Rattle.descriptor_types.proofs.Reading.{rest_is, no_dimensions, array_read, too_deep}
use Rattle.descriptor_types.proofs.field.field_type_at.Goals as goal

pub returns-in_default : goal.returns-in_default
returns-in_default c =
    let units = c.args.units.now in
    let n = c.dimensions_at-brackets.result in
    too_deep n (type_at (drop n units)) (type_at units) (omega (arith, c.in_default.ensures))
    (no_dimensions (drop n units) c.dimensions_at-brackets.ensures.no_more)
    c.dimensions_at-brackets.ensures.arrays

pub returns : goal.returns
returns c =
    let units = c.args.units.now in
    let n = c.dimensions_at-brackets.result in
    let found : Some (element_of c.in_ok-element.element, c.in_ok-element.behind.now)
    ≡ type_at (drop n units) =
    c.in_ok-element.ensures ∙ ap (λ (left : List ℕ). type_at left) (rest_is units n) in
    let few : n < 256 = c.in-Ok.ensures.0 in
    let same : c.in-Ok.dimensions ≡ n = c.in-Ok.ensures.1 in
    ap (λ (d : ℕ). Some (nested d (element_of c.in_ok-element.element), c.in_ok-element.behind.now)) same
    ∙ array_read n (type_at (drop n units)) (type_at units) (element_of c.in_ok-element.element) _
    (omega arith) (no_dimensions (drop n units) c.dimensions_at-brackets.ensures.no_more)
    c.dimensions_at-brackets.ensures.arrays found
