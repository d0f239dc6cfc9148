use Rattle.std.proofs.Common.{◌∙◌, arith, drop, ap, List, ℕ}
use Rattle.code_model.specs.TypeReading.{type_at}
use Rattle.numbered_types.proofs.Descriptors.{rest_is, no_dimensions}
use Rattle.numbered_types.specs.Numbered.{numbered}
use Rattle.numbered_types.proofs.Arrays.{array-found, array-none, array-deep}
use Rattle.numbered_types.proofs.field_types.next_type.Goals as goal

pub returns-in_default : goal.returns-in_default
returns-in_default c =
    let w = c.args.world.now in
    let units = c.args.units.now in
    let n = c.dimensions_at-dimensions.result in
    let read = type_at (drop n units) in
    array-none w n read (type_at units) c.dimensions_at-dimensions.ensures.arrays
    (c.in_default.ensures ∙ ap (λ (left : List ℕ). numbered w (type_at left)) (rest_is units n))

pub returns-then-dimensions-gt-MOST_DIMENSIONS : goal.returns-then-dimensions-gt-MOST_DIMENSIONS
returns-then-dimensions-gt-MOST_DIMENSIONS c =
    let units = c.args.units.now in
    let n = c.dimensions_at-dimensions.result in
    array-deep c.args.world.now n (type_at (drop n units)) (type_at units) (omega arith) c.dimensions_at-dimensions.ensures.arrays

pub returns : goal.returns
returns c =
    let w = c.args.world.now in
    let units = c.args.units.now in
    let n = c.dimensions_at-dimensions.result in
    let read = type_at (drop n units) in
    array-found w n read (type_at units) c.in-Some.element c.in-Some.behind.now (omega arith)
    (no_dimensions (drop n units) c.dimensions_at-dimensions.ensures.no_more) c.dimensions_at-dimensions.ensures.arrays
    (c.in-Some.ensures ∙ ap (λ (left : List ℕ). numbered w (type_at left)) (rest_is units n))
