use Rattle.std.proofs.Common.{◌≡◌, ◌∙◌, arith, drop, ap, subst, Some, List, ℕ}
use Rattle.code_model.specs.TypeReading.{type_at}
use Rattle.method_descriptors.specs.Parameters.{kind_front, arrays}
use Rattle.method_descriptors.proofs.Descriptors.{rest_is, no_dimensions, plain_kind, array_kind, deep_kind}
use Rattle.method_descriptors.proofs.descriptor.next_kind.Goals as goal

pub returns-in-0 : goal.returns-in-0
returns-in-0 c =
    let units = c.args.units.now in
    let n = c.dimensions_at-dimensions.result in
    let found : Some (c.in_ok-kind.kind, c.in_ok-kind.behind.now)
    ≡ kind_front (type_at (drop n units)) =
    c.in_ok-kind.ensures ∙ ap (λ (left : List ℕ). kind_front (type_at left)) (rest_is units n) in
    plain_kind (type_at (drop n units)) (type_at units) c.in_ok-kind.kind _
    (no_dimensions (drop n units) c.dimensions_at-dimensions.ensures.no_more)
    (subst (λ (m : ℕ). arrays m (type_at (drop n units)) ≡ type_at units) c.in-0.is
    c.dimensions_at-dimensions.ensures.arrays) found

pub returns-in-1-to-255 : goal.returns-in-1-to-255
returns-in-1-to-255 c =
    let units = c.args.units.now in
    let n = c.dimensions_at-dimensions.result in
    let found : Some (c.in_ok-kind.kind, c.in_ok-kind.behind.now)
    ≡ kind_front (type_at (drop n units)) =
    c.in_ok-kind.ensures ∙ ap (λ (left : List ℕ). kind_front (type_at left)) (rest_is units n) in
    array_kind n (type_at (drop n units)) (type_at units) c.in_ok-kind.kind _ (omega arith) (omega arith)
    (no_dimensions (drop n units) c.dimensions_at-dimensions.ensures.no_more)
    c.dimensions_at-dimensions.ensures.arrays found

pub returns-in_default : goal.returns-in_default
returns-in_default c =
    let units = c.args.units.now in
    let n = c.dimensions_at-dimensions.result in
    deep_kind n (type_at (drop n units)) (type_at units) (omega arith)
    (no_dimensions (drop n units) c.dimensions_at-dimensions.ensures.no_more)
    c.dimensions_at-dimensions.ensures.arrays
