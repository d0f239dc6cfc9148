use Rattle.std.proofs.Common.{◌&&◌, ◌||◌, not, ◌∙◌, ap, sym}
use Rattle.std.specs.List.{list_any}
use Rattle.type_rules.specs.Frames.{is_uninitialized_this}
use Rattle.type_rules.proofs.Assigned.{locals_assignable-parts}
use Rattle.type_rules.proofs.frame_assignment.locals_assignable.Goals as goal

pub returns-then-not-all_go : goal.returns-then-not-all_go
returns-then-not-all_go g c =
    let none_goes = sym c.if-not-all_go.true ∙ c.all_go.ensures in
    (λ i. none_goes i && (not (list_any is_uninitialized_this c.args.from.now) || list_any is_uninitialized_this c.args.to.now))
    ∙ locals_assignable-parts c.args.world.now c.args.from.now c.args.to.now

pub returns-then-not-has_this : goal.returns-then-not-has_this
returns-then-not-has_this g c =
    let all_go = sym c.if-not-all_go.false ∙ c.all_go.ensures in
    let no_this = sym c.if-not-has_this.true ∙ c.has_this.ensures in
    ap not c.if-not-has_this.true
    ∙ (λ i. all_go i && (not (no_this i) || list_any is_uninitialized_this c.args.to.now))
    ∙ locals_assignable-parts c.args.world.now c.args.from.now c.args.to.now

pub returns-else-not-has_this : goal.returns-else-not-has_this
returns-else-not-has_this g c =
    let all_go = sym c.if-not-all_go.false ∙ c.all_go.ensures in
    let a_this = sym c.if-not-has_this.false ∙ c.has_this.ensures in
    c.has_this-else-not-has_this.ensures
    ∙ (λ i. all_go i && (not (a_this i) || list_any is_uninitialized_this c.args.to.now))
    ∙ locals_assignable-parts c.args.world.now c.args.from.now c.args.to.now
