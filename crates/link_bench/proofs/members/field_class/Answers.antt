use Rattle.std.proofs.Common.{◌≡◌, ◌∙◌, Some, ap, sym}
use Rattle.world_model.specs.World.{Class}
use Rattle.link_bench.proofs.Declaring.{declaring, declaring_inside}
use Rattle.link_bench.proofs.members.field_class.Goals as goal

pub class-requires : goal.class-requires
class-requires c =
    declaring_inside (λ (class : Class). class.fields) c.args.world.now c.in-Some.place.class.0 c.in-Some.place.index _ c.in-Some.ensures

pub returns-in-Some : goal.returns-in-Some
returns-in-Some c =
    let told = c.class.ensures in
    let found = declaring (λ (class : Class). class.fields) c.args.world.now c.in-Some.place.class.0 c.in-Some.place.index _ c.in-Some.ensures in
    let both : Some told.0 ≡ Some found.0 = sym told.1 ∙ found.1.there in
    let same : told.0 ≡ found.0 = cc in
    ap Some (c.as_slice.ensures ∙ told.2.name ∙ ap (λ (class : Class). class.name) same) ∙ sym found.1.named
