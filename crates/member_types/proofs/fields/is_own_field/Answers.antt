use Rattle.std.proofs.Common.{◌≡◌, bytes_eq, sym, ◌∙◌}
use Rattle.world_model.specs.LookUp.{find_field}
use Rattle.class_world.specs.World.{name_at}
use Rattle.class_world.proofs.Numbers.{name_at_place}
use Rattle.type_rules.proofs.Classes.{known-inside}
use Rattle.member_types.proofs.OwnFields.{found-at, own-field}
use Rattle.member_types.proofs.fields.is_own_field.Goals as goal

pub field_named-requires : goal.field_named-requires
field_named-requires g c = known-inside c.args.world.now c.args.field.now.class c.requires.field

pub class-requires : goal.class-requires
class-requires g c = known-inside c.args.world.now c.args.here.now.class c.requires.here.class_there

pub has_name-requires : goal.has_name-requires
has_name-requires g c =
    let w = c.args.world.now in
    let field = c.args.field.now in
    (found-at w c.in-Some.place (find_field w (name_at w field.class) field.name.now field.descriptor.now) c.in-Some.ensures.found).inside

pub returns-in-Some : goal.returns-in-Some
returns-in-Some g c = λ e is operand isf.
    let w = c.args.world.now in
    let field = c.args.field.now in
    let found = find_field w (name_at w field.class) field.name.now field.descriptor.now in
    let at = found-at w c.in-Some.place found c.in-Some.ensures.found in
    let same : find_field e.world isf.member.class isf.member.name isf.member.descriptor ≡ found =
    λ i. find_field (is.world_is i) (sym isf.class_name i) (sym isf.name i) (sym isf.descriptor i) in
    let own = c.as_slice-own.ensures ∙ c.class.ensures.2.name ∙ sym (name_at_place w c.args.here.now.class.0 c.class.ensures.0 c.class.ensures.1)
    ∙ sym is.class_name in
    c.has_name.ensures ∙ (λ i. bytes_eq (sym at.class_name i) (own i))
    ∙ sym (own-field e.class.name (find_field e.world isf.member.class isf.member.name isf.member.descriptor) at.field (same ∙ at.is_field))
