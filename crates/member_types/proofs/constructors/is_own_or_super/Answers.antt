use Rattle.std.proofs.Common.{◌||◌, option_to_list, bytes_eq, sym, ap, ◌∙◌}
use Rattle.std.specs.List.{list_any}
use Rattle.class_world.specs.World.{name_at}
use Rattle.class_world.proofs.Places.{bytes_eq-symm}
use Rattle.member_types.proofs.constructors.is_own_or_super.Goals as goal

pub returns-then-has_name : goal.returns-then-has_name
returns-then-has_name c = λ e is.
    let w = c.args.world.now in
    let name = c.args.class.now in
    let own = ap (bytes_eq name) is.class_name ∙ bytes_eq-symm name (name_at w c.args.here.now.class) ∙ sym c.has_name.ensures ∙ c.if-has_name.true in
    sym (λ i. own i || list_any (bytes_eq name) (option_to_list e.class.superclass))
