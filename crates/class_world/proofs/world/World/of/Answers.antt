use Rattle.std.proofs.Common.{List, bytes_eq, IsTrue, ap, sym, subst, ◌∙◌}
use Rattle.std.specs.List.{list_all, IsDistinct}
use Rattle.world_model.specs.Supertypes.{field_order, method_order}
use Rattle.class_world.specs.declared.class_info.ClassInfo.{ClassInfo}
use Rattle.class_world.specs.World.{world_of_infos, orders_of}
use Rattle.class_world.specs.Signatures.{has_members_once, GivesDeclared}
use Rattle.class_world.proofs.Filling.{have_members_once, orders_within, field_count, method_count, is_filled}
use Rattle.class_world.proofs.world.World.of.Goals as goal

pub declare_members-requires-clause-texts : goal.declare_members-requires-clause-texts
unfolding IsDistinct
declare_members-requires-clause-texts c = subst (IsDistinct bytes_eq) (sym c.new-texts.ensures) tt

pub declare_members-requires-clause-once : goal.declare_members-requires-clause-once
declare_members-requires-clause-once c =
    subst (λ (l : List ClassInfo). IsTrue (list_all has_members_once l)) (sym c.as_slice.ensures) (have_members_once c.args.classes.items c.requires.once)

pub new-requires : goal.new-requires
new-requires c =
    let infos = c.args.classes.items in
    let gives = subst (λ (l : List ClassInfo). GivesDeclared c.declare_members.new.texts l c.in_ok-declared.declared) c.as_slice.ensures c.in_ok-declared.ensures in
    orders_within infos (field_order (world_of_infos infos)) _ _
    (c.in_ok-field_orders.ensures ∙ ap (λ (l : List ClassInfo). orders_of (world_of_infos l) (field_order (world_of_infos l))) c.as_slice-2.ensures)
    (field_count infos _ _ gives)

pub new-requires-2 : goal.new-requires-2
new-requires-2 c =
    let infos = c.args.classes.items in
    let gives = subst (λ (l : List ClassInfo). GivesDeclared c.declare_members.new.texts l c.in_ok-declared.declared) c.as_slice.ensures c.in_ok-declared.ensures in
    orders_within infos (method_order (world_of_infos infos)) _ _
    (c.in_ok-method_orders.ensures ∙ ap (λ (l : List ClassInfo). orders_of (world_of_infos l) (method_order (world_of_infos l))) c.as_slice-3.ensures)
    (method_count infos _ _ gives)

pub invariant_of-result : goal.invariant_of-result
invariant_of-result c =
    let infos = c.args.classes.items in
    let gives = subst (λ (l : List ClassInfo). GivesDeclared c.declare_members.new.texts l c.in_ok-declared.declared) c.as_slice.ensures c.in_ok-declared.ensures in
    is_filled infos _ _ gives _ _ _ c.requires.infos c.requires.names c.requires.acyclic c.requires.once _ _
    (c.in_ok-field_orders.ensures ∙ ap (λ (l : List ClassInfo). orders_of (world_of_infos l) (field_order (world_of_infos l))) c.as_slice-2.ensures)
    (c.in_ok-method_orders.ensures ∙ ap (λ (l : List ClassInfo). orders_of (world_of_infos l) (method_order (world_of_infos l))) c.as_slice-3.ensures)
    c.new.ensures c.new-2.ensures
