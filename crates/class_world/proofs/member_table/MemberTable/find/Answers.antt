use Rattle.std.proofs.Common.{◌≡◌, true, List, ◌+◌, ◌≤◌, length, sym, subst, ap, ◌∙◌}
use Rattle.jv_types.specs.declared.number.ClassNo.{ClassNo}
use Rattle.class_names.specs.declared.signatures.Signature.{Signature}
use Rattle.class_world.specs.MemberTable.{is_order, first_with}
use Rattle.class_world.proofs.StoredOrders.{order_seen, declared_seen, order_inside}
use Rattle.class_world.proofs.member_table.MemberTable.find.Goals as goal

pub first_declaring-requires : goal.first_declaring-requires
first_declaring-requires g c =
    subst (λ (d : List (List Signature)). is_order d c.as_slice-2.result.now ≡ true) (sym c.as_slice.ensures)
    (order_inside _ _ _ _ c.self.view_is _ _ _ c.get.ensures c.as_slice-2.ensures c.self.invariant c.requires)

pub returns-clause-found : goal.returns-clause-found
returns-clause-found g c =
    let order = order_seen _ _ _ _ c.self.view_is _ _ _ c.get.ensures c.as_slice-2.ensures in
    let declared = declared_seen _ _ _ _ c.self.view_is _ _ _ c.get.ensures c.as_slice-2.ensures in
    c.first_declaring.ensures.found
    ∙ ap (λ (d : List (List Signature)). first_with d c.args.signature c.as_slice-2.result.now) (c.as_slice.ensures ∙ sym declared)
    ∙ ap (first_with c.args.self.now.declared c.args.signature) (sym order)

pub returns-clause-steps : goal.returns-clause-steps
returns-clause-steps g c =
    let order = order_seen _ _ _ _ c.self.view_is _ _ _ c.get.ensures c.as_slice-2.ensures in
    subst (λ (o : List ClassNo). c.first_declaring.new.steps ≤ c.args.steps.now + length o) (sym order) c.first_declaring.ensures.steps
