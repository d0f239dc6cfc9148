use Rattle.std.proofs.Common.{◌≡◌, ℕ, List, IsTrue, length, flat_map, ap, sym, subst, ◌∙◌, arith}
use Rattle.class_graph.specs.Graph.{are_inside}
use Rattle.class_world.specs.Hierarchy.{interfaces_at, inherited_by}
use Rattle.class_world.proofs.Numbers.{number}
use Rattle.class_world.proofs.MethodOrders.{chain_inside, row_added}
use Rattle.class_world.proofs.hierarchy.inherited_interfaces.Goals as goal

pub interfaces_of_all-requires : goal.interfaces_of_all-requires
interfaces_of_all-requires c =
    subst (λ (l : List ℕ). IsTrue (are_inside (length c.args.classes.now) l)) (sym (c.as_slice.ensures ∙ c.in_ok-chain.ensures))
    (chain_inside c.args.classes.now c.requires (length c.args.classes.now) (number c.in-Ok.number) (omega (arith, c.in-Ok.ensures)))

pub loop-number-preserved : goal.loop-number-preserved
loop-number-preserved c =
    let is_number : c.in-Ok.number ≡ c.loop-number.number = omega (arith, c.in-Ok.ensures) in
    let added = row_added (λ row. row.items) c.loop-number.rows.items c.push.new.self.items c.in_ok-interfaces_of_all.field-0 c.loop-number.number
    (inherited_by c.args.classes.now) c.loop-number.invariant.count c.loop-number.invariant.each_row c.in_ok-push.ensures.ok
    (c.in_ok-interfaces_of_all.ensures ∙ ap (flat_map (interfaces_at c.args.classes.now)) (c.as_slice.ensures ∙ c.in_ok-chain.ensures)
    ∙ ap (inherited_by c.args.classes.now) is_number) in
    record { count = added.0; each_row = added.1 }

pub returns : goal.returns
returns c =
    let all : c.loop-number.number ≡ length c.args.classes.now = omega arith in
    record {
      count = c.loop-number.invariant.count ∙ all;
      each_row = λ k inside. c.loop-number.invariant.each_row k (omega (arith, all, inside));
    }
